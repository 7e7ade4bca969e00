-- The beginnings of what a language spells, and readers that are stuck only behind one.
use Rattle.std.proofs.Common.{◌≡◌, ℕ, ◌+◌, ◌<◌, List, ◌++◌, length}
use Rattle.gc_lex.specs.declared.token.Token.{Token}
use Rattle.gc_grammar.specs.Words.{Point, Lang}
use Rattle.gc_parse_readers.specs.Readers.{Reader, Reading, Got, Stuck}

-- a list that a language spells from a point on
pub record Word {A : Type 0} (L : Lang A) (start : Point) : Type 0 where
  pub tokens : List Token
  pub value : A
  pub end : Point
  pub spelled : L start tokens value end

-- there is one from each point on
abbrev pub HasWord : {A : Type 0} → Lang A → Type 0
HasWord L = (start : Point) → Word L start

-- the tokens before a place begin a list that a language spells
pub record Begun {A : Type 0} (L : Lang A) (start : Point) (ts : List Token) (place : ℕ) : Type 0 where
  pub used : List Token
  pub rest : List Token
  pub whole : ts ≡ used ++ rest
  pub at : place ≡ start.token + length used
  pub more : List Token
  pub value : A
  pub end : Point
  pub spelled : L start (used ++ more) value end

-- the tokens before those that are left spell a value
pub record Read {A : Type 0} (L : Lang A) (start : Point) (ts : List Token) (a : A) (end : Point) (rest : List Token) : Type 0 where
  pub used : List Token
  pub whole : ts ≡ used ++ rest
  pub place : end.token ≡ start.token + length used
  pub spelled : L start used a end

-- what is given is spelled, and a reading is stuck behind a beginning
abbrev pub Goes : {A : Type 0} → Lang A → Point → List Token → Reading A → Type 0
Goes L start ts (Got a end rest) = Read L start ts a end rest
Goes L start ts (Stuck place) = Begun L start ts place

-- a reader goes so on lists shorter than a number, and the language has a word
pub record Viable {A : Type 0} (j : ℕ) (L : Lang A) (p : Reader A) : Type 0 where
  pub word : HasWord L
  pub goes : (start : Point) (ts : List Token) → length ts < j → Goes L start ts (p start ts)
