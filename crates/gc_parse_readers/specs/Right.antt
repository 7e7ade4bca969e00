-- When a reader is right about a language: what it gives is spelled, where it is stuck it is stuck
-- whatever follows, and what is spelled it reads.
use Rattle.std.specs.Prelude.{◌≡◌, ℕ, ◌+◌, ◌<◌, Bool, true, false, ◌&&◌, ◌||◌, List, [], ◌∷◌, ◌++◌, length, Option, Some, None, if◌then◌else◌}
use Rattle.gc_lex.specs.declared.token.Token.{Token}
use Rattle.gc_grammar.specs.Words.{Point, Lang}
use Rattle.gc_parse_readers.specs.Kinds.{kind, among, begins}
use Rattle.gc_parse_readers.specs.Readers.{Reader, Reading, Got, Stuck}

-- the first token of a list
abbrev pub front : List Token → Option Token
front [] = None
front (token ∷ ts) = Some token

-- two lists that begin with one token, or are both empty
abbrev pub Alike : List Token → List Token → Type 0
Alike ts us = front ts ≡ front us

-- what a choice with one token in hand asks of a language: the kinds of its first tokens, whether it
-- has the empty list, and the kinds of tokens with which it would go on
pub record Outline : Type 0 where
  pub first : List ℕ
  pub empty : Bool
  pub more : List ℕ

-- a list begins as the outline says
abbrev pub Opens : Outline → List Token → Type 0
Opens o [] = o.empty ≡ true
Opens o (token ∷ ts) = among o.first (kind token) ≡ true

-- a value was read: the tokens used spell it, and before any tokens that begin as those that are left
-- they are read so again
pub record Found {A : Type 0} (room : ℕ) (L : Lang A) (q : Reader A) (start : Point) (ts : List Token) (a : A) (end : Point) (rest : List Token) : Type 0 where
  pub used : List Token
  pub whole : ts ≡ used ++ rest
  pub place : end.token ≡ start.token + length used
  pub spelled : L start used a end
  pub again : (other : List Token) → Alike rest other → length (used ++ other) < room → q start (used ++ other) ≡ Got a end other

-- nothing was read: so it is before any tokens that begin as those that are left
pub record Refused {A : Type 0} (room : ℕ) (q : Reader A) (start : Point) (ts : List Token) (place : ℕ) : Type 0 where
  pub used : List Token
  pub rest : List Token
  pub whole : ts ≡ used ++ rest
  pub at : place ≡ start.token + length used
  pub again : (other : List Token) → Alike rest other → length (used ++ other) < room → q start (used ++ other) ≡ Stuck place

-- a reading says what it should
abbrev pub Sound : {A : Type 0} → ℕ → Lang A → Reader A → Point → List Token → Reading A → Type 0
Sound room L q start ts (Got a end rest) = Found room L q start ts a end rest
Sound room L q start ts (Stuck place) = Refused room q start ts place

-- a reader p for lists shorter than j is right about L, with q for those shorter than J; what M spells
-- it reads, before tokens with which M would not go on
pub record Right {A : Type 0} (j J : ℕ) (L M : Lang A) (p q : Reader A) (o : Outline) : Type 0 where
  pub sound : (start : Point) (ts : List Token) → length ts < j → Sound J L q start ts (p start ts)
  pub complete : (start end : Point) (used rest : List Token) (a : A)
      → M start used a end → length (used ++ rest) < j → begins o.more rest ≡ false → p start (used ++ rest) ≡ Got a end rest
  pub opened : (start end : Point) (ts : List Token) (a : A) → L start ts a end → Opens o ts
  pub opened_by : (start end : Point) (ts : List Token) (a : A) → M start ts a end → Opens o ts

-- the outlines of the words
abbrev pub one_of : List ℕ → Outline
one_of kinds = record { first = kinds; empty = false; more = [] }

abbrev pub both_of : Outline → Outline → Outline
both_of o p = record {
  first = if o.empty then o.first ++ p.first else o.first;
  empty = o.empty && p.empty;
  more = if p.empty then o.more ++ p.more else p.more;
}

abbrev pub either_of : Outline → Outline → Outline
either_of o p = record { first = o.first ++ p.first; empty = o.empty || p.empty; more = o.more ++ p.more }

abbrev pub optional_of : Outline → Outline
optional_of o = record { first = o.first; empty = true; more = o.first ++ o.more }

abbrev pub several_of : Outline → Outline
several_of o = both_of o (optional_of o)

abbrev pub separated_of : Outline → Outline → Outline
separated_of o separator = both_of o (optional_of (both_of separator o))
