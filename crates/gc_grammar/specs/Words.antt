-- The words that the grammar is written with. A language says which list of tokens spells which
-- value; each word below makes a language.
use Rattle.std.specs.Prelude.{◌≡◌, ℕ, ℤ, ◌+◌, false, List, [], ◌∷◌, ◌++◌, length, Option, Some, None}
use Rattle.gc_base.specs.Words.{is_reserved}
use Rattle.gc_lex.specs.declared.token.Token.{Token}
use Rattle.gc_lex.specs.declared.token.Token.TheVariants.{Word, Number, Text, Symbol}
use Rattle.gc_lex.specs.declared.token.Mark.{Mark}
use Rattle.gc_ast.specs.Trees.{Tree, AQuery, Named}

infixr 70 ◌▸◌
infixl 60 ◌◂◌
infixr 50 ◌⋅◌
infixl 40 ◌⇒◌
infixr 30 ◌∣◌
-- a point of a token list: how many tokens are before it, and the EXISTS queries of the expression
-- around it that are before it
pub record Point : Type 0 where
  pub token : ℕ
  pub exists : List (Tree AQuery)

-- from a point on, a list of tokens spells a value up to a point
abbrev pub Lang : Type 0 → Type 1
Lang A = Point → List Token → A → Point → Type 0

-- no list of tokens
abbrev pub nothing : {A : Type 0} → Lang A
nothing start ts a end = ⊥

-- the point after a token
abbrev pub next : Point → Point
next p = record { token = p.token + 1; exists = p.exists }

-- one token, which means the value
pub record One {A : Type 0} (Means : Token → A → Type 0) (start : Point) (ts : List Token) (a : A) (end : Point) : Type 0 where
  pub token : Token
  pub alone : ts ≡ token ∷ []
  pub means : Means token a
  pub after : end ≡ next start

-- L, and then M
pub record Both {A B : Type 0} (L : Lang A) (M : Lang B) (start : Point) (ts : List Token) (v : A × B) (end : Point) : Type 0 where
  pub early : List Token
  pub late : List Token
  pub between : Point
  pub whole : ts ≡ early ++ late
  pub before : L start early v.0 between
  pub behind : M between late v.1 end

-- L or M
pub data Either {A : Type 0} (L M : Lang A) (start : Point) (ts : List Token) (a : A) (end : Point) : Type 0 where
  this : L start ts a end → Either L M start ts a end
  that : M start ts a end → Either L M start ts a end

-- L, with the value that its value makes at its first token
pub record Made {A B : Type 0} (L : Lang A) (make : ℕ → A → B) (start : Point) (ts : List Token) (b : B) (end : Point) : Type 0 where
  pub value : A
  pub spelled : L start ts value end
  pub made : b ≡ make start.token value

abbrev pub ◌⋅◌ : {A B : Type 0} → Lang A → Lang B → Lang (A × B)
L ⋅ M = Both L M

abbrev pub ◌∣◌ : {A : Type 0} → Lang A → Lang A → Lang A
L ∣ M = Either L M

abbrev pub ◌⇒◌ : {A B : Type 0} → Lang A → (ℕ → A → B) → Lang B
L ⇒ make = Made L make

-- a language before another, with the value of the second
abbrev pub ◌▸◌ : {A B : Type 0} → Lang A → Lang B → Lang B
L ▸ M = (L ⋅ M) ⇒ λ n v. v.1

-- a language before another, with the value of the first
abbrev pub ◌◂◌ : {A B : Type 0} → Lang A → Lang B → Lang A
L ◂ M = (L ⋅ M) ⇒ λ n v. v.0

-- L at most once
abbrev pub optional : {A : Type 0} → Lang A → Lang (Option A)
optional L start ts None end = (ts ≡ []) × (end ≡ start)
optional L start ts (Some a) end = L start ts a end

-- L any number of times
abbrev pub many : {A : Type 0} → Lang A → Lang (List A)
many L start ts [] end = (ts ≡ []) × (end ≡ start)
many L start ts (a ∷ others) end =
    (early late : List Token) × (between : Point)
    × (ts ≡ early ++ late) × L start early a between × many L between late others end

-- L once or more often
abbrev pub several : {A : Type 0} → Lang A → Lang (List A)
several L = (L ⋅ many L) ⇒ λ n v. v.0 ∷ v.1

-- L once or more often, with a separator between
abbrev pub separated : {A B : Type 0} → Lang A → Lang B → Lang (List A)
separated L separator = (L ⋅ many (separator ▸ L)) ⇒ λ n v. v.0 ∷ v.1

-- L, whatever value it has, meaning this one
abbrev pub as_value : {A B : Type 0} → Lang A → B → Lang B
as_value L b = L ⇒ λ n v. b

-- a language of brackets that are less deep than some number
abbrev pub at_some_depth : {A : Type 0} → (ℕ → Lang A) → Lang A
at_some_depth L start ts a end = (depth : ℕ) × L depth start ts a end

-- a symbol
abbrev pub mark : Mark → Lang (Unit {0})
mark symbol = One (λ token u. token ≡ Symbol symbol)

-- a word that stands for itself, reserved or not
abbrev pub the_word : List ℕ → Lang (Unit {0})
the_word word = One (λ token u. token ≡ Word word)

-- any word
abbrev pub word : Lang (List ℕ)
word = One (λ token a. token ≡ Word a)

-- any number
abbrev pub number : Lang ℤ
number = One (λ token a. token ≡ Number a)

-- any text
abbrev pub text : Lang (List ℕ)
text = One (λ token a. token ≡ Text a)

-- a word that is not reserved
unfoldable pub IsName : List ℕ → Type 0
IsName a = is_reserved a ≡ false

-- a name without its token
abbrev pub plain_name : Lang (List ℕ)
plain_name = One (λ token a. (token ≡ Word a) × IsName a)

-- a name with its token
abbrev pub name : Lang Named
name = plain_name ⇒ λ n a. record { name = a; token = n }

-- an expression that is looked at by itself: the queries of its own EXISTS stand beside it
pub record Alone {A : Type 0} (L : Lang A) (start : Point) (ts : List Token) (v : A × List (Tree AQuery)) (end : Point) : Type 0 where
  pub last : Point
  pub spelled : L (record { token = start.token; exists = [] }) ts v.0 last
  pub queries : v.1 ≡ last.exists
  pub after : end ≡ record { token = last.token; exists = start.exists }

-- a query of an EXISTS, with its number: it is put behind those before it. The query itself has
-- EXISTS queries in its own expressions alone
pub record Numbered (L : Lang (Tree AQuery)) (start : Point) (ts : List Token) (i : ℕ) (end : Point) : Type 0 where
  pub query : Tree AQuery
  pub last : Point
  pub spelled : L (record { token = start.token; exists = [] }) ts query last
  pub number : i ≡ length start.exists
  pub after : end ≡ record { token = last.token; exists = start.exists ++ query ∷ [] }

abbrev pub alone : {A : Type 0} → Lang A → Lang (A × List (Tree AQuery))
alone L = Alone L

abbrev pub numbered : Lang (Tree AQuery) → Lang ℕ
numbered L = Numbered L
