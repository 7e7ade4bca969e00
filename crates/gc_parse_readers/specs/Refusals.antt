-- Where lists of tokens are refused.
use Rattle.std.specs.Prelude.{◌≡◌, ◌+◌, ◌≤◌, ℕ, List, ◌++◌, length, take}
use Rattle.gc_lex.specs.declared.token.Token.{Token}

-- tokens begin a list that spells a value
abbrev pub Begins : {A : Type 0} → (List Token → A → Type 0) → List Token → Type 0
Begins {A = A} Spells ts = (more : List Token) × (a : A) × Spells (ts ++ more) a

-- the token of a number is the first with which no list begins so that spells a value, or the end is the first place where one
-- would have to come: the tokens before it begin such a list, and no list that agrees up to and including it is one
abbrev pub IsRefusedAt : {A : Type 0} → (List Token → A → Type 0) → List Token → ℕ → Type 0
IsRefusedAt {A = A} Spells ts place =
    (place ≤ length ts) × Begins Spells (take place ts)
    × ((us : List Token) (a : A) → take (place + 1) us ≡ take (place + 1) ts → Spells us a → ⊥)
