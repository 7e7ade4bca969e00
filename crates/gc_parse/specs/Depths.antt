-- Brackets that are too deep.
use Rattle.std.specs.Prelude.{ℕ, zero, suc, ◌+◌, ◌<◌, ◌≤◌, Bool, true, false, List, length, take, nat_lt, Option, Some, None, if◌then◌else◌}
use Rattle.gc_lex.specs.declared.token.Token.{Token}
use Rattle.gc_lex.specs.declared.token.Token.TheVariants.{Symbol}
use Rattle.gc_lex.specs.declared.token.Mark.{Mark}
use Rattle.gc_lex.specs.declared.token.Mark.TheVariants.{OpenParenthesis, CloseParenthesis, OpenBracket, CloseBracket, OpenBrace, CloseBrace}
use Rattle.std.specs.List.{filter}

-- `(`, `[` and `{`
abbrev pub is_opening_mark : Mark → Bool
is_opening_mark OpenParenthesis = true
is_opening_mark OpenBracket = true
is_opening_mark OpenBrace = true
is_opening_mark other = false

-- `)`, `]` and `}`
abbrev pub is_closing_mark : Mark → Bool
is_closing_mark CloseParenthesis = true
is_closing_mark CloseBracket = true
is_closing_mark CloseBrace = true
is_closing_mark other = false

abbrev pub is_opening : Token → Bool
is_opening (Symbol mark) = is_opening_mark mark
is_opening token = false

abbrev pub is_closing : Token → Bool
is_closing (Symbol mark) = is_closing_mark mark
is_closing token = false

-- 1 where it is so
abbrev pub one_if : Bool → ℕ
one_if is = if is then 1 else 0

-- the opening brackets are more than 64 above the closing ones
abbrev pub IsTooDeep : List Token → Type 0
IsTooDeep ts = length (filter is_closing ts) + 64 < length (filter is_opening ts)

-- with the token of this number the brackets are too deep for the first time; or they never are
abbrev pub IsDepthFault : List Token → Option ℕ → Type 0
IsDepthFault ts None = (n : ℕ) → IsTooDeep (take n ts) → ⊥
IsDepthFault ts (Some k) = IsTooDeep (take (k + 1) ts) × ((n : ℕ) → n ≤ k → IsTooDeep (take n ts) → ⊥)

-- whether they are
abbrev pub is_too_deep : List Token → Bool
is_too_deep ts = nat_lt (length (filter is_closing ts) + 64) (length (filter is_opening ts))

-- the first of so many numbers from one on that passes a test
abbrev pub first_from : (ℕ → Bool) → (from count : ℕ) → Option ℕ
first_from test from zero = None
first_from test from (suc count) = if test from then Some from else first_from test (suc from) count

-- the number of the first token with which the brackets are too deep, if there is one
abbrev pub depth_fault_in : List Token → Option ℕ
depth_fault_in ts = first_from (λ k. is_too_deep (take (k + 1) ts)) 0 (length ts)
