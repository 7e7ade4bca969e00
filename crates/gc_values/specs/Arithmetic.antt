-- Arithmetic on values: exact over the whole numbers, or undefined.
use Rattle.std.specs.Prelude.{◌^◌, ℤ, zero, pos, negsuc, ◌+ℤ◌, ◌-ℤ◌, ◌*ℤ◌, neg_ℤ, int_div, int_rem, Bool, true, false, nat_lt, [], ◌∷◌, Option, Some, None, Result, Ok, Err, if◌then◌else◌}
use Rattle.gc_base.specs.declared.literal.Literal.{Literal}
use Rattle.gc_base.specs.declared.literal.Literal.TheVariants as literal
use Rattle.gc_expr.specs.declared.expr.ProductOp.{ProductOp}
use Rattle.gc_expr.specs.declared.expr.ProductOp.TheVariants as product
use Rattle.gc_values.specs.declared.numbers.Operand.{Operand}
use Rattle.gc_values.specs.declared.numbers.Operand.TheVariants.{Missing, Empty, Number, Other}
use Rattle.gc_values.specs.declared.numbers.Operation.{Operation}
use Rattle.gc_values.specs.declared.numbers.Operation.TheVariants.{Plus, Minus, Times, Divided, Remainder}
use Rattle.gc_values.specs.declared.val.Val.{Val}
use Rattle.gc_values.specs.declared.val.Val.TheVariants.{Set, Undefined}
use Rattle.gc_values.specs.declared.val.Why.{Why}
use Rattle.gc_values.specs.declared.val.Why.TheVariants.{Overflow, ZeroDivisor, WrongKind}

-- the set of one literal
abbrev pub one : Literal → Val
one l = Set (l ∷ [])

-- whether a whole number fits 64 bits with a sign
abbrev pub fits : ℤ → Bool
fits (pos n) = nat_lt n (2 ^ 63)
fits (negsuc n) = nat_lt n (2 ^ 63)

-- a number as it is, where it fits
abbrev pub exact : ℤ → Result ℤ Why
exact n = if fits n then Ok n else Err Overflow

-- the same of a number that is there where it fits
abbrev pub fitting : Option ℤ → Result ℤ Why
fitting (Some n) = Ok n
fitting None = Err Overflow

-- a quotient drops its fraction towards zero, and what it leaves of the left number is the remainder, which always fits
abbrev pub result_of : Operation → ℤ → ℤ → Result ℤ Why
result_of Plus m n = exact (m +ℤ n)
result_of Minus m n = exact (m -ℤ n)
result_of Times m n = exact (m *ℤ n)
result_of Divided m (pos zero) = Err ZeroDivisor
result_of Divided m n = exact (int_div m n)
result_of Remainder m (pos zero) = Err ZeroDivisor
result_of Remainder m n = Ok (int_rem m n)

-- the set of a number, or the reason why there is none
abbrev pub number_value : Result ℤ Why → Val
number_value (Ok n) = one (literal.Number n)
number_value (Err why) = Undefined why

-- what a value is as an operand: missing for a reason, empty, one number, or something else
abbrev pub operand_of : Val → Operand
operand_of (Undefined why) = Missing why
operand_of (Set []) = Empty
operand_of (Set (literal.Number n ∷ [])) = Number n
operand_of v = Other

-- the numbers of two operands, taken from left to right: the first that is missing gives its reason; else an empty one
-- gives none; else each has to be one number
abbrev pub numbers_of : Operand → Operand → Result (Option (ℤ × ℤ)) Why
numbers_of (Missing why) b = Err why
numbers_of a (Missing why) = Err why
numbers_of Empty b = Ok None
numbers_of a Empty = Ok None
numbers_of (Number m) (Number n) = Ok (Some (m, n))
numbers_of a b = Err WrongKind

-- an operation on these numbers; the empty set where there are none
abbrev pub on_numbers : Operation → Result (Option (ℤ × ℤ)) Why → Val
on_numbers op (Err why) = Undefined why
on_numbers op (Ok None) = Set []
on_numbers op (Ok (Some (m, n))) = number_value (result_of op m n)

-- an operation on two values
abbrev pub operated : Operation → Val → Val → Val
operated op a b = on_numbers op (numbers_of (operand_of a) (operand_of b))

-- the number with the other sign
abbrev pub negated_operand : Operand → Val
negated_operand (Missing why) = Undefined why
negated_operand Empty = Set []
negated_operand (Number n) = number_value (exact (neg_ℤ n))
negated_operand Other = Undefined WrongKind

abbrev pub negated : Val → Val
negated a = negated_operand (operand_of a)

-- what a later part of a sum does to what is before it, and a later part of a product
abbrev pub sum_operation : Bool → Operation
sum_operation false = Plus
sum_operation true = Minus

abbrev pub product_operation : ProductOp → Operation
product_operation product.Times = Times
product_operation product.Divided = Divided
product_operation product.Remainder = Remainder
