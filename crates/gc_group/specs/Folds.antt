-- The value of an aggregate over the rows of a group.
use Rattle.std.specs.Prelude.{ℕ, ℤ, pos, ◌+ℤ◌, Bool, true, false, List, [], ◌∷◌, length, fold, Option, None, Some, is_some, unwrap_or, if◌then◌else◌}
use Rattle.std.specs.List.{filter, flat_map, list_all}
use Rattle.std.specs.Ordering.{is_lt, is_gt}
use Rattle.std.specs.declared.cmp.Ordering.{Ordering}
use Rattle.gc_base.specs.Ascending.{with_item}
use Rattle.gc_base.specs.Literals.{literal_order}
use Rattle.gc_base.specs.declared.literal.Literal.{Literal}
use Rattle.gc_base.specs.declared.literal.Literal.TheVariants as literal
use Rattle.gc_expr.specs.declared.expr.Fold.{Fold}
use Rattle.gc_expr.specs.declared.expr.Fold.TheVariants.{Rows, Count, Sum, Min, Max, Collect}
use Rattle.gc_group.specs.declared.ends.End.{End}
use Rattle.gc_group.specs.declared.ends.End.TheVariants.{Least, Greatest}
use Rattle.gc_values.specs.Arithmetic.{one, exact, number_value}
use Rattle.gc_values.specs.declared.val.Val.{Val}
use Rattle.gc_values.specs.declared.val.Val.TheVariants.{Set, Undefined}
use Rattle.gc_values.specs.declared.val.Why.{Why}
use Rattle.gc_values.specs.declared.val.Why.TheVariants.{WrongKind}

-- why the first operand without a value has none
abbrev pub first_reason : List Val → Option Why
first_reason [] = None
first_reason (Undefined why ∷ values) = Some why
first_reason (value ∷ values) = first_reason values

-- whether a row counts: all but the empty set
abbrev pub is_there : Val → Bool
is_there (Set []) = false
is_there value = true

-- a number of rows
abbrev pub number_set : ℕ → Val
number_set n = one (literal.Number (pos n))

-- what a row adds to a sum: nothing where it is empty, else its one number; what is something else can add nothing
abbrev pub addend : Val → Option ℤ
addend (Set []) = Some (pos 0)
addend (Set (literal.Number n ∷ [])) = Some n
addend value = None

-- the sum of what the rows add
abbrev pub total : List Val → ℤ
total values = fold (λ sum value. sum +ℤ unwrap_or (addend value) (pos 0)) (pos 0) values

-- the sum, where each row can add something and it fits 64 bits
abbrev pub summed : List Val → Val
summed values = if list_all (λ value. is_some (addend value)) values then number_value (exact (total values)) else Undefined WrongKind

-- the literals of a value: those of a set
abbrev pub literals_of : Val → List Literal
literals_of (Set literals) = literals
literals_of value = []

-- the literals of all rows
abbrev pub all_literals : List Val → List Literal
all_literals values = flat_map literals_of values

-- how a literal stands to one that is farther from an end of their order
abbrev pub test_of : End → Ordering → Bool
test_of Least = is_lt
test_of Greatest = is_gt

-- the lesser of two literals, or the greater; the first may be missing
abbrev pub outer : (Ordering → Bool) → Option Literal → Literal → Option Literal
outer test None y = Some y
outer test (Some x) y = if test (literal_order y x) then Some y else Some x

abbrev pub least : List Literal → Option Literal
least literals = fold (outer is_lt) None literals

abbrev pub greatest : List Literal → Option Literal
greatest literals = fold (outer is_gt) None literals

-- literals as a set
abbrev pub collected : List Literal → List Literal
collected literals = fold (with_item literal_order) [] literals

-- the set of a literal, or the empty set
abbrev pub set_of : Option Literal → Val
set_of None = Set []
set_of (Some x) = one x

-- an aggregate over operands that all have a value
abbrev pub defined : Fold → List Val → Val
defined Rows values = number_set (length values)
defined Count values = number_set (length (filter is_there values))
defined Sum values = summed values
defined Min values = set_of (least (all_literals values))
defined Max values = set_of (greatest (all_literals values))
defined Collect values = Set (collected (all_literals values))

-- an operand without a value leaves the aggregate without one
abbrev pub defined_or : Option Why → Val → Val
defined_or (Some why) value = Undefined why
defined_or None value = value

-- why an operand leaves the aggregate without a value; COUNT(*) asks nothing of it
abbrev pub reason : Fold → List Val → Option Why
reason Rows values = None
reason how values = first_reason values

-- an aggregate over the operands of the rows of a group
abbrev pub folded : Fold → List Val → Val
folded how values = defined_or (reason how values) (defined how values)
