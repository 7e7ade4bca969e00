-- The first assignment that is undefined on a row of a group.
use Rattle.std.specs.Prelude.{ℕ, ◌==◌, List, [], ◌∷◌, fold, Option, Some, None, if◌then◌else◌}
use Rattle.std.specs.List.{find, flat_map}
use Rattle.std.specs.Ordering.{is_lt, nat_cmp}
use Rattle.gc_base.specs.declared.place.Sym.{Sym}
use Rattle.gc_build_numbers.specs.Settings.{Setting}
use Rattle.gc_build_numbers.specs.declared.numbered.Element.{Element}
use Rattle.gc_build_numbers.specs.declared.numbered.Numbered.{Numbered}
use Rattle.gc_build_recipe.specs.Recipes.{Assignment}
use Rattle.gc_values.specs.declared.val.Val.{Val}
use Rattle.gc_values.specs.declared.val.Val.TheVariants.{Undefined}
use Rattle.gc_build_descriptions.specs.Assigned.{assigned_values}
use Rattle.gc_build_descriptions.specs.declared.fault.Fault.{Fault}

-- Take `{a := x.k / 0}, {b := x.k + TRUE}` on two rows, of which the first has no k: the fault is ZeroDivisor at the first
-- assignment, on the second of them.

-- the elements of a variable
abbrev pub listed_elements : Option Numbered → List Element
listed_elements None = []
listed_elements (Some v) = v.elements

abbrev pub elements_of : List Numbered → Sym → List Element
elements_of variables x = listed_elements (find (λ v. v.var.0 == x.0) variables)

-- the rows without a value among rows with these values
abbrev pub faults_among : Assignment → (places : List ℕ) → List Val → List Fault
faults_among a (place ∷ places) (Undefined why ∷ values) = record { at = a.token; row = place; why = why } ∷ faults_among a places values
faults_among a (place ∷ places) (value ∷ values) = faults_among a places values
faults_among a places values = []

abbrev pub faults_in : Setting → Assignment → Element → List Fault
faults_in s a e = faults_among a e.group.rows (assigned_values s a e.group.rows)

-- the fault at the lesser row
abbrev pub lesser : Option Fault → Fault → Option Fault
lesser None g = Some g
lesser (Some f) g = if is_lt (nat_cmp g.row f.row) then Some g else Some f

-- the fault of an assignment at the least row of all groups of its variable
abbrev pub fault_of : Setting → List Numbered → Assignment → Option Fault
fault_of s variables a = fold lesser None (flat_map (faults_in s a) (elements_of variables a.var))

-- the first that is there
abbrev pub or_else : Option Fault → Option Fault → Option Fault
or_else None g = g
or_else (Some f) g = Some f

-- the fault of the first assignment in the text that has one
abbrev pub first_fault : Setting → List Numbered → List Assignment → Option Fault
first_fault s variables [] = None
first_fault s variables (a ∷ assignments) = or_else (fault_of s variables a) (first_fault s variables assignments)
