-- What each assignment gives to all elements of its variable.
use Rattle.std.specs.Prelude.{◌≡◌, ℕ, List, [], map, fold, Result, Ok, Err, None, Some, slice_get, ⊤}
use Rattle.std.specs.Option.{unwrap_or}
use Rattle.gc_base.specs.PropertyLists.{put}
use Rattle.gc_base.specs.declared.literal.Literal.{Literal}
use Rattle.gc_base.specs.declared.place.Sym.{Sym}
use Rattle.gc_group.specs.Folds.{literals_of}
use Rattle.gc_build_numbers.specs.Settings.{Setting}
use Rattle.gc_build_numbers.specs.declared.numbered.Element.{Element}
use Rattle.gc_build_numbers.specs.declared.numbered.Numbered.{Numbered}
use Rattle.gc_build_recipe.specs.Recipes.{Assignment, Recipe}
use Rattle.gc_build_recipe.specs.declared.variable.Variable.{Variable}
use Rattle.gc_values.specs.Descriptions.{Description}
use Rattle.gc_build_descriptions.specs.Assigned.{assigned}
use Rattle.gc_build_descriptions.specs.Described.{of_variable, start_of, with_label, without_label, without_property}
use Rattle.gc_build_descriptions.specs.Faults.{elements_of, fault_of, first_fault}
use Rattle.gc_build_descriptions.specs.declared.fault.Refusal.{Refusal}
use Rattle.gc_build_descriptions.specs.declared.fault.Refusal.TheVariants as refusal

-- a property of a variable, with its values on each element, in their order
pub record Given : Type 0 where
  pub var : Sym
  pub property : List ℕ
  pub values : List (List Literal)

-- the values of an assignment on an element
abbrev pub given_to : Setting → Assignment → Element → List Literal
given_to s a e = literals_of (assigned s a e.group.rows)

-- what an assignment gives
abbrev pub given : Setting → List Numbered → Assignment → Given
given s variables a = record { var = a.var; property = a.property; values = map (given_to s a) (elements_of variables a.var) }

-- what an assignment gives, or its fault
abbrev pub Gives : Setting → List Numbered → Assignment → Result Given Refusal → Type 0
Gives s variables a (Ok g) = (fault_of s variables a ≡ None) × (g ≡ given s variables a)
Gives s variables a (Err (refusal.Fault f)) = fault_of s variables a ≡ Some f
Gives s variables a (Err refusal.Memory) = ⊤

-- what all assignments give, or the first fault
abbrev pub GiveAll : Setting → List Numbered → List Assignment → Result (List Given) Refusal → Type 0
GiveAll s variables assignments (Ok all) = (first_fault s variables assignments ≡ None) × (all ≡ map (given s variables) assignments)
GiveAll s variables assignments (Err (refusal.Fault f)) = first_fault s variables assignments ≡ Some f
GiveAll s variables assignments (Err refusal.Memory) = ⊤

-- a description with what is given to the element at a place
abbrev pub with_given : ℕ → Description → Given → Description
with_given place d g = record d { properties = put d.properties (record { name = g.property; values = unwrap_or (slice_get g.values place) [] }) }

-- the element at a place among those of a variable, where all assignments give this
abbrev pub described_with : Setting → Recipe → List Given → Variable → ℕ → Element → Description
described_with s r givens v place e =
    fold without_property
    (fold without_label
    (fold (with_given place)
    (fold with_label (start_of s v.start e.group.rows) (of_variable (λ l. l.var) v.var r.labels))
    (of_variable (λ g. g.var) v.var givens))
    (of_variable (λ l. l.var) v.var r.lost_labels))
    (of_variable (λ p. p.var) v.var r.lost_properties)
