-- The labels and properties of the elements that a CONSTRUCT makes.
use Rattle.std.specs.Prelude.{◌≡◌, ℕ, ◌==◌, List, [], map, fold, Option, Some, None, Result, Ok, Err, slice_get, ⊤}
use Rattle.std.specs.List.{filter}
use Rattle.std.specs.Option.{unwrap_or}
use Rattle.gc_base.specs.Ascending.{with_item, without_item}
use Rattle.gc_base.specs.Literals.{text_order}
use Rattle.gc_base.specs.PropertyLists.{put}
use Rattle.gc_base.specs.declared.place.Sym.{Sym}
use Rattle.gc_group.specs.Folds.{literals_of}
use Rattle.gc_build_numbers.specs.Settings.{Setting, on_row}
use Rattle.gc_build_numbers.specs.declared.numbered.Element.{Element}
use Rattle.gc_build_numbers.specs.declared.numbered.Numbered.{Numbered}
use Rattle.gc_build_recipe.specs.Recipes.{Assignment, Recipe}
use Rattle.gc_build_recipe.specs.declared.change.LabelOf.{LabelOf}
use Rattle.gc_build_recipe.specs.declared.change.PropertyOf.{PropertyOf}
use Rattle.gc_build_recipe.specs.declared.variable.Variable.{Variable}
use Rattle.gc_values.specs.Descriptions.{Description, Seen, variable_described}
use Rattle.gc_build_descriptions.specs.Assigned.{assigned, row_at}
use Rattle.gc_build_descriptions.specs.Faults.{elements_of, first_fault}
use Rattle.gc_build_descriptions.specs.declared.described.Described.{Described}
use Rattle.gc_build_descriptions.specs.declared.fault.Refusal.{Refusal}
use Rattle.gc_build_descriptions.specs.declared.fault.Refusal.TheVariants as refusal

-- no labels and no properties
abbrev pub blank : Description
blank = record { labels = []; properties = [] }

abbrev pub seen_or_blank : Seen → Description
seen_or_blank (Ok (Some d)) = d
seen_or_blank seen = blank

-- what an element starts with: what the first of its rows tells of a variable, if it starts with one
abbrev pub start_of : Setting → Option Sym → List ℕ → Description
start_of s None places = blank
start_of s (Some x) places = seen_or_blank (variable_described (on_row s (row_at s (unwrap_or (slice_get places 0) 0))) x)

-- a label more, and a label less
abbrev pub with_label : Description → LabelOf → Description
with_label d l = record d { labels = with_item text_order d.labels l.label }

abbrev pub without_label : Description → LabelOf → Description
without_label d l = record d { labels = without_item text_order d.labels l.label }

-- with the values of an assignment in place of those that the property had; none of them is absence
abbrev pub with_assigned : Setting → List ℕ → Description → Assignment → Description
with_assigned s places d a = record d { properties = put d.properties (record { name = a.property; values = literals_of (assigned s a places) }) }

abbrev pub without_property : Description → PropertyOf → Description
without_property d p = record d { properties = put d.properties (record { name = p.property; values = [] }) }

-- those that are of a variable
abbrev pub of_variable : {X : Type 0} → (X → Sym) → Sym → List X → List X
of_variable var x items = filter (λ item. (var item).0 == x.0) items

-- what a recipe says of a variable, done to what an element starts with: labels, assignments in the order of the text, and last
-- what is taken away
abbrev pub done : Setting → Recipe → Sym → List ℕ → Description → Description
done s r x places start =
    fold without_property
    (fold without_label
    (fold (with_assigned s places)
    (fold with_label start (of_variable (λ l. l.var) x r.labels))
    (of_variable (λ a. a.var) x r.assignments))
    (of_variable (λ l. l.var) x r.lost_labels))
    (of_variable (λ p. p.var) x r.lost_properties)

-- an element of a variable
abbrev pub described : Setting → Recipe → Variable → Element → Description
described s r v e = done s r v.var e.group.rows (start_of s v.start e.group.rows)

-- a variable with the descriptions of its elements, in their order
abbrev pub described_variable : Setting → Recipe → List Numbered → Variable → Described
described_variable s r variables v = record { var = v.var; descriptions = map (described s r v) (elements_of variables v.var) }

-- descriptions of all variables, or the fault of the first assignment that has one
abbrev pub Describes : Setting → Recipe → List Numbered → Result (List Described) Refusal → Type 0
Describes s r variables (Ok all) = (first_fault s variables r.assignments ≡ None) × (all ≡ map (described_variable s r variables) r.variables)
Describes s r variables (Err (refusal.Fault f)) = first_fault s variables r.assignments ≡ Some f
Describes s r variables (Err refusal.Memory) = ⊤
