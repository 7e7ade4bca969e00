-- What a CONSTRUCT makes of each row.
use Rattle.std.specs.Prelude.{ℕ, ◌+◌, ◌==◌, List, [], map, Option, Some, None, slice_get}
use Rattle.std.specs.List.{find}
use Rattle.std.specs.Option.{option_map, option_and_then, unwrap_or}
use Rattle.gc_base.specs.declared.place.Sym.{Sym}
use Rattle.gc_build_descriptions.specs.Described.{blank}
use Rattle.gc_build_descriptions.specs.declared.described.Described.{Described}
use Rattle.gc_build_numbers.specs.Keys.{number_at, which_at}
use Rattle.gc_build_numbers.specs.Settings.{Setting}
use Rattle.gc_build_numbers.specs.declared.numbered.Numbered.{Numbered}
use Rattle.gc_ppg.specs.declared.shape.Kind.{Kind}
use Rattle.gc_ppg.specs.declared.shape.Kind.TheVariants as kind
use Rattle.gc_build_recipe.specs.declared.variable.Grouping.{Grouping}
use Rattle.gc_build_recipe.specs.declared.variable.Grouping.TheVariants as by
use Rattle.gc_build_recipe.specs.declared.variable.Variable.{Variable}
use Rattle.gc_rows.specs.Rows.{datum_at}
use Rattle.gc_rows.specs.declared.datum.Datum.{Datum}
use Rattle.gc_rows.specs.declared.datum.Datum.TheVariants as datum
use Rattle.gc_rows.specs.declared.row.Binding.{Binding}
use Rattle.gc_values.specs.Descriptions.{Description}
use Rattle.gc_values.specs.declared.reads.Made.{Made}

-- what is read, the variables, their elements with descriptions, and the next identity
pub record Making : Type 0 where
  pub setting : Setting
  pub variables : List Variable
  pub numbered : List Numbered
  pub described : List Described
  pub next : ℕ

-- the identity of an element: a bound one keeps its own, which is its number; new ones come from the next identity on
abbrev pub identity_by : (next : ℕ) → Grouping → (number : ℕ) → ℕ
identity_by next by.Bound number = number
identity_by next grouping number = next + number

-- the identity that the row at a place gives to a variable, if it makes an element of it
abbrev pub identity_of : Making → (place : ℕ) → Variable → Option ℕ
identity_of m place v = option_map (identity_by m.next v.grouping) (number_at m.numbered v.var place)

abbrev pub identity_at : Making → Sym → (place : ℕ) → Option ℕ
identity_at m x place = option_and_then (identity_of m place) (find (λ v. v.var.0 == x.0) m.variables)

-- the descriptions of a variable's elements
abbrev pub listed_descriptions : Option Described → List Description
listed_descriptions None = []
listed_descriptions (Some d) = d.descriptions

abbrev pub descriptions_of : List Described → Sym → List Description
descriptions_of described x = listed_descriptions (find (λ d. d.var.0 == x.0) described)

-- the description of the element that the row at a place makes
abbrev pub description_at : Making → Sym → (place : ℕ) → Description
description_at m x place = unwrap_or (option_and_then (slice_get (descriptions_of m.described x)) (which_at m.numbered x place)) blank

-- an element of a kind as what a variable stands for
abbrev pub element_of : Kind → ℕ → Datum
element_of kind.Node id = datum.Node id
element_of kind.Edge id = datum.Edge id
element_of kind.Path id = datum.Stored id

-- a new path of a found walk stands for the walk, which the row binds
abbrev pub datum_by : Grouping → Kind → (on_row : Option Datum) → Option ℕ → Option Datum
datum_by by.Walk k on_row id = on_row
datum_by grouping k on_row id = option_map (element_of k) id

-- a variable as a row makes it
abbrev pub made_with : Variable → Option Datum → Description → Made
made_with v datum d = record { var = v.var; datum = datum; labels = d.labels; properties = d.properties }

-- as the row at a place does
unfoldable pub made_at : Making → (place : ℕ) → List Binding → Variable → Made
made_at m place row v = made_with v (datum_by v.grouping v.kind (datum_at row v.var) (identity_of m place v)) (description_at m v.var place)

abbrev pub all_made : Making → (place : ℕ) → List Binding → List Made
all_made m place row = map (made_at m place row) m.variables
