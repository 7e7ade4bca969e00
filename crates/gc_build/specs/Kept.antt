-- Which instances of a construct chain are kept.
use Rattle.std.specs.Prelude.{ℕ, ◌+◌, Bool, true, false, ◌&&◌, List, [], ◌∷◌, Option, Some, None, is_some, slice_get}
use Rattle.std.specs.List.{list_all, list_any}
use Rattle.std.specs.Option.{unwrap_or}
use Rattle.gc_base.specs.declared.place.Sym.{Sym}
use Rattle.gc_expr.specs.Trees.{TreeOf, AnExpr}
use Rattle.gc_build_numbers.specs.declared.numbered.Element.{Element}
use Rattle.gc_build_recipe.specs.Recipes.{Chain}
use Rattle.gc_rows.specs.Rows.{datum_at, lists}
use Rattle.gc_rows.specs.declared.row.Binding.{Binding}
use Rattle.gc_values.specs.Contexts.{Context}
use Rattle.gc_values.specs.ExprTruths.{truth_of}
use Rattle.gc_values.specs.declared.truth3.Truth3.{Truth3}
use Rattle.gc_values.specs.declared.truth3.Truth3.TheVariants.{Yes}
use Rattle.gc_build.specs.Makings.{Making, all_made, identity_at}

-- Take the chain (x)-[y]->(z) WHEN x.k = 1: its instance on a row is dropped where the row makes no x, no y or no z, and where
-- x.k is not 1, or is unknown, as x was made.

-- each place of the chain has an identity
abbrev pub has_places : Making → Chain → (place : ℕ) → Bool
has_places m c place = list_all (λ x. is_some (identity_at m x place)) c.places

-- each path of which the chain takes the nodes and edges is bound
abbrev pub has_paths : Chain → List Binding → Bool
has_paths c row = list_all (λ p. is_some (datum_at row p)) c.projected

-- the condition is true of what was made
abbrev pub is_yes : Truth3 → Bool
is_yes Yes = true
is_yes t = false

abbrev pub when_context : Making → (place : ℕ) → List Binding → Context
when_context m place row = record { row = row; reads = m.setting.reads; graphs = m.setting.graphs; made = all_made m place row }

abbrev pub holds : Option (TreeOf Sym AnExpr) → Context → Bool
holds None ctx = true
holds (Some condition) ctx = is_yes (truth_of ctx [] condition)

-- the instance of a chain on a row at a place is kept
abbrev pub keeps : Making → Chain → (place : ℕ) → List Binding → Bool
keeps m c place row = (has_places m c place && has_paths c row) && holds c.condition (when_context m place row)

-- the same for each row, the first of which has this place
abbrev pub kept_from : Making → Chain → (place : ℕ) → List (List Binding) → List Bool
kept_from m c place [] = []
kept_from m c place (row ∷ rows) = keeps m c place row ∷ kept_from m c (place + 1) rows

-- the instances of a chain: its places, the paths that it projects, and whether that on each row is kept
pub record Kept : Type 0 where
  pub places : List Sym
  pub projected : List Sym
  pub rows : List Bool

abbrev pub kept_of : Making → Chain → Kept
kept_of m c = record { places = c.places; projected = c.projected; rows = kept_from m c 0 m.setting.rows }

-- the instance on the row at a place is kept
abbrev pub is_kept : (place : ℕ) → Kept → Bool
is_kept place k = unwrap_or (slice_get k.rows place) false

-- an element is claimed where an instance is kept that has it
abbrev pub has_instance : List Kept → Sym → (place : ℕ) → Bool
has_instance kept x place = list_any (λ k. lists k.places x && is_kept place k) kept

abbrev pub is_claimed : List Kept → Sym → Element → Bool
is_claimed kept x e = list_any (has_instance kept x) e.group.rows
