-- By what rows are grouped that make one element.
use Rattle.std.specs.Prelude.{ℕ, ◌+◌, ◌==◌, Bool, true, false, List, [], ◌∷◌, map, fold, Option, Some, None, is_some, slice_get, if◌then◌else◌}
use Rattle.std.specs.List.{find, list_all}
use Rattle.std.specs.Option.{option_map, option_and_then}
use Rattle.gc_base.specs.Ascending.{with_item}
use Rattle.gc_base.specs.declared.place.Sym.{Sym}
use Rattle.gc_ppg.specs.declared.shape.Kind.{Kind}
use Rattle.gc_ppg.specs.declared.shape.Kind.TheVariants as kind
use Rattle.gc_rows.specs.Rows.{cells, datum_at}
use Rattle.gc_rows.specs.declared.datum.Datum.{Datum}
use Rattle.gc_rows.specs.declared.datum.Datum.TheVariants as datum
use Rattle.gc_rows.specs.declared.row.Binding.{Binding}
use Rattle.gc_values.specs.Contexts.{Context}
use Rattle.gc_values.specs.Descriptions.{property_of, variable_described}
use Rattle.gc_group.specs.Folds.{literals_of}
use Rattle.gc_group.specs.Groups.{held_keys, key_order, rows_with}
use Rattle.gc_group.specs.declared.grouping.Group.{Group}
use Rattle.gc_group.specs.declared.key.Key.{Key}
use Rattle.gc_build_recipe.specs.declared.variable.Grouping.{Grouping}
use Rattle.gc_build_recipe.specs.declared.variable.Grouping.TheVariants as by
use Rattle.gc_build_recipe.specs.declared.variable.Term.{Term}
use Rattle.gc_build_recipe.specs.declared.variable.Variable.{Variable}
use Rattle.gc_build_numbers.specs.Settings.{Setting, on_row}
use Rattle.gc_build_numbers.specs.declared.numbered.Numbered.{Numbered}

-- Take two rows, x = node 4, y = node 7 and x = node 4, y unbound. Grouped by x both have the key (4); grouped by y the first has
-- the key (7), and the second has none; grouped by whole rows they have the keys (4, 7) and (4, unbound).

-- what is read of a datum for a term: the datum itself, or the values of a property as a set
abbrev pub read_of : Context → Sym → Option (List ℕ) → Datum → Datum
read_of ctx x None d = d
read_of ctx x (Some name) d = datum.Value (literals_of (property_of (variable_described ctx x) name))

-- the part of a key for a term: it is unbound where the term's variable is
abbrev pub term_part : Context → Term → Option Datum
term_part ctx t = option_map (read_of ctx t.var t.property) (datum_at ctx.row t.var)

-- the identity of an element
abbrev pub id_of : Datum → Option ℕ
id_of (datum.Node id) = Some id
id_of (datum.Edge id) = Some id
id_of (datum.Stored id) = Some id
id_of d = None

-- the row at a place in the table makes which of a variable's elements, if the variable is among those before
abbrev pub which_of : (place : ℕ) → Numbered → Option ℕ
which_of place v = option_and_then (λ which. which) (slice_get v.which place)

abbrev pub which_at : List Numbered → Sym → (place : ℕ) → Option ℕ
which_at before x place = option_and_then (which_of place) (find (λ v. v.var.0 == x.0) before)

-- the number of that element
abbrev pub number_in : (place : ℕ) → Numbered → Option ℕ
number_in place v = option_map (λ e. e.number) (option_and_then (slice_get v.elements) (which_of place v))

abbrev pub number_at : List Numbered → Sym → (place : ℕ) → Option ℕ
number_at before x place = option_and_then (number_in place) (find (λ v. v.var.0 == x.0) before)

-- the part of a key for the end of an edge: the number that the row gives to it
abbrev pub end_part : List Numbered → Sym → ℕ → Option Datum
end_part before x place = option_map datum.Node (number_at before x place)

-- a key is there where all of its parts are
abbrev pub whole : List (Option Datum) → Option Key
whole parts = if list_all is_some parts then Some (record { parts = parts }) else None

-- the key that is a datum alone
abbrev pub single_key : Datum → Option Key
single_key d = Some (record { parts = Some d ∷ [] })

-- a bound variable is grouped by the element that it stands for, where that is of the variable's kind
abbrev pub is_of_kind : Kind → Datum → Bool
is_of_kind kind.Node (datum.Node id) = true
is_of_kind kind.Edge (datum.Edge id) = true
is_of_kind kind.Path (datum.Stored id) = true
is_of_kind k d = false

abbrev pub bound_key : Kind → Option Datum → Option Key
bound_key k None = None
bound_key k (Some d) = if is_of_kind k d then single_key d else None

-- one that stands for a walk that was found, by the walk
abbrev pub walk_key : Option Datum → Option Key
walk_key (Some (datum.Found walk)) = single_key (datum.Found walk)
walk_key d = None

-- the key of a row at a place in the table; a whole row is a key with what is unbound in it
abbrev pub key_by : Setting → List Numbered → Sym → Kind → Grouping → ℕ → List Binding → Option Key
key_by s before x k by.Bound place row = bound_key k (datum_at row x)
key_by s before x k by.EachRow place row = Some (record { parts = cells s.schema row })
key_by s before x k by.Walk place row = walk_key (datum_at row x)
key_by s before x k (by.Terms terms) place row = whole (map (term_part (on_row s row)) terms)
key_by s before x k (by.Link source target terms) place row =
    whole (end_part before source place ∷ end_part before target place ∷ map (term_part (on_row s row)) terms)

-- whether rows are grouped by the element that a variable stands for, by that where it is a node, or by the ends of an edge alone
abbrev pub is_bound : Grouping → Bool
is_bound by.Bound = true
is_bound grouping = false

abbrev pub is_by_node : Kind → Grouping → Bool
is_by_node kind.Node grouping = is_bound grouping
is_by_node k grouping = false

abbrev pub is_by_ends : Grouping → Bool
is_by_ends (by.Link source target []) = true
is_by_ends grouping = false

-- the keys of rows, the first of which has this place
abbrev pub keys_from : Setting → List Numbered → Variable → (place : ℕ) → List (List Binding) → List (Option Key)
keys_from s before v place [] = []
keys_from s before v place (row ∷ rows) = key_by s before v.var v.kind v.grouping place row ∷ keys_from s before v (place + 1) rows

abbrev pub keys_of : Setting → List Numbered → Variable → List (Option Key)
keys_of s before v = keys_from s before v 0 s.rows

-- the keys that rows have, ascending, each once
abbrev pub distinct_keys : List (Option Key) → List Key
distinct_keys keys = fold (with_item key_order) [] (held_keys keys)

-- the groups of rows: each key with the places of its rows
abbrev pub groups_of : List (Option Key) → List Group
groups_of keys = map (λ key. record { key = key; rows = rows_with key keys }) (distinct_keys keys)
