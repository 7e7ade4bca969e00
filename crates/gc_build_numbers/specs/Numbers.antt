-- How the elements of a CONSTRUCT are numbered.
use Rattle.std.specs.Prelude.{ℕ, Bool, if◌then◌else◌, ◌+◌, List, [], ◌∷◌, ◌++◌, map, fold, length, Option, Some, None, slice_get, slice_set}
use Rattle.std.specs.List.{filter, list_any}
use Rattle.std.specs.Option.{option_and_then, unwrap_or}
use Rattle.std.specs.Ordering.{is_eq, is_lt}
use Rattle.gc_base.specs.declared.place.Sym.{Sym}
use Rattle.gc_group.specs.Groups.{key_order}
use Rattle.gc_group.specs.declared.grouping.Group.{Group}
use Rattle.gc_group.specs.declared.key.Key.{Key}
use Rattle.gc_build_recipe.specs.declared.variable.Grouping.{Grouping}
use Rattle.gc_build_recipe.specs.declared.variable.Grouping.TheVariants as by
use Rattle.gc_build_recipe.specs.declared.variable.Variable.{Variable}
use Rattle.gc_build_numbers.specs.Keys.{groups_of, id_of, keys_of}
use Rattle.gc_build_numbers.specs.Settings.{Setting}
use Rattle.gc_build_numbers.specs.declared.numbered.Element.{Element}
use Rattle.gc_build_numbers.specs.declared.numbered.Numbered.{Numbered}
use Rattle.gc_build_numbers.specs.declared.numbered.Numbering.{Numbering}

-- the identity in the key of a bound element
abbrev pub bound_number : Key → ℕ
bound_number key = unwrap_or (option_and_then id_of (option_and_then (λ part. part) (slice_get key.parts 0))) 0

-- elements that are numbered in their order, from this number on
abbrev pub numbered_from : ℕ → List Group → List Element
numbered_from n [] = []
numbered_from n (g ∷ groups) = record { number = n; group = g } ∷ numbered_from (n + 1) groups

-- the elements of groups: a bound element keeps its identity, new ones are numbered from the next number on
abbrev pub elements_by : Grouping → (next : ℕ) → List Group → List Element
elements_by by.Bound next groups = map (λ g. record { number = bound_number g.key; group = g }) groups
elements_by grouping next groups = numbered_from next groups

-- how many new numbers groups take
abbrev pub taken_by : Grouping → List Group → ℕ
taken_by by.Bound groups = 0
taken_by grouping groups = length groups

-- which of the elements has a key: elements ascend by their keys, so that as many stand before it as are below it
abbrev pub has_key : Key → Element → Bool
has_key key e = is_eq (key_order e.group.key key)

abbrev pub is_below : Key → Element → Bool
is_below key e = is_lt (key_order e.group.key key)

abbrev pub which_has : List Element → Key → Option ℕ
which_has elements key = if list_any (has_key key) elements then Some (length (filter (is_below key) elements)) else None

-- which elements rows make, where one row more makes the element at this place
abbrev pub with_place : (place : ℕ) → List (Option ℕ) → (row : ℕ) → List (Option ℕ)
with_place place which row = slice_set which row (Some place)

-- a variable with elements, and which of them each row makes
abbrev pub numbered_by : Sym → List (Option Key) → List Element → Numbered
numbered_by x keys elements = record { var = x; elements = elements; which = map (option_and_then (which_has elements)) keys }

-- one variable more
abbrev pub with_keys : Variable → Numbering → List (Option Key) → Numbering
with_keys v so_far keys = record {
  next = so_far.next + taken_by v.grouping (groups_of keys);
  variables = so_far.variables ++ numbered_by v.var keys (elements_by v.grouping so_far.next (groups_of keys)) ∷ [];
}

abbrev pub with_variable : Setting → Numbering → Variable → Numbering
with_variable s so_far v = with_keys v so_far (keys_of s so_far.variables v)

-- all variables in their order; new elements are numbered from 0 on
abbrev pub numbering : Setting → List Variable → Numbering
numbering s variables = fold (with_variable s) (record { next = 0; variables = [] }) variables
