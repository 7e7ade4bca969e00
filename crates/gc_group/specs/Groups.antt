-- Groups of rows by their keys.
use Rattle.std.specs.Prelude.{◌≡◌, ℕ, ◌+◌, Bool, false, List, [], ◌∷◌, map, Option, None, Some, if◌then◌else◌}
use Rattle.std.specs.declared.cmp.Ordering.{Ordering}
use Rattle.std.specs.Ordering.{is_eq, on}
use Rattle.std.specs.Cmp.Lexicographic.{slice_cmp}
use Rattle.std.specs.List.{AllByRecursion, flat_map}
use Rattle.std.specs.Option.{option_cmp, option_to_list}
use Rattle.gc_base.specs.Ascending.{Ascends}
use Rattle.gc_group.specs.declared.grouping.Group.{Group}
use Rattle.gc_group.specs.declared.key.Key.{Key}
use Rattle.gc_rows.specs.Data.{datum_order}
use Rattle.gc_rows.specs.Tables.{HasExactly}

-- keys are compared part by part, as rows of a table are; unbound is first
abbrev pub key_order : Key → Key → Ordering
key_order = on (λ key. key.parts) (slice_cmp (option_cmp datum_order))

-- the keys that rows have
abbrev pub held_keys : List (Option Key) → List Key
held_keys keys = flat_map option_to_list keys

-- whether the key of a row is this one
abbrev pub is_key : Key → Option Key → Bool
is_key key None = false
is_key key (Some other) = is_eq (key_order key other)

-- the numbers of the rows with a key, ascending, where the first row has the number n
abbrev pub rows_from : ℕ → Key → List (Option Key) → List ℕ
rows_from n key [] = []
rows_from n key (other ∷ others) = if is_key key other then n ∷ rows_from (n + 1) key others else rows_from (n + 1) key others

abbrev pub rows_with : Key → List (Option Key) → List ℕ
rows_with key keys = rows_from 0 key keys

-- the groups of rows with these keys: keys ascend, so that none comes twice; they are exactly those that rows have; each has the rows with it
pub record AreGroupsOf (keys : List (Option Key)) (groups : List Group) : Type 0 where
  pub ascend : Ascends key_order (map (λ g. g.key) groups)
  pub exact : HasExactly (held_keys keys) (map (λ g. g.key) groups)
  pub rows : AllByRecursion (λ g. g.rows ≡ rows_with g.key keys) groups
