-- Rows that have keys, gathered by their keys.
use Rattle.std.specs.Prelude.{◌≡◌, ℕ, ◌+◌, List, [], ◌∷◌, map, Option, None, Some}
use Rattle.std.specs.Ordering.{is_eq}
use Rattle.std.specs.List.{AllByRecursion, filter}
use Rattle.gc_base.specs.Ascending.{Ascends}
use Rattle.gc_group.specs.Groups.{key_order}
use Rattle.gc_group.specs.declared.grouping.Group.{Group}
use Rattle.gc_group.specs.declared.key.Key.{Key}
use Rattle.gc_rows.specs.Tables.{HasExactly}

-- the number of a row that has a key
pub record KeyedRow : Type 0 where
  pub key : Key
  pub row : ℕ

-- the rows that have keys, in order, where the first row has the number n
abbrev pub keyed_from : ℕ → List (Option Key) → List KeyedRow
keyed_from n [] = []
keyed_from n (None ∷ keys) = keyed_from (n + 1) keys
keyed_from n (Some key ∷ keys) = record { key = key; row = n } ∷ keyed_from (n + 1) keys

abbrev pub keyed_rows : List (Option Key) → List KeyedRow
keyed_rows keys = keyed_from 0 keys

-- the numbers of those rows that have this key, in the order in which they are listed
abbrev pub listed_with : Key → List KeyedRow → List ℕ
listed_with key rows = map (λ r. r.row) (filter (λ r. is_eq (key_order key r.key)) rows)

-- a row alone as a group
abbrev pub alone : KeyedRow → Group
alone r = record { key = r.key; rows = r.row ∷ [] }

-- the groups of rows, which are listed in any order: each key once, and under it the rows that have it
pub record AreGathered (listed : List KeyedRow) (groups : List Group) : Type 0 where
  pub ascend : Ascends key_order (map (λ g. g.key) groups)
  pub exact : HasExactly (map (λ r. r.key) listed) (map (λ g. g.key) groups)
  pub rows : AllByRecursion (λ g. g.rows ≡ listed_with g.key listed) groups
