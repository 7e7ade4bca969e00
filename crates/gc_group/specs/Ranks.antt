-- Numbers that ascend with keys, which are compared before the keys are.
use Rattle.std.specs.Prelude.{◌≡◌, ℕ, ◌+◌, ◌^◌, min, Bool, false, nat_lt, cond, List, [], ◌∷◌, Option, None, Some}
use Rattle.gc_group.specs.declared.ranks.Ranks.{Ranks}
use Rattle.gc_rows.specs.declared.datum.Datum.{Datum}
use Rattle.gc_rows.specs.declared.datum.Datum.TheVariants.{Node, Edge, Stored}

-- Take a key of two nodes, 3 and 5: its first number is 4, and its second 6. In a graph whose identities are below 2^60 two such keys
-- are told apart by these numbers alone.

-- the number of a part of a key: elements of one kind by identity, up to a bound, unbound first, and all else alike
abbrev pub part_rank : Option Datum → ℕ
part_rank None = 0
part_rank (Some (Node id)) = 1 + min id (2 ^ 60)
part_rank (Some (Edge id)) = 2 ^ 61 + min id (2 ^ 60)
part_rank (Some (Stored id)) = 2 ^ 62 + min id (2 ^ 60)
part_rank (Some other) = 2 ^ 63

-- whether no other part has the number of this one
abbrev pub is_told : Option Datum → Bool
is_told (Some (Node id)) = nat_lt id (2 ^ 60)
is_told (Some (Edge id)) = nat_lt id (2 ^ 60)
is_told (Some (Stored id)) = nat_lt id (2 ^ 60)
is_told other = false

-- the number of the first part, and that of the second, where the first is told by its own
abbrev pub first_rank : List (Option Datum) → ℕ
first_rank [] = 0
first_rank (part ∷ parts) = part_rank part

abbrev pub second_rank : List (Option Datum) → ℕ
second_rank (part ∷ next ∷ parts) = cond (is_told part) (part_rank next) 0
second_rank parts = 0

-- these are the numbers of a key
pub record AreRanksOf (parts : List (Option Datum)) (ranks : Ranks) : Type 0 where
  pub first : ranks.first ≡ first_rank parts
  pub second : ranks.second ≡ second_rank parts
