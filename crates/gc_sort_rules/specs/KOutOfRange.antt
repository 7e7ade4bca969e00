-- S11. The number before SHORTEST is not 1 to 1,000.
-- `CONSTRUCT (n) MATCH (n)-/0 SHORTEST p<_>/->(m)` breaks it at `0`.
use Rattle.std.specs.Prelude.{ℤ, pos, negsuc, Bool, false, not, ◌&&◌, nat_le}
use Rattle.gc_sort_rules.specs.Places.{Occurrence, At, Count}

abbrev pub is_in_range : ℤ → Bool
is_in_range (pos n) = nat_le 1 n && nat_le n 1000
is_in_range (negsuc n) = false

abbrev pub breaks : Occurrence → Bool
breaks (At token (Count k) seen) = not (is_in_range k)
breaks occurrence = false
