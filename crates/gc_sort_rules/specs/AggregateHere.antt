-- S12. COUNT, SUM, MIN, MAX or COLLECT stands elsewhere than in the right side of `:=`, or in another one.
-- `CONSTRUCT (n) MATCH (n) WHERE COUNT(*) = 1` breaks it at COUNT.
use Rattle.std.specs.Prelude.{Bool, true, false}
use Rattle.gc_sort_rules.specs.Places.{Occurrence, At, Aggregate, Assigned}

abbrev pub breaks : Occurrence → Bool
breaks (At token (Aggregate Assigned) seen) = false
breaks (At token (Aggregate around) seen) = true
breaks occurrence = false
