use Rattle.std.proofs.Common.{◌≡◌, [], ◌∷◌}
use Rattle.gc_bench.proofs.join.second_rows.Given as goal

-- the schema is that of the two variables
abbrev pub invariant-loop-number : goal.invariant-loop-number
invariant-loop-number l = l.rows.schema ≡ record { 0 = 1 } ∷ record { 0 = 2 } ∷ []
