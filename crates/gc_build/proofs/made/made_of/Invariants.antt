use Rattle.std.proofs.Common.{◌≡◌, map, take}
use Rattle.gc_build.specs.Makings.{made_at}
use Rattle.gc_build.proofs.made.made_of.Given as goal

-- the variables so far
abbrev pub invariant-loop-variable : goal.invariant-loop-variable
invariant-loop-variable l = l.made.items ≡ map (made_at l.making l.place l.row) (map (λ v. v.now) (take l.variable-index l.variables))
