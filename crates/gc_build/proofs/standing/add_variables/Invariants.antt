use Rattle.std.proofs.Common.{◌≡◌, ◌++◌, map, take}
use Rattle.gc_build.proofs.standing.add_variables.Given as goal

-- those so far
abbrev pub invariant-loop-var : goal.invariant-loop-var
invariant-loop-var l = l.found.items ≡ l.initial.found.items ++ map (λ x. record { var = x; kept = l.kept }) (take l.var-index l.variables)
