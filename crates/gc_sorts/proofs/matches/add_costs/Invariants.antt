use Rattle.std.proofs.Common.{◌≡◌, ◌++◌, drop, map}
use Rattle.gc_sorts.specs.Variables.{use_by, cost_names}
use Rattle.gc_sorts.proofs.matches.add_costs.Given as goal

abbrev pub invariant-loop-place : goal.invariant-loop-place
invariant-loop-place l = record {
  names : l.costs.names ≡ l.initial.costs.names;
  order : l.costs.order ++ cost_names (map (use_by l.variables.names) (drop l.place-index l.place-items)) ≡ l.initial.costs.order ++ cost_names (map (use_by l.variables.names) l.place-items);
}
