use Rattle.std.proofs.Common.{◌≡◌, ◌++◌, map, take}
use Rattle.gc_query.proofs.used_views.push_views.Given as goal

abbrev pub invariant-loop-used : goal.invariant-loop-used
invariant-loop-used l = l.uses.items ≡ l.initial.uses.items ++ map (λ used. record { view = used.view.0; graph = l.graph }) (take l.used-index l.views)
