use Rattle.std.proofs.Common.{◌≡◌, ◌++◌, take}
use Rattle.std.specs.List.{flat_map}
use Rattle.gc_query.specs.UsedViews.{used_by}
use Rattle.gc_query.proofs.used_views.push_atoms.Given as goal

abbrev pub invariant-loop-atom : goal.invariant-loop-atom
invariant-loop-atom l = l.uses.items ≡ l.initial.uses.items ++ flat_map used_by (take l.atom-index l.atoms)
