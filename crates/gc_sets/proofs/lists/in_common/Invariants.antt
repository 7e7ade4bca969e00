use Rattle.std.proofs.Common.{◌≡◌, ◌++◌, drop}
use Rattle.gc_sets.specs.Intersections.{in_common}
use Rattle.gc_sets.proofs.lists.in_common.Given as goal

-- those so far with those of the rest are all that are common
abbrev pub invariant-loop-i : goal.invariant-loop-i
invariant-loop-i g l =
    l.kept.items ++ in_common g.T.Part.common g.T.Part.id_of (drop l.i (g.T.Part.all l.a)) (g.T.Part.all l.b) ≡ in_common g.T.Part.common g.T.Part.id_of (g.T.Part.all l.a) (g.T.Part.all l.b)
