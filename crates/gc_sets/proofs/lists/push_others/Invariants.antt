use Rattle.std.proofs.Common.{◌≡◌, ◌++◌, drop}
use Rattle.gc_sets.specs.Elements.{others}
use Rattle.gc_sets.proofs.lists.push_others.Given as goal

-- those kept so far with those of the rest are all that are kept
abbrev pub invariant-loop-i : goal.invariant-loop-i
invariant-loop-i g l =
    l.kept.items ++ others g.T.Part.id_of (drop l.i (g.T.Part.all l.a)) (g.T.Part.all l.b) ≡ l.initial.kept.items ++ others g.T.Part.id_of (g.T.Part.all l.a) (g.T.Part.all l.b)
