use Rattle.std.proofs.Common.{◌≡◌, ◌++◌, drop}
use Rattle.gc_sets.specs.Unions.{united}
use Rattle.gc_sets.proofs.lists.united.Given as goal

-- those so far with those of the rest are all
abbrev pub invariant-loop-i : goal.invariant-loop-i
invariant-loop-i g l =
    l.all.items ++ united g.T.Part.united g.T.Part.id_of (drop l.i (g.T.Part.all l.a)) (g.T.Part.all l.b) ≡ united g.T.Part.united g.T.Part.id_of (g.T.Part.all l.a) (g.T.Part.all l.b)
