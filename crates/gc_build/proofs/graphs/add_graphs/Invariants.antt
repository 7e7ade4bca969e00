use Rattle.std.proofs.Common.{◌≡◌, ◌++◌, drop}
use Rattle.gc_build.specs.Claimed.{in_items}
use Rattle.gc_build.proofs.graphs.add_graphs.Given as goal

-- those of the graphs so far, before those of the rest
abbrev pub invariant-loop-number : goal.invariant-loop-number
invariant-loop-number g l =
    l.claimed.items ++ in_items l.making.setting.graphs (drop l.number-index l.numbers) g.T.Part.all
    ≡ l.initial.claimed.items ++ in_items l.making.setting.graphs l.numbers g.T.Part.all
