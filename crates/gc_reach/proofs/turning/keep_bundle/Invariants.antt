use Rattle.std.proofs.Common.{◌≡◌, ◌++◌, drop, map}
use Rattle.gc_prod.specs.Products.{moved, moves_by}
use Rattle.gc_reach.specs.Turning.{turn}
use Rattle.gc_reach.proofs.turning.keep_bundle.Given as goal

abbrev pub invariant-loop-hop : goal.invariant-loop-hop
invariant-loop-hop l =
    l.kept.items ++ map (turn l.marks.nodes l.marks.width l.from) (map (moved l.bundle.state) (drop l.hop-index l.bundle.hops))
    ≡ l.initial.kept.items ++ map (turn l.marks.nodes l.marks.width l.from) (moves_by l.bundle)
