use Rattle.std.proofs.Common.{◌≡◌, drop, map}
use Rattle.std.specs.List.{list_any}
use Rattle.gc_prod.specs.Products.{moved, moves_by}
use Rattle.gc_check.specs.Replays.{is_move}
use Rattle.gc_check.proofs.replaying.is_among.Given as goal

abbrev pub invariant-loop-hop : goal.invariant-loop-hop
invariant-loop-hop l =
    list_any (is_move l.wanted l.to) (map (moved l.bundle.state) (drop l.hop-index l.bundle.hops)) ≡ list_any (is_move l.wanted l.to) (moves_by l.bundle)
