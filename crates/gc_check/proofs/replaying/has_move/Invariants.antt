use Rattle.std.proofs.Common.{◌≡◌}
use Rattle.std.specs.List.{list_any}
use Rattle.gc_prod.specs.Products.{bundles, moves}
use Rattle.gc_check.proofs.Bundles.{moves_from}
use Rattle.gc_check.specs.Replays.{is_move}
use Rattle.gc_check.proofs.replaying.has_move.Given as goal

abbrev pub invariant-loop-j : goal.invariant-loop-j
invariant-loop-j g l =
    list_any (is_move l.wanted l.to) (moves_from (bundles l.p l.node l.state) l.j) ≡ list_any (is_move l.wanted l.to) (moves l.p l.node l.state)
