use Rattle.std.proofs.Common.{◌≡◌, ◌&&◌}
use Rattle.std.specs.List.{list_all}
use Rattle.gc_cert.specs.Acceptance.{is_covered, is_bounded}
use Rattle.gc_prod.specs.Products.{bundles, moves}
use Rattle.gc_check.proofs.Bundles.{moves_from}
use Rattle.gc_check.proofs.leading.led_from.Given as goal

abbrev pub invariant-loop-j : goal.invariant-loop-j
invariant-loop-j g l = record {
  covers : (l.covered && list_all (is_covered l.potentials l.from) (moves_from (bundles l.p l.from.node l.from.state) l.j))
      ≡ list_all (is_covered l.potentials l.from) (moves l.p l.from.node l.from.state);
  bounds : (l.bounded && list_all (is_bounded l.potentials l.from) (moves_from (bundles l.p l.from.node l.from.state) l.j))
      ≡ list_all (is_bounded l.potentials l.from) (moves l.p l.from.node l.from.state);
}
