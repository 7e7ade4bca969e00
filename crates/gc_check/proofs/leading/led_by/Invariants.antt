use Rattle.std.proofs.Common.{◌≡◌, ◌&&◌, drop, map}
use Rattle.std.specs.List.{list_all}
use Rattle.gc_cert.specs.Acceptance.{is_covered, is_bounded}
use Rattle.gc_prod.specs.Products.{moved, moves_by}
use Rattle.gc_check.proofs.leading.led_by.Given as goal

abbrev pub invariant-loop-hop : goal.invariant-loop-hop
invariant-loop-hop l = record {
  covers : (l.covered && list_all (is_covered l.potentials l.from) (map (moved l.bundle.state) (drop l.hop-index l.bundle.hops)))
      ≡ list_all (is_covered l.potentials l.from) (moves_by l.bundle);
  bounds : (l.bounded && list_all (is_bounded l.potentials l.from) (map (moved l.bundle.state) (drop l.hop-index l.bundle.hops)))
      ≡ list_all (is_bounded l.potentials l.from) (moves_by l.bundle);
}
