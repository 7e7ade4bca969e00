use Rattle.std.proofs.Common.{◌≡◌, ◌&&◌, drop}
use Rattle.gc_cert.specs.Acceptance.{all_moves, is_covered, is_bounded}
use Rattle.gc_check.proofs.leading.all_led.Given as goal

abbrev pub invariant-loop-from : goal.invariant-loop-from
invariant-loop-from g l = record {
  covers : (l.covered && all_moves l.p (is_covered l.potentials) (drop l.from-index l.potentials)) ≡ all_moves l.p (is_covered l.potentials) l.potentials;
  bounds : (l.bounded && all_moves l.p (is_bounded l.potentials) (drop l.from-index l.potentials)) ≡ all_moves l.p (is_bounded l.potentials) l.potentials;
}
