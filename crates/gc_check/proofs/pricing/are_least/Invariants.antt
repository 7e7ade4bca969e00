use Rattle.std.proofs.Common.{◌≡◌, drop}
use Rattle.std.specs.List.{list_all}
use Rattle.gc_cert.specs.Acceptance.{is_least}
use Rattle.gc_check.proofs.pricing.are_least.Given as goal

abbrev pub invariant-loop-walk : goal.invariant-loop-walk
invariant-loop-walk l = list_all (is_least l.p l.potentials) (drop l.walk-index l.walks) ≡ list_all (is_least l.p l.potentials) l.walks
