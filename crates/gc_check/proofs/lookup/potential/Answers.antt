use Rattle.std.proofs.Common.{rules}
use Rattle.std.specs.declared.cmp.Ordering.{Ordering}
use Rattle.std.proofs.lemmas.Fn.{always_returns_same}
use Rattle.gc_prod.specs.declared.moves.Pair.{Pair}
use Rattle.gc_prod.specs.Leading.{pair}
use Rattle.gc_cert.specs.declared.document.Potential.{Potential}
use Rattle.gc_cert.specs.Potentials.{at_pair, pair_order}
use Rattle.gc_check.proofs.Lookups.{found, missed}
use Rattle.gc_check.proofs.lookup.potential.Goals as goal

abbrev against : Pair → Potential → Ordering
against p q = pair_order (at_pair q) p

pub returns-in-Ok : goal.returns-in-Ok
returns-in-Ok c =
    found c.args.potentials.now (pair c.args.node c.args.state) c.requires c.in-Ok.place c.index-potentials-place.result c.in-Ok.ensures.bound
    (c.in-Ok.ensures.position (against (pair c.args.node c.args.state)) (always_returns_same _ _ _ (λ a r f called. search rules)))

pub returns-in-Err : goal.returns-in-Err
returns-in-Err c =
    missed c.args.potentials.now (pair c.args.node c.args.state) c.requires c.in-Err.field-0 c.in-Err.ensures.bound
    (c.in-Err.ensures.position (against (pair c.args.node c.args.state)) (always_returns_same _ _ _ (λ a r f called. search rules)))
