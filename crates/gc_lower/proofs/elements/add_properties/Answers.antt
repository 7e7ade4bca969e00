use Rattle.std.proofs.Common.{◌∙◌}
use Rattle.gc_lower.specs.Namings.{names_of, scope}
use Rattle.gc_lower.proofs.NextAtoms.{next_property}
use Rattle.gc_lower.proofs.elements.add_properties.Goals as goal

pub loop-asked-preserved : goal.loop-asked-preserved
loop-asked-preserved c =
    next_property (scope c.args.naming.now) (names_of c.args.naming.now) c.args.graph c.args.x c.args.kind c.loop-asked.atoms.items c.add_property.new.atoms.items
    c.as_slice-asked-items.result.now c.loop-asked.asked-index c.asked-item.result c.loop-asked-test.true c.asked-item.is c.in_ok-add_property.ensures
    ∙ c.loop-asked.invariant
