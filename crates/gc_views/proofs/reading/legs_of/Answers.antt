use Rattle.std.proofs.Common.{◌+◌, ◌*◌, ◌<◌, length, ◌∙◌, sym, arith}
use Rattle.gc_views.specs.Namings.{names_of, scope}
use Rattle.gc_views.specs.Views.{leg_of}
use Rattle.gc_views.proofs.Legs.{last_alone, next_leg}
use Rattle.gc_views.proofs.reading.legs_of.Goals as goal

pub loop-i-preserved : goal.loop-i-preserved
loop-i-preserved c =
    let parts = c.args.parts.now in
    let inside : 2 * c.loop-i.i + 1 < length parts = omega arith in
    next_leg (scope c.args.naming.now) (names_of c.args.naming.now) parts c.loop-i.i c.index-parts-i.result c.index-parts-i-in-loop-i.result c.in-Some.leg
    c.loop-i.legs.items c.push.new.self.items inside c.index-parts-i.is c.index-parts-i-in-loop-i.is
    ((λ i. leg_of (sym c.edge_variable-edge.ensures i) (sym c.node_variable-node.ensures i)) ∙ sym c.in-Some.ensures)
    c.in_ok-push.ensures.items ∙ c.loop-i.invariant

pub returns-then-parts-eq1 : goal.returns-then-parts-eq1
returns-then-parts-eq1 c =
    let parts = c.args.parts.now in
    last_alone (scope c.args.naming.now) (names_of c.args.naming.now) parts (2 * c.loop-i.i) c.loop-i.legs.items _ (omega arith) c.loop-i.invariant
