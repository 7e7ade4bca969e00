use Rattle.std.proofs.Common.{length, get_or, Some, Option, refl, sym, ap, ◌∙◌}
use Rattle.std.proofs.lemmas.Option.{slice_get-get_or, slice_get_read}
use Rattle.gc_prod.specs.declared.preparing.Leg.{Leg}
use Rattle.gc_prod.specs.declared.moves.Hop.{Hop}
use Rattle.gc_prod.specs.declared.moves.Move.{Move}
use Rattle.gc_prod.specs.Preparing.{leg_bundle}
use Rattle.gc_prod.specs.Products.{Bundle, moved}
use Rattle.gc_prod.proofs.MoveLaws.{found_here, found_later}
use Rattle.gc_prod.proofs.product.nth_move.Goals as goal

pub returns-then-left-bundle : goal.returns-then-left-bundle
returns-then-left-bundle c =
    let none : Leg = record { from = 0; to = 0; fan = 0 } in
    let k = c.loop-leg.leg-index in
    let legs = c.args.legs.now in
    let b : Bundle = record { state = c.bundle.inside.state; hops = c.bundle.inside.hops.now } in
    let h = c.index-bundle-left.result in
    ap (λ (m : Move). Some m) c.move_by.ensures
    ∙ ap (λ (g : Hop). let m : Option Move = Some (moved b.state g) in m) (sym c.index-bundle-left.is)
    ∙ found_here (leg_bundle c.args.fans.now c.args.place) legs k c.loop-leg.left (get_or legs k none) b h _ c.loop-leg.invariant
    (slice_get-get_or legs k none c.loop-leg-test.true) (c.bundle.view_is ∙ c.along-bundle.ensures) c.if-left-bundle.true
    (slice_get_read b.hops (length b.hops) c.loop-leg.left h refl c.if-left-bundle.true c.index-bundle-left.is)

pub loop-leg-preserved : goal.loop-leg-preserved
loop-leg-preserved c =
    let none : Leg = record { from = 0; to = 0; fan = 0 } in
    let k = c.loop-leg.leg-index in
    let legs = c.args.legs.now in
    let b : Bundle = record { state = c.bundle.inside.state; hops = c.bundle.inside.hops.now } in
    found_later (leg_bundle c.args.fans.now c.args.place) legs k c.loop-leg.left (get_or legs k none) b _ c.loop-leg.invariant
    (slice_get-get_or legs k none c.loop-leg-test.true) (c.bundle.view_is ∙ c.along-bundle.ensures) c.if-left-bundle.false
