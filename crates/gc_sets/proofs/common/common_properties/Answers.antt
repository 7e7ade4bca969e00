use Rattle.std.proofs.Common.{◌≡◌, [], ◌<◌, fold, map, drop, length, refl, sym, ap, ◌∙◌, arith}
use Rattle.std.proofs.lemmas.List.{drop_all}
use Rattle.std.proofs.lemmas.Option.{slice_get_read}
use Rattle.gc_base.specs.PropertyLists.{put}
use Rattle.gc_sets.specs.Intersections.{shared}
use Rattle.gc_sets.proofs.CommonParts.{common_put, put_turn}
use Rattle.gc_sets.proofs.common.common_properties.Goals as goal

pub loop-property-preserved : goal.loop-property-preserved
loop-property-preserved c =
    let one = c.in_ok-name.ensures in
    let ps = c.as_slice-property-items.result.now in
    let i = c.loop-property.property-index in
    let p = c.property-item.result in
    let within : i < length ps = omega (arith, c.loop-property-test.true) in
    put_turn c.args.others.now ps i p c.loop-property.kept c.put.new.self (fold put [] (map (shared c.args.others.now) c.args.properties.now)) (slice_get_read ps (length ps) i p refl within c.property-item.is)
    (c.in_ok-put.ensures.ok ∙ ap (put c.loop-property.kept) one) c.loop-property.invariant

pub returns : goal.returns
returns c =
    let ps = c.args.properties.now in
    let qs = c.args.others.now in
    let items = c.as_slice-property-items.result.now in
    let done : drop c.loop-property.property-index items ≡ [] = drop_all c.loop-property.property-index items (omega (arith, c.loop-property-test.false)) in
    ap (λ xs. fold put c.loop-property.kept (map (shared qs) xs)) (sym done) ∙ (c.loop-property.invariant ∙ common_put ps qs c.as_slice-property-items.ensures.valid.ascend)
