use Rattle.gc_build_descriptions.specs.Described.{described}
use Rattle.gc_build_descriptions.proofs.AssignedLaws.{map_with}
use Rattle.gc_build_descriptions.proofs.GivenLaws.{described_by}
use Rattle.gc_build_descriptions.proofs.describing.each_of.Goals as goal

pub loop-place-preserved : goal.loop-place-preserved
loop-place-preserved g c =
    let s = c.args.setting.now in
    let r = c.args.recipe.now in
    let v = c.args.variable.now in
    let elements = c.elements_of-elements.result.now in
    let place = c.loop-place.place in
    let e = c.index-elements-place.result in
    let d = c.in_ok-described_at.field-0 in
    let so =
    described_by s r c.args.numbering.now.variables v elements place e d c.args.said.now c.changes_of-changes.result
    c.requires.said c.changes_of-changes.ensures c.elements_of-elements.ensures c.loop-place-test.true c.index-elements-place.is c.in_ok-described_at.ensures in
    map_with (described s r v) c.loop-place.all c.push.new.self elements place e d
    c.loop-place-test.true c.index-elements-place.is c.loop-place.invariant so c.in_ok-push.ensures.ok
