use Rattle.std.proofs.Common.{ap, ◌∙◌, ◌≡◌, fold}
use Rattle.gc_expr.specs.declared.expr.Fold.TheVariants.{Collect}
use Rattle.gc_group.specs.Folds.{folded, literals_of}
use Rattle.gc_build_descriptions.specs.Assigned.{assigned_values}
use Rattle.gc_build_descriptions.specs.Faults.{faults_in, faults_among, lesser}
use Rattle.gc_build_descriptions.specs.Givens.{given_to}
use Rattle.gc_build_descriptions.proofs.AssignedLaws.{map_with}
use Rattle.gc_build_descriptions.proofs.FaultLaws.{least_with}
use Rattle.gc_build_descriptions.proofs.givens.given_by.Goals as goal

pub loop-element-preserved : goal.loop-element-preserved
loop-element-preserved g c =
    let s = c.args.setting.now in
    let a = c.args.assignment.now in
    let rows = c.element-item.result.group.rows in
    let values : c.in_ok-on_rows.on_rows.items ≡ assigned_values s a rows = c.in_ok-on_rows.ensures ∙ ap (assigned_values s a) c.as_slice-places.ensures in
    record {
      given =
          map_with (given_to s a) c.loop-element.values c.push.new.self
          c.elements_of-element-items.result.now c.loop-element.element-index c.element-item.result c.in_ok-collected.field-0
          c.loop-element-test.true c.element-item.is c.loop-element.invariant.given
          (c.in_ok-collected.ensures ∙ ap (λ vs. literals_of (folded Collect vs)) (c.deref-in-loop-element-2.ensures.value ∙ values))
          c.in_ok-push.ensures.ok;
      least =
          least_with (faults_in s a) c.loop-element.least c.least_fault-least.result
          c.elements_of-element-items.result.now c.loop-element.element-index c.element-item.result
          c.loop-element-test.true c.element-item.is c.loop-element.invariant.least
          (c.least_fault-least.ensures
          ∙ ap (λ ps. fold lesser c.loop-element.least (faults_among a ps c.deref-in-loop-element.result.now)) c.as_slice-places.ensures
          ∙ ap (λ vs. fold lesser c.loop-element.least (faults_among a rows vs)) (c.deref-in-loop-element.ensures.value ∙ values));
    }
