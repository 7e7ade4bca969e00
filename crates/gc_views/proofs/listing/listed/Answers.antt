use Rattle.std.proofs.Common.{map, Some, ap, sym, subst, ◌∙◌}
use Rattle.gc_views.specs.Namings.{view_of}
use Rattle.gc_views.specs.Segments.{Gives}
use Rattle.gc_views.proofs.FirstBad.{handed_on, with_segment, without_walk}
use Rattle.gc_views.proofs.listing.listed.Goals as goal
use Rattle.gc_views.proofs.listing.listed.Goals.{in-Some+in_ok-push, in_default}

pub returns-in_err-segment-clause-bad : goal.returns-in_err-segment-clause-bad
returns-in_err-segment-clause-bad g c =
    handed_on (view_of c.args.view.now) c.args.table.now.rows c.loop-number.number c.row-row.result c.loop-number.found c.row-row.ensures
    c.loop-number.invariant _ _ c.from_residual.ensures.1 c.in_err-segment.ensures.bad

pub loop-number-preserved : goal.loop-number-preserved
loop-number-preserved g c =
    let v = view_of c.args.view.now in
    let rows = c.args.table.now.rows in
    let i = c.loop-number.number in
    let row = c.row-row.result in
    let found = c.loop-number.found in
    let gives : Gives v row c.in_ok-segment.field-0 = c.in_ok-segment.ensures.good in
    elim c.match-branch-2.branch [
      | in-Some+in_ok-push w ↦
          with_segment v rows i row found c.row-row.ensures c.loop-number.invariant w.in-Some.segment (subst (Gives v row) w.in-Some.is gives)
          ∙ sym (ap (map Some) (w.found-is ∙ w.in_ok-push.ensures.ok))
      | in_default w ↦
          without_walk v rows i row found c.row-row.ensures c.loop-number.invariant (subst (Gives v row) w.in_default.is gives) ∙ sym (ap (map Some) w.found-is)
    ]
