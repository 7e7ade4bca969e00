use Rattle.std.proofs.Common.{◌≡◌, Some, get_or, slice_get, arith}
use Rattle.gc_query.specs.declared.used_views.ViewOn.{ViewOn}
use Rattle.gc_ast.specs.QueryViews.{head_tree}
use Rattle.gc_query.specs.Answered.{names_in, scope_in}
use Rattle.gc_query.proofs.AllOf.{at_place}
use Rattle.gc_query.proofs.Outcomes.{passed_on}
use Rattle.gc_query.proofs.UsesLaws.{gains_none, no_more, one_fails, one_more}
use Rattle.gc_query.proofs.segments.add_uses.Goals as goal

pub loop-used-init : goal.loop-used-init
loop-used-init g c = (gains_none (scope_in c.args.session.now) c.args.graphs.now c.args.table.now, λ h. h)

pub returns-in_err-add_use-clause-fails : goal.returns-in_err-add_use-clause-fails
returns-in_err-add_use-clause-fails g c =
    let none : ViewOn = record { view = 0; graph = 0 } in
    let used : ViewOn = get_or c.args.uses.now c.loop-used.used-index none in
    let at : slice_get c.args.uses.now c.loop-used.used-index ≡ Some used = at_place c.args.uses.now c.loop-used.used-index none (omega (arith, c.loop-used-test.true)) in
    passed_on _ _ c.in_err-add_use.field-0.0 c.from_residual.result c.from_residual.ensures.1
    (λ fault h. one_fails (head_tree (names_in c.args.session.now) c.args.head.now) c.args.number (scope_in c.args.session.now) c.args.graphs.now c.args.uses.now c.loop-used.used-index c.args.table.now c.loop-used.table
    c.loop-used.invariant.0 used fault at h) c.in_err-add_use.ensures.fails

pub loop-used-preserved : goal.loop-used-preserved
loop-used-preserved g c =
    let none : ViewOn = record { view = 0; graph = 0 } in
    let used : ViewOn = get_or c.args.uses.now c.loop-used.used-index none in
    let at : slice_get c.args.uses.now c.loop-used.used-index ≡ Some used = at_place c.args.uses.now c.loop-used.used-index none (omega (arith, c.loop-used-test.true)) in (
      one_more (head_tree (names_in c.args.session.now) c.args.head.now) c.args.number (scope_in c.args.session.now) c.args.graphs.now c.args.uses.now c.loop-used.used-index c.args.table.now c.loop-used.table
          c.loop-used.invariant.0 used c.add_use.new.table at c.in_ok-add_use.ensures.gains,
      λ h. c.in_ok-add_use.ensures.there (c.loop-used.invariant.1 h),
    )

pub returns-clause-gains : goal.returns-clause-gains
returns-clause-gains g c =
    no_more (head_tree (names_in c.args.session.now) c.args.head.now) c.args.number (scope_in c.args.session.now) c.args.graphs.now c.args.uses.now c.loop-used.used-index c.args.table.now c.loop-used.table
    c.loop-used.invariant.0 (omega (arith, c.loop-used-test.false))
