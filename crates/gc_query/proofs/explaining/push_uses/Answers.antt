use Rattle.std.proofs.Common.{◌≡◌, Some, append-nil, get_or, map, slice_get, sym, arith}
use Rattle.gc_ast.specs.QueryViews.{head_tree}
use Rattle.gc_explain_query.specs.QueryLines.{view_of}
use Rattle.gc_query.specs.Answered.{names_in, scope_in}
use Rattle.gc_query.specs.declared.used_views.ViewOn.{ViewOn}
use Rattle.gc_query.proofs.AllOf.{at_place}
use Rattle.gc_query.proofs.ExplainedViews.{use_more, use_over}
use Rattle.gc_query.proofs.explaining.push_uses.Goals as goal

pub loop-used-init : goal.loop-used-init
loop-used-init c = sym (append-nil (map view_of c.args.views.now.items))

pub loop-used-preserved : goal.loop-used-preserved
loop-used-preserved c =
    let none : ViewOn = record { view = 0; graph = 0 } in
    let used : ViewOn = get_or c.args.uses.now c.loop-used.used-index none in
    let at : slice_get c.args.uses.now c.loop-used.used-index ≡ Some used = at_place c.args.uses.now c.loop-used.used-index none (omega (arith, c.loop-used-test.true)) in
    use_more (scope_in c.args.session.now) c.args.named.now.names (head_tree (names_in c.args.session.now) c.args.head.now) c.args.number c.args.uses.now c.loop-used.used-index
    (map view_of c.args.views.now.items) (map view_of c.loop-used.views.items) (map view_of c.push_use.new.views.items) used at c.loop-used.invariant c.in_ok-push_use.ensures

pub returns : goal.returns
returns c =
    use_over (scope_in c.args.session.now) c.args.named.now.names (head_tree (names_in c.args.session.now) c.args.head.now) c.args.number c.args.uses.now c.loop-used.used-index
    (map view_of c.args.views.now.items) (map view_of c.loop-used.views.items) (omega (arith, c.loop-used-test.false)) c.loop-used.invariant
