use Rattle.std.proofs.Common.{map}
use Rattle.gc_ast.specs.QueryViews.{head_tree}
use Rattle.gc_explain_query.specs.QueryLines.{view_of}
use Rattle.gc_query.specs.Answered.{names_in, scope_in}
use Rattle.gc_query.proofs.EvaluationLaws.{if_told}
use Rattle.gc_query.proofs.ExplainedViews.{one_shown, passed_over}
use Rattle.gc_query.proofs.UsesLaws.{not_same, same}
use Rattle.gc_query.proofs.explaining.push_use.Goals as goal

pub returns-then-used-number : goal.returns-then-used-number
returns-then-used-number c =
    passed_over (scope_in c.args.session.now) c.args.named.now.names (head_tree (names_in c.args.session.now) c.args.head.now) c.args.number c.args.used.now (map view_of c.args.views.now.items)
    (not_same c.args.used.now.view c.args.number c.if-used-number.true)

pub returns : goal.returns
returns c =
    if_told c.push_view.result _ _
    (λ is. one_shown (scope_in c.args.session.now) c.args.named.now.names (head_tree (names_in c.args.session.now) c.args.head.now) c.args.number c.args.used.now (map view_of c.args.views.now.items) (map view_of c.push_view.new.views.items)
    (same c.args.used.now.view c.args.number c.if-used-number.false) is)
    c.push_view.ensures
