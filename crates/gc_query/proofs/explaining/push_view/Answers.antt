use Rattle.std.proofs.Common.{◌≡◌, ◌++◌, ◌∙◌, append-nil, map, refl, rules, subst, sym, ap}
use Rattle.gc_ast.specs.declared.construct.Change.{the_lemmas}
use Rattle.gc_ast.specs.PatternViews.{named_by}
use Rattle.gc_ast.specs.QueryViews.{head_by, head_tree, query_by, query_tree}
use Rattle.gc_ast.specs.Trees as tree
use Rattle.gc_explain_query.specs.QueryLines.{view_of}
use Rattle.gc_expr.specs.Views.{Names, name_of}
use Rattle.gc_lower.specs.Namings.{scope_in}
use Rattle.gc_lower.specs.Scopes.{Scope}
use Rattle.gc_query.specs.Answered.{names_in}
use Rattle.gc_query.specs.Answered as answered
use Rattle.gc_query.specs.Built.{IsHeadNumbered}
use Rattle.gc_query.specs.Logs.{explained_head, named_view}
use Rattle.gc_query.proofs.EvaluationLaws.{if_told}
use Rattle.gc_query.proofs.QueryParts.{path_head}
use Rattle.gc_query.proofs.explaining.push_view.Goals as goal

pub returns-in_ok-lowered-in-Path : goal.returns-in_ok-lowered-in-Path
unfolding scope_in
returns-in_ok-lowered-in-Path c =
    let s : Scope = answered.scope_in c.args.session.now in
    let names : Names = names_in c.args.session.now in
    let head : head_tree names c.args.head.now ≡ _ = ap (head_tree names) c.in-Path.is ∙ path_head names c.in-Path.name c.in-Path.chains c.in-Path.filter c.in-Path.cost in
    if_told c.push_named.result _ _
    (λ is. is ∙ ap (λ views. map view_of c.args.views.now.items ++ views)
    ((λ i. named_view (c.word_at.ensures i) (c.name_at.ensures.name i) ((c.in_ok-lowered-in-Path.ensures _ (subst (IsHeadNumbered s) head c.requires) refl).is_block i)) ∙ sym (ap (explained_head s c.args.named.now.names c.args.graph) head)))
    c.push_named.ensures

pub returns-in-Graph : goal.returns-in-Graph
unfolding head_by query_by
returns-in-Graph c =
    let s : Scope = answered.scope_in c.args.session.now in
    let names : Names = names_in c.args.session.now in
    let head : head_tree names c.args.head.now ≡ tree.GraphHead (named_by (name_of names) c.in-Graph.name) (query_tree names c.in-Graph.query) = rw c.in-Graph.is (search (rules, the_lemmas)) in
    sym (append-nil (map view_of c.args.views.now.items)) ∙ ap (λ views. map view_of c.args.views.now.items ++ views) (sym (ap (explained_head s c.args.named.now.names c.args.graph) head))
