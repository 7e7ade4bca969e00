use Rattle.std.proofs.Common.{◌≡◌, Ok, rules, sym, ap, ◌∙◌, subst}
use Rattle.gc_ast.specs.PatternViews.{named_by}
use Rattle.gc_ast.specs.QueryViews.{head_by, head_tree, query_by, query_tree}
use Rattle.gc_ast.specs.Trees as tree
use Rattle.gc_ast.specs.Trees.{Tree, AHead}
use Rattle.gc_ast.specs.declared.construct.Change.{the_lemmas}
use Rattle.gc_expr.specs.Views.{Names, name_of}
use Rattle.gc_query.specs.Answered.{IsAnswered, names_in, scope_in}
use Rattle.gc_query.specs.Built.{IsHeadNumbered}
use Rattle.gc_query.specs.Segments.{OfHead}
use Rattle.gc_query.proofs.QueryParts.{path_head}
use Rattle.gc_query.proofs.segments.segments_of.Goals as goal

pub returns-in-Path-clause-due : goal.returns-in-Path-clause-due
returns-in-Path-clause-due g c =
    let names : Names = names_in c.args.session.now in
    subst (λ (h : Tree AHead). IsAnswered (OfHead (scope_in c.args.session.now) c.args.graphs.now c.args.graph h) c.view_segments.result)
    (sym (ap (head_tree names) c.in-Path.is ∙ path_head names c.in-Path.name c.in-Path.chains c.in-Path.filter c.in-Path.cost)) c.view_segments.ensures.due

pub returns-in-Graph-clause-due : goal.returns-in-Graph-clause-due
unfolding head_by query_by
returns-in-Graph-clause-due g c =
    let names : Names = names_in c.args.session.now in
    let e : head_tree names c.args.head.now ≡ tree.GraphHead (named_by (name_of names) c.in-Graph.name) (query_tree names c.in-Graph.query) = rw c.in-Graph.is (search (rules, the_lemmas)) in
    subst (λ (h : Tree AHead). OfHead (scope_in c.args.session.now) c.args.graphs.now c.args.graph h (Ok c.new.result)) (sym e) (ap Ok c.new.ensures)

pub view_segments-requires : goal.view_segments-requires
view_segments-requires g c =
    let names : Names = names_in c.args.session.now in
    subst (IsHeadNumbered (scope_in c.args.session.now)) (ap (head_tree names) c.in-Path.is ∙ path_head names c.in-Path.name c.in-Path.chains c.in-Path.filter c.in-Path.cost) c.requires
