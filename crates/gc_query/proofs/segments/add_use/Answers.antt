use Rattle.std.proofs.Common.{List, [], ◌∷◌, sym, subst}
use Rattle.gc_ast.specs.QueryViews.{head_tree}
use Rattle.gc_ast.specs.Trees.{Tree, AHead}
use Rattle.gc_lower.specs.Scopes.{Scope}
use Rattle.gc_prod.specs.Segments.{Segments}
use Rattle.gc_query.specs.Answered.{names_in, scope_in}
use Rattle.gc_query.specs.UsedViews.{uses_of}
use Rattle.gc_query.specs.Uses.{Gains}
use Rattle.gc_query.proofs.Outcomes.{passed_on}
use Rattle.gc_query.proofs.UsesLaws.{not_same, passed_by, same, use_fails, use_gains}
use Rattle.gc_query.proofs.segments.add_use.Goals as goal

pub returns-then-used-number-clause-gains : goal.returns-then-used-number-clause-gains
returns-then-used-number-clause-gains g c =
    passed_by (head_tree (names_in c.args.session.now) c.args.head.now) c.args.number (scope_in c.args.session.now) c.args.graphs.now c.args.used.now c.args.table.now (not_same c.args.used.now.view c.args.number c.if-used-number.true)

pub returns-in_err-segments-clause-fails : goal.returns-in_err-segments-clause-fails
returns-in_err-segments-clause-fails g c =
    passed_on _ _ c.in_err-segments.field-0.0 c.from_residual.result c.from_residual.ensures.1
    (λ fault h. use_fails (head_tree (names_in c.args.session.now) c.args.head.now) c.args.number (scope_in c.args.session.now) c.args.graphs.now c.args.used.now fault
    (same c.args.used.now.view c.args.number c.if-used-number.false) h) c.in_err-segments.ensures.due

pub returns-clause-gains : goal.returns-clause-gains
returns-clause-gains g c =
    let s : Scope = scope_in c.args.session.now in
    let head : Tree AHead = head_tree (names_in c.args.session.now) c.args.head.now in
    subst (λ (after : List Segments). Gains s c.args.graphs.now (uses_of head c.args.number (c.args.used.now ∷ [])) c.args.table.now after) (sym c.in_ok-add.ensures.ok)
    (use_gains head c.args.number s c.args.graphs.now c.args.used.now c.args.table.now c.in_ok-segments.segments (same c.args.used.now.view c.args.number c.if-used-number.false) c.in_ok-segments.ensures.due)
