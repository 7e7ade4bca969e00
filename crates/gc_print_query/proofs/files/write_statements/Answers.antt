use Rattle.std.proofs.Common.{ap, ◌∙◌, arith, get_or, length}
use Rattle.gc_ast.specs.declared.query.Statement.{Statement}
use Rattle.gc_ast.specs.QueryViews.{statement_tree}
use Rattle.gc_print_query.specs.QueryPieces.{statement_pieces}
use Rattle.gc_print_query.proofs.WrittenPieces.{flat_turn}
use Rattle.gc_print_query.proofs.files.write_statements.Goals as goal

pub loop-statement-preserved : goal.loop-statement-preserved
loop-statement-preserved c =
    let l = c.loop-statement in
    let slice = c.deref-statement-items.ensures.value in
    flat_turn (λ (s : Statement). statement_pieces (statement_tree c.args.names.now s)) c.args.statements.now.items l.statement-index c.statement-item.result l.text.items _ (omega (arith, ap length slice))
    (c.statement-item.is ∙ ap (λ xs. get_or xs l.statement-index c.statement-item.result) slice) c.in_ok-write_ended.ensures
    ∙ l.invariant
