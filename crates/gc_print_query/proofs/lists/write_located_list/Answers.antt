use Rattle.std.proofs.Common.{◌∷◌, [], ◌∙◌, arith}
use Rattle.gc_ast.specs.PatternViews.{located_tree}
use Rattle.gc_lex.specs.declared.token.Mark.TheVariants as mark
use Rattle.gc_print_query.specs.Pieces.{Line}
use Rattle.gc_print_query.specs.ExpressionPieces.{mark_piece}
use Rattle.gc_print_query.specs.QueryPieces.{pieces_of}
use Rattle.gc_print_query.proofs.WrittenPieces.{joined_turn}
use Rattle.gc_print_query.proofs.lists.write_located_list.Goals as goal

pub loop-i-preserved : goal.loop-i-preserved
loop-i-preserved c =
    let l = c.loop-i in
    joined_turn (λ x. pieces_of 0 (located_tree c.args.names.now x)) (mark_piece mark.Comma ∷ Line c.args.depth ∷ []) c.args.list.now l.i c.index-list-i.result l.text.items _ _ (omega arith)
    c.index-list-i.is c.in_ok-write_comma_line.ensures c.in_ok-write_located.ensures
    ∙ l.invariant
