use Rattle.std.proofs.Common.{◌∷◌, [], ◌∙◌, arith}
use Rattle.gc_ast.specs.PatternViews.{group_term_tree}
use Rattle.gc_lex.specs.declared.token.Mark.TheVariants as mark
use Rattle.gc_print_query.specs.Pieces.{Blank}
use Rattle.gc_print_query.specs.ExpressionPieces.{mark_piece}
use Rattle.gc_print_query.specs.QueryPieces.{pieces_of}
use Rattle.gc_print_query.proofs.WrittenPieces.{joined_turn}
use Rattle.gc_print_query.proofs.lists.write_group_terms.Goals as goal

pub loop-i-preserved : goal.loop-i-preserved
loop-i-preserved c =
    let l = c.loop-i in
    joined_turn (λ x. pieces_of 0 (group_term_tree c.args.names.now x)) (mark_piece mark.Comma ∷ Blank ∷ []) c.args.terms.now l.i c.index-terms-i.result l.text.items _ _ (omega arith)
    c.index-terms-i.is c.in_ok-write_comma.ensures c.in_ok-write_group_term.ensures
    ∙ l.invariant
