use Rattle.std.proofs.Common.{◌∷◌, [], ◌∙◌, arith}
use Rattle.std.specs.List.{flat_map}
use Rattle.gc_ast.specs.PatternViews.{pattern_tree}
use Rattle.gc_lex.specs.declared.token.Mark.TheVariants as mark
use Rattle.gc_print_query.specs.Pieces.{Line}
use Rattle.gc_print_query.specs.ExpressionPieces.{mark_piece}
use Rattle.gc_print_query.specs.QueryPieces.{pieces_of}
use Rattle.gc_print_query.proofs.WrittenPieces.{joined_turn}
use Rattle.gc_print_query.proofs.lists.write_chains.Goals as goal

pub loop-i-preserved : goal.loop-i-preserved
loop-i-preserved c =
    let l = c.loop-i in
    joined_turn (λ x. flat_map (λ p. pieces_of 0 (pattern_tree c.args.names.now p)) x.parts) (mark_piece mark.Comma ∷ Line c.args.depth ∷ []) c.args.chains.now l.i c.index-chains-i.result l.text.items _ _ (omega arith)
    c.index-chains-i.is c.in_ok-write_comma_line.ensures c.in_ok-write_chain.ensures
    ∙ l.invariant
