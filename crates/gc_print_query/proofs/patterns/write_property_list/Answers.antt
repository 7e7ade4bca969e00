use Rattle.std.proofs.Common.{◌∷◌, [], ◌∙◌, arith}
use Rattle.gc_expr.specs.Views.{name_of}
use Rattle.gc_ast.specs.PatternViews.{property_use_by}
use Rattle.gc_lex.specs.declared.token.Mark.TheVariants as mark
use Rattle.gc_print_query.specs.Pieces.{Blank}
use Rattle.gc_print_query.specs.ExpressionPieces.{mark_piece}
use Rattle.gc_print_query.specs.QueryPieces.{pieces_of}
use Rattle.gc_print_query.proofs.WrittenPieces.{joined_turn}
use Rattle.gc_print_query.proofs.patterns.write_property_list.Goals as goal

pub loop-i-preserved : goal.loop-i-preserved
loop-i-preserved c =
    let l = c.loop-i in
    joined_turn (λ p. pieces_of 0 (property_use_by (name_of c.args.names.now) p)) (mark_piece mark.Comma ∷ Blank ∷ []) c.args.properties.now l.i c.index-properties-i.result l.text.items _ _ (omega arith)
    c.index-properties-i.is c.in_ok-write_comma.ensures c.in_ok-write_property.ensures
    ∙ l.invariant
