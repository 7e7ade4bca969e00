use Rattle.std.proofs.Common.{◌≡◌, ◌∷◌, [], map, drop}
use Rattle.gc_expr.specs.Views.{name_of}
use Rattle.gc_ast.specs.PatternViews.{property_use_by}
use Rattle.gc_lex.specs.declared.token.Mark.TheVariants as mark
use Rattle.gc_print_query.specs.Pieces.{Blank, joined, written}
use Rattle.gc_print_query.specs.ExpressionPieces.{mark_piece}
use Rattle.gc_print_query.specs.QueryPieces.{pieces_of}
use Rattle.gc_print_query.proofs.WrittenPieces.{joined_from}
use Rattle.gc_print_query.proofs.patterns.write_property_list.Given as goal

-- what is written and what is left make the whole
abbrev pub invariant-loop-i : goal.invariant-loop-i
invariant-loop-i l =
    written l.text.items (joined_from l.i (mark_piece mark.Comma ∷ Blank ∷ []) (map (λ p. pieces_of 0 (property_use_by (name_of l.names) p)) (drop l.i l.properties)))
    ≡ written l.fn.text.items (joined (mark_piece mark.Comma ∷ Blank ∷ []) (map (λ p. pieces_of 0 (property_use_by (name_of l.names) p)) l.properties))
