use Rattle.std.proofs.Common.{◌≡◌, ◌∷◌, [], map, drop}
use Rattle.gc_ast.specs.PatternViews.{located_tree}
use Rattle.gc_lex.specs.declared.token.Mark.TheVariants as mark
use Rattle.gc_print_query.specs.Pieces.{Line, joined, written}
use Rattle.gc_print_query.specs.ExpressionPieces.{mark_piece}
use Rattle.gc_print_query.specs.QueryPieces.{pieces_of}
use Rattle.gc_print_query.proofs.WrittenPieces.{joined_from}
use Rattle.gc_print_query.proofs.lists.write_located_list.Given as goal

-- what is written and what is left make the whole
abbrev pub invariant-loop-i : goal.invariant-loop-i
invariant-loop-i l =
    written l.text.items (joined_from l.i (mark_piece mark.Comma ∷ Line l.depth ∷ []) (map (λ x. pieces_of 0 (located_tree l.names x)) (drop l.i l.list)))
    ≡ written l.fn.text.items (joined (mark_piece mark.Comma ∷ Line l.depth ∷ []) (map (λ x. pieces_of 0 (located_tree l.names x)) l.list))
