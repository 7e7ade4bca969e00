use Rattle.std.proofs.Common.{◌≡◌, ◌∷◌, [], map, drop}
use Rattle.gc_lex.specs.declared.token.Mark.TheVariants as mark
use Rattle.gc_print_query.specs.Pieces.{joined, written}
use Rattle.gc_print_query.specs.ExpressionPieces.{word, mark_piece}
use Rattle.gc_print_query.proofs.WrittenPieces.{joined_from}
use Rattle.gc_print_query.proofs.names.write_choices.Given as goal

-- what is written and what is left make the whole
abbrev pub invariant-loop-i : goal.invariant-loop-i
invariant-loop-i l =
    written l.text.items (joined_from l.i (mark_piece mark.Bar ∷ []) (map (λ w. word w ∷ []) (drop l.i l.words)))
    ≡ written l.fn.text.items (joined (mark_piece mark.Bar ∷ []) (map (λ w. word w ∷ []) l.words))
