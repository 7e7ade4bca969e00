use Rattle.std.proofs.Common.{◌∷◌, [], ap, ◌∙◌, arith}
use Rattle.gc_lex.specs.declared.token.Mark.TheVariants as mark
use Rattle.gc_print_query.specs.Pieces.{with_piece}
use Rattle.gc_print_query.specs.ExpressionPieces.{word, mark_piece}
use Rattle.gc_print_query.proofs.WrittenPieces.{joined_turn}
use Rattle.gc_print_query.proofs.names.write_choices.Goals as goal

pub loop-i-preserved : goal.loop-i-preserved
loop-i-preserved c =
    let l = c.loop-i in
    joined_turn (λ w. word w ∷ []) (mark_piece mark.Bar ∷ []) c.args.words.now l.i c.index-words-i.result l.text.items _ _ (omega arith) c.index-words-i.is c.in_ok-write_bar.ensures
    (c.in_ok-write_word.ensures ∙ ap (λ b. with_piece c.write_bar.new.text.items (word b)) c.bytes.ensures.bytes)
    ∙ l.invariant
