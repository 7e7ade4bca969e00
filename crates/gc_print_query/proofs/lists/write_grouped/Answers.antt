use Rattle.std.proofs.Common.{◌∷◌, [], ap, sym, ◌∙◌, map, codes}
use Rattle.gc_ast.specs.declared.construct.GroupTerm.{GroupTerm}
use Rattle.gc_ast.specs.PatternViews.{group_term_tree}
use Rattle.gc_print_query.specs.Pieces.{Blank, with_piece}
use Rattle.gc_print_query.specs.ExpressionPieces.{word}
use Rattle.gc_print_query.specs.QueryPieces.{grouped, listed, pieces_of}
use Rattle.gc_print_query.proofs.WrittenPieces.{then_last, renamed_last, grouped_some}
use Rattle.gc_print_query.proofs.lists.write_grouped.Goals as goal

pub returns : goal.returns
returns c =
    let f = λ (t : GroupTerm). pieces_of 0 (group_term_tree c.args.names.now t) in
    let xs = c.args.terms.now in
    let t0 = c.args.text.now.items in
    let two = c.in_ok-write_word.ensures ∙ ap (λ t. with_piece t (word (codes "GROUP"))) c.in_ok-write_blank.ensures in
    let three = c.in_ok-write_blank-2.ensures ∙ ap (λ t. with_piece t Blank) two in
    let r = c.write_group_terms.result in
    renamed_last r t0 _ (grouped (map f xs)) c.write_group_terms.new.text.items (sym (grouped_some f xs (λ none. c.if-len-eq0.false (c.len.ensures ∙ none))))
    (then_last r t0 (Blank ∷ word (codes "GROUP") ∷ Blank ∷ []) (listed (map f xs)) c.write_blank-2.new.text.items c.write_group_terms.new.text.items three
    (renamed_last r c.write_blank-2.new.text.items (listed (map f c.as_slice.result.now)) (listed (map f xs)) c.write_group_terms.new.text.items (ap (λ ys. listed (map f ys)) c.as_slice.ensures) c.write_group_terms.ensures))
