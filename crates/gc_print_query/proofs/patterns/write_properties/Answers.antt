use Rattle.std.proofs.Common.{◌∷◌, [], ap, sym, ◌∙◌, map}
use Rattle.gc_expr.specs.Views.{name_of}
use Rattle.gc_ast.specs.declared.pattern.PropertyUse.{PropertyUse}
use Rattle.gc_ast.specs.PatternViews.{property_use_by}
use Rattle.gc_lex.specs.declared.token.Mark.TheVariants as mark
use Rattle.gc_print_query.specs.Pieces.{Blank, with_piece, written}
use Rattle.gc_print_query.specs.ExpressionPieces.{mark_piece}
use Rattle.gc_print_query.specs.QueryPieces.{braced, listed, pieces_of}
use Rattle.gc_print_query.proofs.WrittenPieces.{then, then_last, renamed_last, braced_some}
use Rattle.gc_print_query.proofs.patterns.write_properties.Goals as goal

pub returns : goal.returns
returns c =
    let f = λ (p : PropertyUse). pieces_of 0 (property_use_by (name_of c.args.names.now) p) in
    let xs = c.args.properties.now in
    let t0 = c.args.text.now.items in
    let two = c.in_ok-write_mark.ensures ∙ ap (λ t. with_piece t (mark_piece mark.OpenBrace)) c.in_ok-write_blank.ensures in
    let lists = listed (map f xs) in
    let three = then t0 (Blank ∷ mark_piece mark.OpenBrace ∷ []) lists c.write_mark.new.text.items c.write_property_list.new.text.items two (c.in_ok-write_property_list.ensures ∙ ap (λ ys. written c.write_mark.new.text.items (listed (map f ys))) c.as_slice.ensures) in
    renamed_last c.write_mark-2.result t0 _ (braced (map f xs)) c.write_mark-2.new.text.items (sym (braced_some f xs (λ none. c.if-len-eq0.false (c.len.ensures ∙ none))))
    (then_last c.write_mark-2.result t0 (Blank ∷ mark_piece mark.OpenBrace ∷ lists) (mark_piece mark.CloseBrace ∷ []) c.write_property_list.new.text.items c.write_mark-2.new.text.items three c.write_mark-2.ensures)
