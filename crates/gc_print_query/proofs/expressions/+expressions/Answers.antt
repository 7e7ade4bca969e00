use Rattle.std.proofs.Common.{◌∷◌, ◌++◌, [], ap, sym, ◌∙◌, arith, get_or}
use Rattle.std.specs.List.{flat_map}
use Rattle.gc_lex.specs.declared.token.Mark.TheVariants as mark
use Rattle.gc_expr.specs.declared.expr.Expr.{Expr}
use Rattle.gc_expr.specs.declared.expr.SumPart.{SumPart}
use Rattle.gc_expr.specs.declared.expr.ProductPart.{ProductPart}
use Rattle.gc_expr.specs.Trees.{renamed}
use Rattle.gc_expr.specs.Views.{name_of, numbered_expr, numbered_node, numbered_sum_part, numbered_product_part}
use Rattle.gc_print_query.specs.Pieces.{Blank, written}
use Rattle.gc_print_query.specs.AskedQueries.{asked_pieces}
use Rattle.gc_print_query.specs.ExpressionPieces.{Part, between, closed, comparison_piece, mark_piece, parenthesized, parts_of}
use Rattle.gc_print_query.proofs.ExpressionLevels.{closed_over}
use Rattle.gc_print_query.proofs.ExpressionTexts.{expr_parts, compare_pieces, and_pieces, or_pieces, sum_pieces, product_pieces, sum_part_pieces, product_part_pieces}
use Rattle.gc_print_query.proofs.WrittenPieces.{then, then_last, renamed_last, joined_turn, flat_turn}
use Rattle.gc_print_query.proofs.expressions.+expressions.Goals as goal

pub write_closed-returns : goal.write_closed-returns
write_closed-returns t c =
    let x = asked_pieces c.args.asked.now in
    let names = c.args.asked.now.names.now in
    let part : Part = parts_of x (renamed (name_of names) (numbered_node c.args.expr.now.node)) in
    let t0 = c.args.text.now.items in
    let open_ = mark_piece mark.OpenParenthesis ∷ [] in
    let close = mark_piece mark.CloseParenthesis ∷ [] in
    let r = c.write_mark-2.result in
    renamed_last r t0 (parenthesized part.pieces) (closed c.args.most (parts_of x (renamed (name_of names) (numbered_expr c.args.expr.now)))) c.write_mark-2.new.text.items
    (sym (closed_over c.args.most part (omega (arith, c.if-rank-most.false, c.rank.ensures x names))) ∙ ap (closed c.args.most) (sym (expr_parts x names c.args.expr.now)))
    (then_last r t0 (mark_piece mark.OpenParenthesis ∷ part.pieces) close c.write_node-2.new.text.items c.write_mark-2.new.text.items
    (then t0 open_ part.pieces c.write_mark.new.text.items c.write_node-2.new.text.items c.in_ok-write_mark.ensures c.in_ok-write_node.ensures) c.write_mark-2.ensures)

pub write_parts-loop-i-preserved : goal.write_parts-loop-i-preserved
write_parts-loop-i-preserved t c =
    let l = c.loop-i in
    let slice = c.deref-part-items.ensures.value in
    joined_turn (λ (part : Expr). closed c.args.most (parts_of (asked_pieces c.args.asked.now) (renamed (name_of c.args.asked.now.names.now) (numbered_expr part)))) (between c.args.bytes.now)
    c.args.parts.now.items l.i c.part-item.result l.text.items _ _ (omega arith) (c.part-item.is ∙ ap (λ ps. get_or ps l.i c.part-item.result) slice)
    c.in_ok-write_between.ensures c.in_ok-write_closed.ensures
    ∙ l.invariant

pub write_sum_parts-loop-part-preserved : goal.write_sum_parts-loop-part-preserved
write_sum_parts-loop-part-preserved t c =
    let l = c.loop-part in
    flat_turn (λ (part : SumPart). parts_of (asked_pieces c.args.asked.now) (renamed (name_of c.args.asked.now.names.now) (numbered_sum_part part))) c.args.rest.now.items l.part-index c.part-item.result l.text.items _ (omega arith)
    (c.part-item.is ∙ ap (λ ps. get_or ps l.part-index c.part-item.result) c.deref-part-items.ensures.value)
    (c.in_ok-write_sum_part.ensures ∙ ap (written l.text.items) (sym (sum_part_pieces (asked_pieces c.args.asked.now) c.args.asked.now.names.now c.part-item.result)))
    ∙ l.invariant

pub write_product_parts-loop-part-preserved : goal.write_product_parts-loop-part-preserved
write_product_parts-loop-part-preserved t c =
    let l = c.loop-part in
    flat_turn (λ (part : ProductPart). parts_of (asked_pieces c.args.asked.now) (renamed (name_of c.args.asked.now.names.now) (numbered_product_part part))) c.args.rest.now.items l.part-index c.part-item.result l.text.items _ (omega arith)
    (c.part-item.is ∙ ap (λ ps. get_or ps l.part-index c.part-item.result) c.deref-part-items.ensures.value)
    (c.in_ok-write_product_part.ensures ∙ ap (written l.text.items) (sym (product_part_pieces (asked_pieces c.args.asked.now) c.args.asked.now.names.now c.part-item.result)))
    ∙ l.invariant

pub write_node-returns-in-And : goal.write_node-returns-in-And
write_node-returns-in-And t c = rw (c.in-And.is, and_pieces (asked_pieces c.args.asked.now) c.args.asked.now.names.now c.in-And.parts) c.write_parts.ensures

pub write_node-returns-in-Or : goal.write_node-returns-in-Or
write_node-returns-in-Or t c = rw (c.in-Or.is, or_pieces (asked_pieces c.args.asked.now) c.args.asked.now.names.now c.in-Or.parts) c.write_parts-in-Or.ensures

pub write_node-returns-in_ok-write_closed-in-Sum : goal.write_node-returns-in_ok-write_closed-in-Sum
write_node-returns-in_ok-write_closed-in-Sum t c =
    let x = asked_pieces c.args.asked.now in
    let names = c.args.asked.now.names.now in
    let t0 = c.args.text.now.items in
    rw (c.in-Sum.is, sum_pieces x names c.in-Sum.first c.in-Sum.rest)
    (then_last c.write_sum_parts.result t0 (closed 3 (parts_of x (renamed (name_of names) (numbered_expr c.in-Sum.first.value))))
    (flat_map (λ part. parts_of x (renamed (name_of names) (numbered_sum_part part))) c.in-Sum.rest.items) c.write_closed.new.text.items c.write_sum_parts.new.text.items
    (c.in_ok-write_closed-in-Sum.ensures ∙ ap (λ (e : Expr). written t0 (closed 3 (parts_of x (renamed (name_of names) (numbered_expr e))))) c.deref-in-Sum.ensures) c.write_sum_parts.ensures)

pub write_node-returns-in_ok-write_closed-in-Product : goal.write_node-returns-in_ok-write_closed-in-Product
write_node-returns-in_ok-write_closed-in-Product t c =
    let x = asked_pieces c.args.asked.now in
    let names = c.args.asked.now.names.now in
    let t0 = c.args.text.now.items in
    rw (c.in-Product.is, product_pieces x names c.in-Product.first c.in-Product.rest)
    (then_last c.write_product_parts.result t0 (closed 2 (parts_of x (renamed (name_of names) (numbered_expr c.in-Product.first.value))))
    (flat_map (λ part. parts_of x (renamed (name_of names) (numbered_product_part part))) c.in-Product.rest.items) c.write_closed-in-Product.new.text.items c.write_product_parts.new.text.items
    (c.in_ok-write_closed-in-Product.ensures ∙ ap (λ (e : Expr). written t0 (closed 2 (parts_of x (renamed (name_of names) (numbered_expr e))))) c.deref-in-Product.ensures) c.write_product_parts.ensures)

pub write_node-returns-in_ok-write_comparison-in-Compare : goal.write_node-returns-in_ok-write_comparison-in-Compare
write_node-returns-in_ok-write_comparison-in-Compare t c =
    let x = asked_pieces c.args.asked.now in
    let names = c.args.asked.now.names.now in
    let t0 = c.args.text.now.items in
    let f = λ (e : Expr). closed 4 (parts_of x (renamed (name_of names) (numbered_expr e))) in
    let between_them = Blank ∷ comparison_piece c.in-Compare.how ∷ Blank ∷ [] in
    let r = c.write_closed-in-Compare-2.result in
    let end = c.write_closed-in-Compare-2.new.text.items in
    rw (c.in-Compare.is, compare_pieces x names c.in-Compare.how c.in-Compare.left c.in-Compare.right)
    (then_last r t0 (f c.in-Compare.left.value) (between_them ++ f c.in-Compare.right.value) c.write_closed-in-Compare.new.text.items end
    (c.in_ok-write_closed-in-Compare.ensures ∙ ap (λ (e : Expr). written t0 (f e)) c.deref-in-Compare.ensures)
    (then_last r c.write_closed-in-Compare.new.text.items between_them (f c.in-Compare.right.value) c.write_comparison.new.text.items end c.in_ok-write_comparison-in-Compare.ensures
    (renamed_last r c.write_comparison.new.text.items (f c.deref-in-Compare-2.result.now) (f c.in-Compare.right.value) end (ap f c.deref-in-Compare-2.ensures) c.write_closed-in-Compare-2.ensures)))
