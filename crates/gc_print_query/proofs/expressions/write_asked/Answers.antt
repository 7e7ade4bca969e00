use Rattle.std.proofs.Common.{ap, sym, ◌∙◌, ◌++◌, ◌+◌, arith}
use Rattle.gc_ast.specs.QueryViews.{query_tree}
use Rattle.gc_print_query.specs.QueryPieces.{pieces_of}
use Rattle.gc_print_query.proofs.ExpressionTexts.{found_text}
use Rattle.gc_print_query.proofs.expressions.write_asked.Goals as goal

pub returns : goal.returns
returns c =
    let a = c.args.asked.now in
    c.in_ok-extend_from_slice.ensures.items ∙ ap (λ b. c.args.text.now.items ++ b) c.as_slice.ensures ∙ ap (λ b. c.args.text.now.items ++ b) (sym c.index-asked-at.is)
    ∙ found_text c.args.text.now.items a.depth (λ query. pieces_of (a.depth + 1) (query_tree a.names.now query)) a.queries.now.items c.args.number a.texts.now c.index-asked-at.result c.requires
    (omega (arith, c.if-at-asked.false)) c.index-asked-at.is
