use Rattle.std.proofs.Common.{◌∷◌, ◌+◌, [], ap, ◌∙◌, codes}
use Rattle.gc_ast.specs.PatternViews.{named}
use Rattle.gc_ast.specs.QueryViews.{query_tree}
use Rattle.gc_print_query.specs.Pieces.{Blank, with_piece}
use Rattle.gc_print_query.specs.ExpressionPieces.{word}
use Rattle.gc_print_query.specs.QueryPieces.{named_query, pieces_of}
use Rattle.gc_print_query.proofs.WrittenPieces.{then_last}
use Rattle.gc_print_query.proofs.files.write_statement.Goals as goal

pub returns-in_ok-write_blank-in-View-2 : goal.returns-in_ok-write_blank-in-View-2
unfolding pieces_of
returns-in_ok-write_blank-in-View-2 c =
    let names = c.args.names.now in
    let t0 = c.args.text.now.items in
    let one = c.in_ok-write_blank-in-View.ensures ∙ ap (λ t. with_piece t Blank) c.in_ok-write_word-in-View.ensures in
    let two = c.in_ok-write_word-in-View-2.ensures ∙ ap (λ t. with_piece t (word (codes "VIEW"))) one in
    let three = c.in_ok-write_blank-in-View-2.ensures ∙ ap (λ t. with_piece t Blank) two in
    rw (c.in-View.is)
    (then_last c.write_named_query.result t0 (word (codes "GRAPH") ∷ Blank ∷ word (codes "VIEW") ∷ Blank ∷ []) (named_query 0 (named names c.in-View.name) (pieces_of (0 + 1) (query_tree names c.in-View.query)))
    c.write_blank-in-View.new.text.items c.write_named_query.new.text.items three c.write_named_query.ensures)
