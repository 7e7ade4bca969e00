use Rattle.std.proofs.Common.{◌∷◌, []}
use Rattle.gc_lex.specs.declared.token.Mark.TheVariants as mark
use Rattle.gc_ast.specs.QueryViews.{statement_tree}
use Rattle.gc_print_query.specs.Pieces.{Line}
use Rattle.gc_print_query.specs.ExpressionPieces.{mark_piece}
use Rattle.gc_print_query.specs.QueryPieces.{pieces_of}
use Rattle.gc_print_query.proofs.WrittenPieces.{then_last}
use Rattle.gc_print_query.proofs.files.write_ended.Goals as goal

pub returns : goal.returns
returns c =
    let ps = pieces_of 0 (statement_tree c.args.names.now c.args.statement.now) in
    let r = c.write_line.result in
    let end = c.write_line.new.text.items in
    then_last r c.args.text.now.items ps (mark_piece mark.Semicolon ∷ Line 0 ∷ []) c.write_statement.new.text.items end c.in_ok-write_statement.ensures
    (then_last r c.write_statement.new.text.items (mark_piece mark.Semicolon ∷ []) (Line 0 ∷ []) c.write_mark.new.text.items end c.in_ok-write_mark.ensures c.write_line.ensures)
