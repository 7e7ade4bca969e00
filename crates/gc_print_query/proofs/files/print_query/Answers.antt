use Rattle.std.proofs.Common.{[], ap, sym, ◌∙◌}
use Rattle.std.specs.List.{flat_map}
use Rattle.gc_ast.specs.QueryViews.{statement_tree}
use Rattle.gc_ast.specs.declared.query.Statement.{Statement}
use Rattle.gc_print_query.specs.Pieces.{written}
use Rattle.gc_print_query.specs.QueryPieces.{statement_pieces}
use Rattle.gc_print_query.proofs.WrittenPieces.{flat_mapped}
use Rattle.gc_print_query.proofs.files.print_query.Goals as goal

pub returns : goal.returns
returns c =
    let f = c.args.file.now in
    c.from_vec.ensures ∙ c.in_ok-write_statements.ensures
    ∙ ap (λ t. written t (flat_map (λ (s : Statement). statement_pieces (statement_tree f.names s)) f.statements.items)) c.new-text.ensures.items
    ∙ ap (written []) (sym (flat_mapped statement_pieces (statement_tree f.names) f.statements.items))
