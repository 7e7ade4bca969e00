-- The text of a query file.
use Rattle.std.specs.Prelude.{ℕ, List, []}
use Rattle.gc_ast.specs.Trees.{Tree, AStatement}
use Rattle.gc_print_query.specs.Pieces.{written}
use Rattle.gc_print_query.specs.QueryPieces.{file_pieces}

-- the pieces of its statements, one after another
abbrev pub file_text : List (Tree AStatement) → List ℕ
file_text statements = written [] (file_pieces statements)
