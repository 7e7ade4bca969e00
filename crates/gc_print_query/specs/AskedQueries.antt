-- The queries of EXISTS, whose texts are written already.
use Rattle.std.specs.Prelude.{◌≡◌, ◌+◌, List, [], map}
use Rattle.gc_ast.specs.QueryViews.{query_tree}
use Rattle.gc_print_query.specs.declared.expressions.Asked.{Asked}
use Rattle.gc_print_query.specs.Pieces.{Piece, written}
use Rattle.gc_print_query.specs.QueryPieces.{enclosed, pieces_of}

-- the pieces of each
abbrev pub asked_pieces : Asked → List (List Piece)
asked_pieces a = map (λ query. enclosed a.depth (pieces_of (a.depth + 1) (query_tree a.names.now query))) a.queries.now.items

-- the texts are those of the queries
abbrev pub HasTexts : Asked → Type 0
HasTexts a = a.texts.now ≡ map (written []) (asked_pieces a)
