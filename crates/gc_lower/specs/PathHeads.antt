-- The views that a query file declares.
use Rattle.std.specs.Prelude.{List, [], ◌∷◌, ◌++◌}
use Rattle.gc_ast.specs.Trees as tree
use Rattle.gc_ast.specs.Trees.{Tree, AHead}

-- the PATH heads of a tree in the order of the text, by which views are numbered; the query of an EXISTS has no heads
unfoldable pub path_heads : {k : tree.Kind} → Tree k → List (Tree AHead)
path_heads (tree.View name query) = path_heads query
path_heads (tree.Ask query) = path_heads query
path_heads (tree.Query heads first rest) = path_heads heads ++ path_heads first ++ path_heads rest
path_heads (tree.PathHead name chains filter cost) = tree.PathHead name chains filter cost ∷ []
path_heads (tree.GraphHead name query) = path_heads query
path_heads (tree.QueryTerm query) = path_heads query
path_heads (tree.NextTerm op term) = path_heads term
path_heads tree.none = []
path_heads (tree.more t ts) = path_heads t ++ path_heads ts
path_heads other = []
