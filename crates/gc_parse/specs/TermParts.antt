-- A query in parentheses as a term, by the parts of the query.
use Rattle.std.specs.Prelude.{List, []}
use Rattle.gc_ast.specs.Trees as tree
use Rattle.gc_ast.specs.Trees.{Tree, ATerm, AHead, ANextTerm, row}

-- without heads and of one term it is that term
abbrev pub term_of_parts : List (Tree AHead) → Tree ATerm → List (Tree ANextTerm) → Tree ATerm
term_of_parts [] first [] = first
term_of_parts heads first rest = tree.QueryTerm (tree.Query (row heads) first (row rest))
