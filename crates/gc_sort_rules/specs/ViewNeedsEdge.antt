-- S10. The first chain of a PATH has no edge.
-- `PATH w = (x) CONSTRUCT (n) MATCH (n)` breaks it at `w`.
use Rattle.std.specs.Prelude.{Bool, true, false, not, ◌||◌}
use Rattle.gc_ast.specs.Trees as tree
use Rattle.gc_ast.specs.Trees.{Tree, RowOf, APattern}
use Rattle.gc_sort_rules.specs.Places.{Occurrence, At, NewView}

abbrev pub is_edge : Tree APattern → Bool
is_edge (tree.Edge way element) = true
is_edge pattern = false

abbrev pub has_edge : Tree (RowOf APattern) → Bool
has_edge tree.none = false
has_edge (tree.more part parts) = is_edge part || has_edge parts

abbrev pub first_has_edge : Tree (RowOf (RowOf APattern)) → Bool
first_has_edge tree.none = false
first_has_edge (tree.more chain chains) = has_edge chain

abbrev pub breaks : Occurrence → Bool
breaks (At token (NewView name chains) seen) = not (first_has_edge chains)
breaks occurrence = false
