-- S13. An EXISTS stands elsewhere than in the WHERE of a MATCH, an OPTIONAL or an EXISTS; or its query is not
-- `CONSTRUCT ()` with one MATCH block.
-- `CONSTRUCT (n) MATCH (n) WHERE EXISTS (g)` breaks it at EXISTS.
use Rattle.std.specs.Prelude.{[], Bool, true, false, not, Some, None}
use Rattle.gc_ast.specs.Trees as tree
use Rattle.gc_ast.specs.Trees.{Tree, AQuery, ATerm, AnItem, AConstructPart}
use Rattle.gc_sort_rules.specs.Places.{Occurrence, At, Exists}

-- a node with nothing in it
abbrev pub is_bare_node : Tree AConstructPart → Bool
is_bare_node (tree.NewNode (tree.NewElement token None None tree.none [] tree.none)) = true
is_bare_node part = false

-- `()`: one such node, with nothing behind it
abbrev pub is_bare : Tree AnItem → Bool
is_bare (tree.ChainItem (tree.more part tree.none) tree.none tree.none) = is_bare_node part
is_bare item = false

-- a CONSTRUCT of that one item, and no OPTIONAL
abbrev pub is_bare_term : Tree ATerm → Bool
is_bare_term (tree.BasicTerm (tree.Basic token (tree.more item tree.none) main tree.none)) = is_bare item
is_bare_term term = false

-- one such term, and no heads
abbrev pub is_existence : Tree AQuery → Bool
is_existence (tree.Query tree.none term tree.none) = is_bare_term term
is_existence query = false

abbrev pub breaks : Occurrence → Bool
breaks (At token (Exists None) seen) = true
breaks (At token (Exists (Some query)) seen) = not (is_existence query)
breaks occurrence = false
