-- Blocks whose first chain begins with a node. The grammar gives no others: there each block has a chain, and each chain begins so.
use Rattle.std.specs.Prelude.{⊤, ◌≡◌, Bool, true, false}
use Rattle.gc_ast.specs.Trees.{Kind, Tree, RowOf, ALocated, APattern, Node, Edge, Path, Located, Block, Optional, Basic, Formula}
use Rattle.gc_ast.specs.Trees.{View, Ask, Query, NextTerm, BasicTerm, QueryTerm, PathHead, GraphHead, none, more}

-- whether a chain has a first part, and this is a node
abbrev pub begins_with_node : Tree (RowOf APattern) → Bool
begins_with_node none = false
begins_with_node (more (Node e) later) = true
begins_with_node (more (Edge way e) later) = false
begins_with_node (more (Path token regex_at body) later) = false

-- whether there is a first chain, and it begins with a node: of a block, and of a view
abbrev pub first_begins : Tree (RowOf ALocated) → Bool
first_begins none = false
first_begins (more (Located parts on) located) = begins_with_node parts

abbrev pub first_of_view_begins : Tree (RowOf (RowOf APattern)) → Bool
first_of_view_begins none = false
first_of_view_begins (more parts chains) = begins_with_node parts

-- so it is with each block of a tree, be it that of a MATCH, of an OPTIONAL or in an EXISTS query of a WHERE, and with each view; what a
-- CONSTRUCT makes, and what a walk costs, are no matter here
unfoldable pub HasNodes : {k : Kind} → Tree k → Type 0
HasNodes (View name query) = HasNodes query
HasNodes (Ask query) = HasNodes query
HasNodes (Query heads first later) = HasNodes heads × HasNodes first × HasNodes later
HasNodes (NextTerm op term) = HasNodes term
HasNodes (BasicTerm basic) = HasNodes basic
HasNodes (QueryTerm query) = HasNodes query
HasNodes (PathHead name chains filter cost) = (first_of_view_begins chains ≡ true) × HasNodes filter
HasNodes (GraphHead name query) = HasNodes query
HasNodes (Basic token items main optionals) = HasNodes main × HasNodes optionals
HasNodes (Optional token block) = HasNodes block
HasNodes (Block patterns filter) = (first_begins patterns ≡ true) × HasNodes filter
HasNodes (Formula condition queries) = HasNodes queries
HasNodes none = ⊤
HasNodes (more t ts) = HasNodes t × HasNodes ts
HasNodes other = ⊤
