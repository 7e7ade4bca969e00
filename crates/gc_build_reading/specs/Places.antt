-- The places of variables in the items of a CONSTRUCT, in the order of the text.
use Rattle.std.specs.Prelude.{List, [], ◌∷◌, ◌++◌, Option, Some, None}
use Rattle.gc_base.specs.declared.place.Direction.{Direction}
use Rattle.gc_base.specs.declared.place.Direction.TheVariants.{Forward, Backward, Either}
use Rattle.gc_base.specs.declared.place.Sym.{Sym}
use Rattle.gc_ppg.specs.declared.shape.Kind.TheVariants as kind
use Rattle.gc_ast.specs.Trees as tree
use Rattle.gc_ast.specs.Trees.{Tree, RowOf, AnItem, AConstructPart, ANewElement}
use Rattle.gc_sorts.specs.Uses.{all_of}
use Rattle.gc_lower.specs.Scopes.{Scope, variable_of, variable_or}
use Rattle.gc_build_reading.specs.declared.place.Ends.{Ends}
use Rattle.gc_build_reading.specs.declared.place.Place.{Place}

-- Take `(x)<-[y]-(), (x)-/p/->(x)`: the places are x, y from the unnamed node to x, the unnamed node, and x two times more.

-- the variable of a node or an edge: that of its name, or the hidden one at its token
abbrev pub element_variable : Scope → Tree ANewElement → Sym
element_variable s (tree.NewElement token name copy group labels assigns) = variable_or s token name

-- the variable of a part of a chain, if that is a node
abbrev pub node_variable : Scope → Tree AConstructPart → Option Sym
node_variable s (tree.NewNode e) = Some (element_variable s e)
node_variable s (tree.NewEdge way e) = None
node_variable s (tree.Projected token p) = None
node_variable s (tree.NewStored token p labels assigns) = None

-- the same of the next part of a chain
abbrev pub next_variable : Scope → Tree (RowOf AConstructPart) → Option Sym
next_variable s tree.none = None
next_variable s (tree.more part parts) = node_variable s part

-- the source and the target of an edge between two nodes, as its arrow says; without an arrow it leads from the left
abbrev pub ends_of : Direction → (left right : Sym) → Ends
ends_of Forward x y = record { source = x; target = y }
ends_of Backward x y = record { source = y; target = x }
ends_of Either x y = record { source = x; target = y }

-- the places of the kinds
abbrev pub node_place : Sym → Place
node_place x = record { var = x; kind = kind.Node; ends = None }

abbrev pub edge_place : Sym → Ends → Place
edge_place x ends = record { var = x; kind = kind.Edge; ends = Some ends }

abbrev pub path_place : Sym → Place
path_place x = record { var = x; kind = kind.Path; ends = None }

-- the place of an edge; one without a node beside it, which the grammar does not give, has none
abbrev pub edge_places : Scope → (left right : Option Sym) → Direction → Tree ANewElement → List Place
edge_places s (Some x) (Some y) way e = edge_place (element_variable s e) (ends_of way x y) ∷ []
edge_places s (Some x) None way e = []
edge_places s None right way e = []

-- the place of a part of a chain, between what is beside it
abbrev pub part_places : Scope → (left right : Option Sym) → Tree AConstructPart → List Place
part_places s left right (tree.NewNode e) = node_place (element_variable s e) ∷ []
part_places s left right (tree.NewEdge way e) = edge_places s left right way e
part_places s left right (tree.Projected token p) = []
part_places s left right (tree.NewStored token p labels assigns) = path_place (variable_of s p.name) ∷ []

-- the places of the parts of a chain, behind a part that may be a node
abbrev pub chain_places : Scope → (left : Option Sym) → Tree (RowOf AConstructPart) → List Place
chain_places s left tree.none = []
chain_places s left (tree.more part parts) = part_places s left (next_variable s parts) part ++ chain_places s (node_variable s part) parts

abbrev pub item_places : Scope → Tree AnItem → List Place
item_places s (tree.GraphItem g) = []
item_places s (tree.ChainItem parts changes condition) = chain_places s None parts

abbrev pub places_of : Scope → Tree (RowOf AnItem) → List Place
places_of s items = all_of (item_places s) items
