-- What chains of patterns ask for, as atoms in the order of the text.
use Rattle.std.specs.Prelude.{ℕ, List, [], ◌∷◌, ◌++◌, map, Option, Some, None, nat_abs}
use Rattle.std.specs.Option.{option_map}
use Rattle.gc_base.specs.declared.place.Direction.{Direction}
use Rattle.gc_base.specs.declared.place.Sym.{Sym}
use Rattle.gc_ast.specs.Trees as tree
use Rattle.gc_ast.specs.Trees.{Tree, Named, RowOf, ALocated, APattern, AnElement, APropertyUse, APathBody}
use Rattle.gc_ast.specs.declared.pattern.CountAt.{CountAt}
use Rattle.gc_ppg.specs.declared.shape.Kind.{Kind}
use Rattle.gc_ppg.specs.declared.shape.Kind.TheVariants as kind
use Rattle.gc_alg.specs.declared.atom.Atom.{Atom}
use Rattle.gc_alg.specs.declared.atom.AtomWhat.{AtomWhat}
use Rattle.gc_alg.specs.declared.atom.AtomWhat.TheVariants as atom
use Rattle.gc_alg.specs.declared.atom.ViewUse.{ViewUse}
use Rattle.gc_lower.specs.Scopes.{Scope, variable_of, variable_or, graph_of, view_use}

-- the variable of a part of a chain, if that is a node
abbrev pub element_variable : Scope → Tree AnElement → Sym
element_variable s (tree.Element token name labels properties) = variable_or s token name

abbrev pub node_variable : Scope → Tree APattern → Option Sym
node_variable s (tree.Node e) = Some (element_variable s e)
node_variable s (tree.Edge way e) = None
node_variable s (tree.Path token regex_at body) = None

-- the same of the next part of a chain
abbrev pub next_variable : Scope → Tree (RowOf APattern) → Option Sym
next_variable s tree.none = None
next_variable s (tree.more p ps) = node_variable s p

-- the atoms of the properties of an element
abbrev pub property_atom : Scope → (graph : ℕ) → Sym → Kind → Tree APropertyUse → Atom
property_atom s graph x kind (tree.PropertyUse token property value) = record { graph = graph; what = atom.Property x kind property (variable_of s value.name) }

abbrev pub property_atoms : Scope → (graph : ℕ) → Sym → Kind → Tree (RowOf APropertyUse) → List Atom
property_atoms s graph x kind tree.none = []
property_atoms s graph x kind (tree.more property properties) = property_atom s graph x kind property ∷ property_atoms s graph x kind properties

-- the atoms of a node pattern: the node, and then its properties
abbrev pub node_atoms : Scope → (graph : ℕ) → Tree AnElement → List Atom
node_atoms s graph (tree.Element token name labels properties) =
    record { graph = graph; what = atom.Node (variable_or s token name) labels } ∷ property_atoms s graph (variable_or s token name) kind.Node properties

-- the same of an edge pattern between two nodes
abbrev pub edge_atoms : Scope → (graph : ℕ) → (left right : Sym) → Direction → Tree AnElement → List Atom
edge_atoms s graph x y way (tree.Element token name labels properties) =
    record { graph = graph; what = atom.Edge x (variable_or s token name) y way labels } ∷ property_atoms s graph (variable_or s token name) kind.Edge properties

-- how many walks are asked for: one, where no number stands
abbrev pub walk_count : Option CountAt → ℕ
walk_count None = 1
walk_count (Some k) = nat_abs k.count

-- the variable of a name, if there is one
abbrev pub variable_if : Scope → Option Named → Option Sym
variable_if s name = option_map (λ x. variable_of s x.name) name

-- the views that the names in an expression mean
abbrev pub view_uses : Scope → List Named → List ViewUse
view_uses s views = map (view_use s) views

-- what a path pattern between two nodes asks for
abbrev pub path_what : Scope → (left right : Sym) → Tree APathBody → AtomWhat
path_what s x y (tree.Reach regex views) = atom.Reach x y regex (view_uses s views)
path_what s x y (tree.Found k p regex views cost) = atom.Found x (variable_of s p.name) y (walk_count k) (variable_if s cost) regex (view_uses s views)
path_what s x y (tree.All p regex views) = atom.All x (variable_of s p.name) y regex (view_uses s views)
path_what s x y (tree.Stored p labels) = atom.Stored x (variable_of s p.name) y labels

abbrev pub path_atom : Scope → (graph : ℕ) → (left right : Sym) → Tree APathBody → Atom
path_atom s graph x y body = record { graph = graph; what = path_what s x y body }

-- the atoms of a part of a chain between two nodes
abbrev pub joined_atoms : Scope → (graph : ℕ) → (left right : Sym) → Tree APattern → List Atom
joined_atoms s graph x y (tree.Node e) = []
joined_atoms s graph x y (tree.Edge way e) = edge_atoms s graph x y way e
joined_atoms s graph x y (tree.Path token regex_at body) = path_atom s graph x y body ∷ []

-- the atoms of a link; one without a node beside it, which the grammar does not give, asks for nothing
abbrev pub link_atoms : Scope → (graph : ℕ) → (left right : Option Sym) → Tree APattern → List Atom
link_atoms s graph (Some x) (Some y) p = joined_atoms s graph x y p
link_atoms s graph (Some x) None p = []
link_atoms s graph None right p = []

-- the atoms of a part of a chain, between what is beside it
abbrev pub part_atoms : Scope → (graph : ℕ) → (left right : Option Sym) → Tree APattern → List Atom
part_atoms s graph left right (tree.Node e) = node_atoms s graph e
part_atoms s graph left right (tree.Edge way e) = link_atoms s graph left right (tree.Edge way e)
part_atoms s graph left right (tree.Path token regex_at body) = link_atoms s graph left right (tree.Path token regex_at body)

-- the atoms of the parts of a chain, behind a part that may be a node
abbrev pub chain_atoms : Scope → (graph : ℕ) → (left : Option Sym) → Tree (RowOf APattern) → List Atom
chain_atoms s graph left tree.none = []
chain_atoms s graph left (tree.more p ps) = part_atoms s graph left (next_variable s ps) p ++ chain_atoms s graph (node_variable s p) ps

-- the atoms of chains, each on its graph
abbrev pub atoms_of : Scope → Tree (RowOf ALocated) → List Atom
atoms_of s tree.none = []
atoms_of s (tree.more (tree.Located parts on) located) = chain_atoms s (graph_of s on) None parts ++ atoms_of s located

-- the atoms of the chains of a view, all on the graph on which it is used
abbrev pub view_atoms : Scope → Tree (RowOf (RowOf APattern)) → List Atom
view_atoms s tree.none = []
view_atoms s (tree.more parts chains) = chain_atoms s (graph_of s None) None parts ++ view_atoms s chains
