-- The path property graph: three lists of records, and when they are a graph.
use Rattle.std.specs.Prelude.{◌≡◌, ℕ, ◌≤◌, Bool, true, false, ◌&&◌, ◌||◌, ◌==◌, List, [], ◌∷◌, ◌++◌, map, Option, fold}
use Rattle.std.specs.declared.cmp.Ordering.{Ordering}
use Rattle.std.specs.Ordering.{nat_cmp, on}
use Rattle.std.specs.List.{AllByRecursion, find, list_any}
use Rattle.gc_base.specs.Ascending.{Ascends, with_item}
use Rattle.gc_base.specs.PropertyLists.{AreProperties, IsLabelSet}
use Rattle.gc_base.specs.declared.properties.Property.{Property}
use Rattle.gc_base.specs.declared.walk.Step.{Step}
use Rattle.gc_base.specs.declared.walk.Walk.{Walk}

-- a node: its identity, labels and properties
pub record Node : Type 0 where
  pub id : ℕ
  pub labels : List (List ℕ)
  pub properties : List Property

-- an edge: from its source to its target
pub record Edge : Type 0 where
  pub id : ℕ
  pub from : ℕ
  pub to : ℕ
  pub labels : List (List ℕ)
  pub properties : List Property

-- a stored path: a walk with an identity, labels and properties of its own
pub record Path : Type 0 where
  pub id : ℕ
  pub walk : Walk
  pub labels : List (List ℕ)
  pub properties : List Property

-- a path property graph: its nodes, edges and stored paths
pub record PropertyGraph : Type 0 where
  pub nodes : List Node
  pub edges : List Edge
  pub paths : List Path

-- the graph without elements
abbrev pub empty_graph : PropertyGraph
empty_graph = record { nodes = []; edges = []; paths = [] }

-- elements are ordered by their identities
abbrev pub node_order : Node → Node → Ordering
node_order = on (λ n. n.id) nat_cmp

abbrev pub edge_order : Edge → Edge → Ordering
edge_order = on (λ e. e.id) nat_cmp

abbrev pub path_order : Path → Path → Ordering
path_order = on (λ p. p.id) nat_cmp

-- the identities of all elements: nodes, edges, paths
abbrev pub node_ids : List Node → List ℕ
node_ids nodes = map (λ n. n.id) nodes

abbrev pub edge_ids : List Edge → List ℕ
edge_ids edges = map (λ e. e.id) edges

abbrev pub path_ids : List Path → List ℕ
path_ids paths = map (λ p. p.id) paths

abbrev pub ids_of : PropertyGraph → List ℕ
ids_of g = node_ids g.nodes ++ edge_ids g.edges ++ path_ids g.paths

-- whether an identity is among some
abbrev pub is_among : List ℕ → ℕ → Bool
is_among ids id = list_any (λ other. other == id) ids

-- no identity comes twice
abbrev pub AreDistinct : List ℕ → Type 0
AreDistinct [] = Unit {0}
AreDistinct (id ∷ ids) = (is_among ids id ≡ false) × AreDistinct ids

-- the element of an identity, if there is one
abbrev pub node_at : List Node → ℕ → Option Node
node_at nodes id = find (λ n. n.id == id) nodes

abbrev pub edge_at : List Edge → ℕ → Option Edge
edge_at edges id = find (λ e. e.id == id) edges

abbrev pub path_at : List Path → ℕ → Option Path
path_at paths id = find (λ p. p.id == id) paths

-- whether an edge of this identity joins two nodes, in one direction or the other
abbrev pub is_joined : List Edge → ℕ → ℕ → ℕ → Bool
is_joined edges id a b = list_any (λ e. (e.id == id) && ((e.from == a && e.to == b) || (e.from == b && e.to == a))) edges

-- whether each step goes along an edge that joins the node before it and its own
abbrev pub are_steps_from : List Edge → ℕ → List Step → Bool
are_steps_from edges node [] = true
are_steps_from edges node (step ∷ steps) = is_joined edges step.edge node step.node && are_steps_from edges step.node steps

-- a walk begins at a node of the graph and goes along its edges; since their ends are nodes, so are all nodes of the walk
abbrev pub is_walk : List Node → List Edge → Walk → Bool
is_walk nodes edges walk = is_among (node_ids nodes) walk.start && are_steps_from edges walk.start walk.steps

-- an identity is at most the largest
abbrev pub IsId : ℕ → Type 0
IsId id = id ≤ 9007199254740991

-- a node has an identity, labels that are words, and properties
pub record IsNode (n : Node) : Type 0 where
  pub id : IsId n.id
  pub labels : IsLabelSet n.labels
  pub properties : AreProperties n.properties

-- an edge stands between nodes of the graph
pub record IsEdge (nodes : List Node) (e : Edge) : Type 0 where
  pub id : IsId e.id
  pub source : is_among (node_ids nodes) e.from ≡ true
  pub target : is_among (node_ids nodes) e.to ≡ true
  pub labels : IsLabelSet e.labels
  pub properties : AreProperties e.properties

-- the walk of a stored path is one of the graph
pub record IsPath (nodes : List Node) (edges : List Edge) (p : Path) : Type 0 where
  pub id : IsId p.id
  pub walk : is_walk nodes edges p.walk ≡ true
  pub labels : IsLabelSet p.labels
  pub properties : AreProperties p.properties

-- a graph: elements ascend by identity, no identity comes twice, and ends and walks are of the graph
pub record IsGraph (g : PropertyGraph) : Type 0 where
  pub nodes_ascend : Ascends node_order g.nodes
  pub edges_ascend : Ascends edge_order g.edges
  pub paths_ascend : Ascends path_order g.paths
  pub distinct : AreDistinct (ids_of g)
  pub nodes : AllByRecursion IsNode g.nodes
  pub edges : AllByRecursion (IsEdge g.nodes) g.edges
  pub paths : AllByRecursion (IsPath g.nodes g.edges) g.paths

-- elements in the order of their identities
abbrev pub nodes_by_id : List Node → List Node
nodes_by_id nodes = fold (with_item node_order) [] nodes

abbrev pub edges_by_id : List Edge → List Edge
edges_by_id edges = fold (with_item edge_order) [] edges

abbrev pub paths_by_id : List Path → List Path
paths_by_id paths = fold (with_item path_order) [] paths
