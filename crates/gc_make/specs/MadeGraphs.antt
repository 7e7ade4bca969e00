-- The graphs that are made from a kind, a size and a start.
use Rattle.std.specs.Prelude.{◌≡◌, ℕ, zero, suc, ◌+◌, ◌*◌, ◌%◌, Bool, true, false, ◌&&◌, nat_le, List, [], ◌∷◌, map, codes, Result, Ok, Err, ⊤}
use Rattle.std.specs.List.{range_with_len}
use Rattle.gc_base.specs.declared.place.MakeKind.{MakeKind}
use Rattle.gc_base.specs.declared.place.MakeKind.TheVariants.{Ring, Random}
use Rattle.gc_make.specs.Draws.{draw, drawn_node}
use Rattle.gc_make.specs.declared.making.MakeRefusal.{MakeRefusal}
use Rattle.gc_make.specs.declared.making.MakeRefusal.TheVariants.{BadSize, Memory}
use Rattle.gc_spec.specs.PropertyGraph.{PropertyGraph, Node, Edge}

-- Take a ring of 3 nodes: the nodes 0, 1 and 2, of which 0 is First, the edge 3 from 0 to 1, 4 from 1 to 2, and 5 from 2 to 0.

-- how many nodes a graph of a kind may have, and how large a start may be
abbrev pub most_size : MakeKind → ℕ
most_size Ring = 2000
most_size Random = 32768

abbrev pub most_start : ℕ
most_start = 2147483647

abbrev pub fits : MakeKind → (size start : ℕ) → Bool
fits kind size start = (nat_le 1 size && nat_le size (most_size kind)) && nat_le start most_start

-- each node has the label Node, and the node 0 has First beside it
abbrev pub node_labels : ℕ → List (List ℕ)
node_labels zero = codes "First" ∷ codes "Node" ∷ []
node_labels (suc i) = codes "Node" ∷ []

abbrev pub made_node : ℕ → Node
made_node i = record { id = i; labels = node_labels i; properties = [] }

-- each edge has the label to
abbrev pub made_edge : (id from to : ℕ) → Edge
made_edge id from to = record { id = id; from = from; to = to; labels = codes "to" ∷ []; properties = [] }

-- edges are numbered behind the n nodes. In a ring they go from each node to the next one, and from the last to the first
abbrev pub ring_edge : (n j : ℕ) → Edge
ring_edge n j = made_edge (n + j) j ((j + 1) % n)

-- else the source and the target of each are drawn, one after the other
abbrev pub random_edge : (n start j : ℕ) → Edge
random_edge n start j = made_edge (n + j) (drawn_node n (draw start (2 * j + 1))) (drawn_node n (draw start (2 * j + 2)))

-- n nodes, without edges and with so many
abbrev pub made_nodes : (n : ℕ) → PropertyGraph
made_nodes n = record { nodes = map made_node (range_with_len 0 n); edges = []; paths = [] }

abbrev pub made_of : (n : ℕ) → (edge : ℕ → Edge) → (edges : ℕ) → PropertyGraph
made_of n edge edges = record { nodes = map made_node (range_with_len 0 n); edges = map edge (range_with_len 0 edges); paths = [] }

-- a ring has as many edges as nodes, the other kind five times as many
abbrev pub made : MakeKind → (size start : ℕ) → PropertyGraph
made Ring n start = made_of n (ring_edge n) n
made Random n start = made_of n (random_edge n start) (5 * n)

-- the graph is made, or its size or its start does not fit
abbrev pub IsMade : MakeKind → (size start : ℕ) → Result PropertyGraph MakeRefusal → Type 0
IsMade kind size start (Ok g) = (fits kind size start ≡ true) × (g ≡ made kind size start)
IsMade kind size start (Err BadSize) = fits kind size start ≡ false
IsMade kind size start (Err Memory) = ⊤
