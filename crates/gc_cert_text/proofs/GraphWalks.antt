-- Nodes and edges of a graph beside what is found by identity.
use Rattle.std.proofs.Common.{◌≡◌, ℕ, true, false, cond, ◌||◌, ◌==◌, List, [], ◌∷◌, Option, Some, refl, sym, ap, ◌∙◌, is_some}
use Rattle.gc_spec.specs.PropertyGraph.{Node, Edge, PropertyGraph, IsGraph, edge_at, is_among, is_joined, node_at, node_ids}
use Rattle.gc_ppg.specs.Built.{has_ends}
use Rattle.gc_ppg.proofs.ElementLists.{list_any-find, passes_at}

-- a node is found where it is among the nodes
pub found_among : (nodes : List Node) (id : ℕ) → is_some (node_at nodes id) ≡ is_among (node_ids nodes) id
found_among [] id = refl
found_among (n ∷ nodes) id =
    elim (n.id == id) as (λ t. is_some (cond t (Some n) (node_at nodes id)) ≡ (t || is_among (node_ids nodes) id)) [
      | true ↦ refl
      | false ↦ found_among nodes id
    ]

-- an edge joins two nodes where the one that is found has them for ends
pub joined_found : (g : PropertyGraph) (id a b : ℕ) (o : Option Edge) → IsGraph g → o ≡ edge_at g.edges id
    → passes_at (λ (e : Edge). e.id) (has_ends a b) o ≡ is_joined g.edges id a b
joined_found g id a b o graph is = ap (passes_at (λ e. e.id) (has_ends a b)) is ∙ sym (list_any-find (λ e. e.id) (has_ends a b) g.edges id graph.edges_ascend)
