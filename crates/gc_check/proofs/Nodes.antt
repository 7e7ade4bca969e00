-- A node is found where it is among the nodes.
use Rattle.std.proofs.Common.{◌≡◌, ℕ, true, false, cond, ◌||◌, ◌==◌, List, [], ◌∷◌, Some, refl, is_some}
use Rattle.gc_spec.specs.PropertyGraph.{Node, is_among, node_at, node_ids}

pub found_among : (nodes : List Node) (id : ℕ) → is_some (node_at nodes id) ≡ is_among (node_ids nodes) id
found_among [] id = refl
found_among (n ∷ nodes) id =
    elim (n.id == id) as (λ t. is_some (cond t (Some n) (node_at nodes id)) ≡ (t || is_among (node_ids nodes) id)) [
      | true ↦ refl
      | false ↦ found_among nodes id
    ]
