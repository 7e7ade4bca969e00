-- Walks, costs and the walk order.
use Rattle.std.specs.Prelude.{ℕ, List, [], ◌∷◌, length, map}
use Rattle.std.specs.declared.cmp.Ordering.{Ordering}
use Rattle.std.specs.Ordering.{nat_cmp, ordering_then}
use Rattle.std.specs.Cmp.Lexicographic.{slice_cmp}
use Rattle.gc_base.specs.declared.walk.Step.{Step}
use Rattle.gc_base.specs.declared.walk.Walk.{Walk}

-- the node after some steps from a node
abbrev pub end_of_steps : ℕ → List Step → ℕ
end_of_steps node [] = node
end_of_steps node (step ∷ steps) = end_of_steps step.node steps

-- the node at which a walk ends
abbrev pub end_of : Walk → ℕ
end_of walk = end_of_steps walk.start walk.steps

-- the edges along a walk
abbrev pub edges_of : Walk → List ℕ
edges_of walk = map (λ step. step.edge) walk.steps

-- by cost, then by the number of edges, then by the edges one after another
abbrev pub walk_order : ℕ → Walk → ℕ → Walk → Ordering
walk_order cost walk other_cost other =
    ordering_then (nat_cmp cost other_cost)
    (ordering_then (nat_cmp (length walk.steps) (length other.steps)) (slice_cmp nat_cmp (edges_of walk) (edges_of other)))
