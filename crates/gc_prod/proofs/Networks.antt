-- A graph with segments of it is a network: what leads somewhere leads from node to node.
use Rattle.std.proofs.Common.{◌≡◌, ℕ, Bool, true, false, ◌||◌, ◌&&◌, ◌==◌, List, [], ◌∷◌, ◌⊎◌, inl, inr, refl, subst, arith}
use Rattle.std.specs.List.{AllByRecursion, Contains}
use Rattle.std.proofs.lemmas.Bool.Decides.{nat_tests}
use Rattle.std.specs.declared.cmp.Ordering.TheVariants.{Less}
use Rattle.std.specs.Ordering.{nat_cmp}
use Rattle.gc_base.specs.Ascending.{Ascends}
use Rattle.gc_base.specs.Walks.{end_of_steps}
use Rattle.gc_base.specs.declared.walk.Step.{Step}
use Rattle.gc_spec.specs.PropertyGraph.{Node, Edge, IsGraph, IsEdge, node_order, node_ids, is_among, is_joined, are_steps_from}
use Rattle.gc_automata.specs.Moves.{Network, IsNetwork}
use Rattle.gc_automata.proofs.Inclusion.{among_more, among_none}
use Rattle.gc_prod.specs.Segments.{IsSegment, AreSegments}

pub among_all : {X : Type 0} (P : X → Type 0) (xs : List X) (x : X) → AllByRecursion P xs → Contains xs x → P x
among_all P [] x all h = absurd (among_none x h)
among_all P (y ∷ xs) x all h = by (among_all P xs x all.1) (among_more y xs x h)
  where
    by : (Contains xs x → P x) → (y ≡ x) ⊎ Contains xs x → P x
    by next (inl same) = subst P same all.0
    by next (inr behind) = next behind

and_first : (a b : Bool) → (a && b) ≡ true → a ≡ true
and_first true b h = refl
and_first false b h = cc

and_second : (a b : Bool) → (a && b) ≡ true → b ≡ true
and_second true b h = h
and_second false b h = cc

eqb_same : (a b : ℕ) → (a == b) ≡ true → a ≡ b
eqb_same a b h = grind (arith, nat_tests)

either : (a b : Bool) → (a || b) ≡ true → (a ≡ true) ⊎ (b ≡ true)
either true b h = inl refl
either false b h = inr h

module _ (nodes : List Node) where
  abbrev IsNodeOf : ℕ → Type 0
  IsNodeOf id = is_among (node_ids nodes) id ≡ true

  -- what an edge joins are nodes
  one_edge : (e : Edge) (id a b : ℕ) → IsEdge nodes e → ((e.id == id) && ((e.from == a && e.to == b) || (e.from == b && e.to == a))) ≡ true → IsNodeOf b
  one_edge e id a b is h = by (either _ _ (and_second (e.id == id) _ h))
    where
      by : ((e.from == a && e.to == b) ≡ true) ⊎ ((e.from == b && e.to == a) ≡ true) → IsNodeOf b
      by (inl k) = subst IsNodeOf (eqb_same e.to b (and_second (e.from == a) _ k)) is.target
      by (inr k) = subst IsNodeOf (eqb_same e.from b (and_first (e.from == b) (e.to == a) k)) is.source

  joined_end : (edges : List Edge) (id a b : ℕ) → AllByRecursion (IsEdge nodes) edges → is_joined edges id a b ≡ true → IsNodeOf b
  joined_end [] id a b all h = cc
  joined_end (e ∷ edges) id a b all h = by (joined_end edges id a b all.1) (either _ _ h)
    where
      by : (is_joined edges id a b ≡ true → IsNodeOf b) → (((e.id == id) && ((e.from == a && e.to == b) || (e.from == b && e.to == a))) ≡ true) ⊎ (is_joined edges id a b ≡ true) → IsNodeOf b
      by next (inl k) = one_edge e id a b all.0 k
      by next (inr k) = next k

  steps_end : (edges : List Edge) (node : ℕ) (steps : List Step) → AllByRecursion (IsEdge nodes) edges → IsNodeOf node → are_steps_from edges node steps ≡ true → IsNodeOf (end_of_steps node steps)
  steps_end edges node [] all start h = start
  steps_end edges node (step ∷ steps) all start h =
      steps_end edges step.node steps all (joined_end edges step.edge node step.node all (and_first _ _ h)) (and_second (is_joined edges step.edge node step.node) _ h)

-- identities ascend as their nodes do
ids_above : (n : Node) (nodes : List Node) → AllByRecursion (λ m. node_order n m ≡ Less) nodes → AllByRecursion (λ id. nat_cmp n.id id ≡ Less) (node_ids nodes)
ids_above n [] all = tt
ids_above n (m ∷ nodes) all = (all.0, ids_above n nodes all.1)

pub ids_ascend : (nodes : List Node) → Ascends node_order nodes → Ascends nat_cmp (node_ids nodes)
ids_ascend [] up = tt
ids_ascend (n ∷ nodes) up = (ids_above n nodes up.0, ids_ascend nodes up.1)

pub network_is : (network : Network) → IsGraph network.graph → AreSegments network.graph network.segments → IsNetwork network
network_is network graph segments = record {
  edges = λ e k. let is = among_all (IsEdge network.graph.nodes) network.graph.edges e graph.edges k in (is.source, is.target);
  segments = λ s k.
      let is = among_all (IsSegment network.graph) network.segments s segments k in
      let start = and_first _ _ is.walk in
      (is.moves, start, steps_end network.graph.nodes network.graph.edges s.walk.start s.walk.steps graph.edges start (and_second (is_among (node_ids network.graph.nodes) s.walk.start) _ is.walk));
}
