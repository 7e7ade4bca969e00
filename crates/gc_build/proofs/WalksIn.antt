-- Each walk that conforms is a walk of the graph, and so it goes from node to node.
use Rattle.std.proofs.Common.{◌≡◌, ◌⊎◌, inl, inr, ⊎_elim, ℕ, zero, suc, Bool, true, false, ◌&&◌, ◌||◌, ◌==◌, List, [], ◌∷◌, ◌++◌, refl, sym, ap, subst}
use Rattle.std.specs.List.{AllByRecursion, Contains}
use Rattle.std.proofs.lemmas.Bool.{and_parts, eq-eqb, eqb-true}
use Rattle.gc_base.specs.Walks.{end_of, end_of_steps}
use Rattle.gc_base.specs.declared.walk.Step.{Step}
use Rattle.gc_base.specs.declared.walk.Walk.{Walk}
use Rattle.gc_spec.specs.PropertyGraph.{Node, Edge, IsEdge, IsGraph, are_steps_from, is_among, is_joined, is_walk, node_ids}
use Rattle.gc_regx.specs.Trees.{Kind, RegexTree, ARegex, ARow, Label, Back, Any, AnyBack, Test, View, Cat, Alt, Star, none, more}
use Rattle.gc_automata.specs.Conformance.{Fact, Facts, Follow, InTurn, Moving, OneOf, Turns, conforms}
use Rattle.gc_automata.specs.Moves.{GoesAlong, Network, Stays, StaysAt, against, along, joined}
use Rattle.gc_automata.proofs.Inclusion.{among_more, among_none}
use Rattle.gc_prod.specs.Segments.{AreSegments, IsSegment}
use Rattle.gc_prod.proofs.Networks.{among_all}

pub both_true : (a b : Bool) → a ≡ true → b ≡ true → (a && b) ≡ true
both_true true b h k = k
both_true false b h k = h

or_true : (a b : Bool) → b ≡ true → (a || b) ≡ true
or_true true b h = refl
or_true false b h = h

true_or : (a b : Bool) → a ≡ true → (a || b) ≡ true
true_or a b h = ap (λ x. x || b) h

pub either_true : (a b : Bool) → (a || b) ≡ true → (a ≡ true) ⊎ (b ≡ true)
either_true true b h = inl h
either_true false b h = inr h

pub same_itself : (n : ℕ) → (n == n) ≡ true
same_itself n = eq-eqb n n refl

-- a node of a graph is there
pub node_there : (nodes : List Node) (n : Node) → Contains nodes n → is_among (node_ids nodes) n.id ≡ true
node_there [] n h = absurd (among_none n h)
node_there (m ∷ nodes) n h =
    ⊎_elim
    (λ same. true_or (m.id == n.id) _ (eq-eqb m.id n.id (ap (λ (k : Node). k.id) same)))
    (λ behind. or_true (m.id == n.id) _ (node_there nodes n behind))
    (among_more m nodes n h)

-- an edge of a graph joins its ends, either way
joins : (edges : List Edge) (e : Edge) (a b : ℕ) → Contains edges e → ((e.from == a && e.to == b) || (e.from == b && e.to == a)) ≡ true → is_joined edges e.id a b ≡ true
joins [] e a b h k = absurd (among_none e h)
joins (d ∷ edges) e a b h k =
    ⊎_elim
    (λ same. true_or _ _ (subst (λ (x : Edge). ((x.id == e.id) && ((x.from == a && x.to == b) || (x.from == b && x.to == a))) ≡ true) (sym same)
    (both_true (e.id == e.id) _ (same_itself e.id) k)))
    (λ behind. or_true _ _ (joins edges e a b behind k))
    (among_more d edges e h)

-- what an edge joins
module _ (nodes : List Node) (edges : List Edge) (are : AllByRecursion (IsEdge nodes) edges) where
  abbrev There : ℕ → Type 0
  There id = is_among (node_ids nodes) id ≡ true

  ends_there : (ds : List Edge) (id a b : ℕ) → AllByRecursion (IsEdge nodes) ds → is_joined ds id a b ≡ true → There a × There b
  ends_there [] id a b all h = absurd (cc h)
  ends_there (e ∷ ds) id a b all h =
      ⊎_elim
      (λ k. ⊎_elim
      (λ m. let p = and_parts (e.from == a) (e.to == b) m in (subst There (eqb-true e.from a p.0) all.0.source, subst There (eqb-true e.to b p.1) all.0.target))
      (λ m. let p = and_parts (e.from == b) (e.to == a) m in (subst There (eqb-true e.to a p.1) all.0.target, subst There (eqb-true e.from b p.0) all.0.source))
      (either_true _ _ (and_parts (e.id == id) _ k).1))
      (λ k. ends_there ds id a b all.1 k)
      (either_true _ _ h)

  pub joined_there : (id a b : ℕ) → is_joined edges id a b ≡ true → There a × There b
  joined_there id a b h = ends_there edges id a b are h

  -- steps from a node lead to a node
  steps_there : (node : ℕ) (steps : List Step) → There node → are_steps_from edges node steps ≡ true → There (end_of_steps node steps)
  steps_there node [] start h = start
  steps_there node (step ∷ steps) start h =
      let parts = and_parts (is_joined edges step.edge node step.node) (are_steps_from edges step.node steps) h in
      steps_there step.node steps (joined_there step.edge node step.node parts.0).1 parts.1

  pub start_there : (w : Walk) → is_walk nodes edges w ≡ true → There w.start
  start_there w h = (and_parts (is_among (node_ids nodes) w.start) (are_steps_from edges w.start w.steps) h).0

  pub end_there : (w : Walk) → is_walk nodes edges w ≡ true → There (end_of w)
  end_there w h = let parts = and_parts (is_among (node_ids nodes) w.start) (are_steps_from edges w.start w.steps) h in steps_there w.start w.steps parts.0 parts.1

-- one walk and another that begins where it ends are a walk
steps_joined : (edges : List Edge) (node : ℕ) (steps more : List Step) → are_steps_from edges node steps ≡ true → are_steps_from edges (end_of_steps node steps) more ≡ true
    → are_steps_from edges node (steps ++ more) ≡ true
steps_joined edges node [] others h k = k
steps_joined edges node (step ∷ steps) others h k =
    let parts = and_parts (is_joined edges step.edge node step.node) (are_steps_from edges step.node steps) h in
    both_true (is_joined edges step.edge node step.node) (are_steps_from edges step.node (steps ++ others)) parts.0 (steps_joined edges step.node steps others parts.1 k)

walks_joined : (nodes : List Node) (edges : List Edge) (v w : Walk) → end_of v ≡ w.start → is_walk nodes edges v ≡ true → is_walk nodes edges w ≡ true → is_walk nodes edges (joined v w) ≡ true
walks_joined nodes edges v w meets h k =
    let first = and_parts (is_among (node_ids nodes) v.start) (are_steps_from edges v.start v.steps) h in
    let second = and_parts (is_among (node_ids nodes) w.start) (are_steps_from edges w.start w.steps) k in
    both_true (is_among (node_ids nodes) v.start) (are_steps_from edges v.start (v.steps ++ w.steps)) first.0
    (steps_joined edges v.start v.steps w.steps first.1 (subst (λ n. are_steps_from edges n w.steps ≡ true) (sym meets) second.1))

module _ (network : Network) (graph : IsGraph network.graph) (segments : AreSegments network.graph network.segments) where
  abbrev nodes : List Node
  nodes = network.graph.nodes

  abbrev edges : List Edge
  edges = network.graph.edges

  -- each walk that is so is one of the graph
  pub record IsInGraph (P : Fact) : Type 0 where
    pub walks : (w : Walk) (c : ℕ) → P w c → is_walk nodes edges w ≡ true

  still : (node : ℕ) (w : Walk) → is_among (node_ids nodes) w.start ≡ true → w.steps ≡ [] → is_walk nodes edges w ≡ true
  still node w there empty = both_true (is_among (node_ids nodes) w.start) (are_steps_from edges w.start w.steps) there (ap (are_steps_from edges w.start) empty)

  stays_in : IsInGraph (Stays network)
  stays_in = record { walks = λ w c s. still w.start w s.there s.still }

  edge_in : (way : Edge → Walk) (Fits : Edge → Type 0) → ((e : Edge) → Contains edges e → is_walk nodes edges (way e) ≡ true) → IsInGraph (GoesAlong network way Fits)
  edge_in way Fits f = record { walks = λ w c g. subst (λ v. is_walk nodes edges v ≡ true) (sym g.goes) (f g.edge g.there) }

  loose_true : (b : Bool) → b ≡ true → (b && true) ≡ true
  loose_true b h = ap (λ x. x && true) h

  along_in : (e : Edge) → Contains edges e → is_walk nodes edges (along e) ≡ true
  along_in e m =
      let is = among_all (IsEdge nodes) edges e graph.edges m in
      both_true _ _ is.source (loose_true _ (joins edges e e.from e.to m (true_or _ _ (both_true (e.from == e.from) (e.to == e.to) (same_itself e.from) (same_itself e.to)))))

  against_in : (e : Edge) → Contains edges e → is_walk nodes edges (against e) ≡ true
  against_in e m =
      let is = among_all (IsEdge nodes) edges e graph.edges m in
      both_true _ _ is.target (loose_true _ (joins edges e e.to e.from m (or_true _ _ (both_true (e.from == e.from) (e.to == e.to) (same_itself e.from) (same_itself e.to)))))

  test_in : (label : List ℕ) → IsInGraph (StaysAt network label)
  test_in label = record {
    walks = λ w c s. subst (λ (v : Walk). is_walk nodes edges v ≡ true) (sym s.still) (loose_true _ (node_there nodes s.node s.there));
  }

  follow_in : (P Q : Fact) → IsInGraph P → IsInGraph Q → IsInGraph (Follow P Q)
  follow_in P Q p q = record {
    walks = λ w c f. subst (λ v. is_walk nodes edges v ≡ true) (sym f.whole)
        (walks_joined nodes edges f.first f.second f.meets (p.walks f.first f.first_cost f.early) (q.walks f.second f.second_cost f.late));
  }

  turns_in : (P : Fact) → IsInGraph P → (n : ℕ) → IsInGraph (Turns network P n)
  turns_in P p zero = stays_in
  turns_in P p (suc n) = follow_in (Moving P) (Turns network P n) (record { walks = λ w c h. p.walks w c h.1 }) (turns_in P p n)

  AreInGraph : List Fact → Type 0
  AreInGraph [] = Unit {0}
  AreInGraph (P ∷ facts) = IsInGraph P × AreInGraph facts

  turn_in : (facts : List Fact) → AreInGraph facts → IsInGraph (InTurn facts)
  unfolding AreInGraph
  turn_in [] all = record { walks = λ w c h. absurd h }
  turn_in (P ∷ []) all = all.0
  turn_in (P ∷ Q ∷ facts) all = follow_in P (InTurn (Q ∷ facts)) all.0 (turn_in (Q ∷ facts) all.1)

  one_in : (facts : List Fact) → AreInGraph facts → IsInGraph (OneOf facts)
  unfolding AreInGraph
  one_in [] all = record { walks = λ w c h. absurd h }
  one_in (P ∷ facts) all = record { walks = λ w c h. ⊎_elim (λ k. all.0.walks w c k) (λ k. (one_in facts all.1).walks w c k) h }

  InGraph : (k : Kind) → Facts k → Type 0
  InGraph ARegex P = IsInGraph P
  InGraph ARow facts = AreInGraph facts

  conforms_in : {k : Kind} (tree : RegexTree k) → InGraph k (conforms network tree)
  unfolding InGraph AreInGraph conforms
  conforms_in (Label l) = edge_in along _ along_in
  conforms_in (Back l) = edge_in against _ against_in
  conforms_in Any = edge_in along _ along_in
  conforms_in AnyBack = edge_in against _ against_in
  conforms_in (Test l) = test_in l
  conforms_in (View v) = record { walks = λ w c s. (among_all (IsSegment network.graph) network.segments (record { view = v; walk = w; cost = c }) segments s).walk }
  conforms_in (Cat parts) = turn_in (conforms network parts) (conforms_in parts)
  conforms_in (Alt parts) = one_in (conforms network parts) (conforms_in parts)
  conforms_in (Star part) = record { walks = λ w c h. (turns_in (conforms network part) (conforms_in part) h.0).walks w c h.1 }
  conforms_in none = tt
  conforms_in (more part parts) = (conforms_in part, conforms_in parts)

  -- a walk that conforms to an expression is one of the graph
  pub conforming : (tree : RegexTree ARegex) (w : Walk) (c : ℕ) → conforms network tree w c → is_walk nodes edges w ≡ true
  unfolding InGraph
  conforming tree w c h = (conforms_in {k = ARegex} tree).walks w c h
