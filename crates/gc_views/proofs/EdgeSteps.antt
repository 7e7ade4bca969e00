-- A row that meets a node or an edge pattern has a node, or an edge between its ends, of the graph.
use Rattle.std.proofs.Common.{◌≡◌, ℕ, ◌⊎◌, inl, inr, ◌==◌, ◌&&◌, ◌||◌, Bool, true, false, cond, List, [], ◌∷◌, Option, Some, refl, sym, ap, ◌∙◌, subst, arith}
use Rattle.std.specs.List.{Contains, list_any}
use Rattle.std.proofs.lemmas.Bool.{eq-eqb}
use Rattle.std.proofs.lemmas.Option.{same_Some}
use Rattle.gc_alg.specs.Instances.{Ends, Has, Meets, against, along, at_edge, at_node, edge_bound, ends_of, fit, node_bound}
use Rattle.gc_alg.specs.declared.atom.AtomWhat.TheVariants as atom
use Rattle.gc_automata.specs.Moves.{Network}
use Rattle.gc_base.specs.declared.place.Direction.{Direction}
use Rattle.gc_base.specs.declared.place.Direction.TheVariants.{Forward, Backward, Either}
use Rattle.gc_base.specs.declared.place.Sym.{Sym}
use Rattle.gc_prod.proofs.Members.{key_there}
use Rattle.gc_rows.proofs.Members.{cons_cases, from_flat_map, from_map}
use Rattle.gc_rows.specs.Rows.{datum_at}
use Rattle.gc_rows.specs.declared.row.Binding.{Binding}
use Rattle.gc_spec.specs.PropertyGraph.{Edge, Node, is_among, is_joined, node_ids}
use Rattle.gc_views.specs.Segments.{edge_of, node_of}

-- members of short lists
no_member : {X : Type 0} (x : X) → Contains [] x → ⊥
no_member x m = omega (arith, m.1)

only_member : {X : Type 0} (y x : X) → Contains (y ∷ []) x → y ≡ x
only_member y x m = elim (cons_cases y [] x m) [ inl same ↦ same | inr later ↦ absurd (no_member x later) ]

if_in : {X : Type 0} (t : Bool) (xs : List X) (y : X) → Contains (cond t xs []) y → Contains xs y
if_in true xs y m = m
if_in false xs y m = absurd (no_member y m)

if_other : {X : Type 0} (t : Bool) (y x : X) → Contains (cond t [] (y ∷ [])) x → y ≡ x
if_other true y x m = absurd (no_member x m)
if_other false y x m = only_member y x m

-- an edge is seen along or against it
seen : (way : Direction) (one : Edge) (ends : Ends) → Contains (ends_of way one) ends → (along one ≡ ends) ⊎ (against one ≡ ends)
seen Forward one ends m = inl (only_member (along one) ends m)
seen Backward one ends m = inr (only_member (against one) ends m)
seen Either one ends m =
    elim (cons_cases (along one) _ ends m) [
      | inl same ↦ inl same
      | inr later ↦ inr (if_other (one.from == one.to) (against one) ends later)
    ]

-- tests that are true
true_or : (a b : Bool) → a ≡ true → (a || b) ≡ true
true_or a b h = ap (λ x. x || b) h

or_true : (a b : Bool) → b ≡ true → (a || b) ≡ true
or_true true b h = refl
or_true false b h = h

in_any : {X : Type 0} (f : X → Bool) (xs : List X) (x : X) → Contains xs x → f x ≡ true → list_any f xs ≡ true
in_any f [] x m h = absurd (no_member x m)
in_any f (y ∷ xs) x m h =
    elim (cons_cases y xs x m) [
      | inl same ↦ true_or (f y) (list_any f xs) (ap f same ∙ h)
      | inr later ↦ or_true (f y) (list_any f xs) (in_any f xs x later h)
    ]

pub and_true : (a b : Bool) → a ≡ true → b ≡ true → (a && b) ≡ true
and_true a b h k = ap (λ x. x && b) h ∙ k

same : (n : ℕ) → (n == n) ≡ true
same n = eq-eqb n n refl

-- an edge joins its ends, either way
joined_along : (edges : List Edge) (one : Edge) → Contains edges one → is_joined edges one.id one.from one.to ≡ true
joined_along edges one m =
    in_any (λ (e : Edge). (e.id == one.id) && ((e.from == one.from && e.to == one.to) || (e.from == one.to && e.to == one.from))) edges one m
    (and_true _ _ (same one.id) (true_or _ _ (and_true _ _ (same one.from) (same one.to))))

joined_against : (edges : List Edge) (one : Edge) → Contains edges one → is_joined edges one.id one.to one.from ≡ true
joined_against edges one m =
    in_any (λ (e : Edge). (e.id == one.id) && ((e.from == one.to && e.to == one.from) || (e.from == one.from && e.to == one.to))) edges one m
    (and_true _ _ (same one.id) (or_true (one.from == one.to && one.to == one.from) _ (and_true _ _ (same one.from) (same one.to))))

joined_ends : (edges : List Edge) (one : Edge) (ends : Ends) → Contains edges one → (along one ≡ ends) ⊎ (against one ≡ ends)
    → is_joined edges one.id ends.left ends.right ≡ true
joined_ends edges one ends m (inl is) = subst (λ (w : Ends). is_joined edges one.id w.left w.right ≡ true) is (joined_along edges one m)
joined_ends edges one ends m (inr is) = subst (λ (w : Ends). is_joined edges one.id w.left w.right ≡ true) is (joined_against edges one m)

-- what is one node or edge of a row is the one that an instance has
same_id : (o : Option ℕ) (a b : ℕ) → o ≡ Some a → o ≡ Some b → a ≡ b
same_id o a b h k = same_Some a b (sym h ∙ k)

module _ (network : Network) (row : List Binding) where
  -- the edge of an edge pattern joins the nodes beside it
  pub edge_joins : (x e y : Sym) (way : Direction) (labels : List (List (List ℕ))) → Meets network (atom.Edge x e y way labels) row
      → (a f b : ℕ) → node_of (datum_at row x) ≡ Some a → edge_of (datum_at row e) ≡ Some f → node_of (datum_at row y) ≡ Some b
      → is_joined network.graph.edges f a b ≡ true
  edge_joins x e y way labels met a f b left at right =
      let from = from_flat_map (at_edge x e y way labels) network.graph.edges met.instance met.there in
      let one : Edge = from.0 in
      let made = from_map (edge_bound x e y one) (ends_of way one) met.instance (if_in (fit labels one.labels) _ met.instance from.2) in
      let ends : Ends = made.0 in
      let has : Has row (edge_bound x e y one ends) = subst (Has row) made.2 met.holds in
      let a_is : ends.left ≡ a = same_id _ _ _ (ap node_of has.0) left in
      let f_is : one.id ≡ f = same_id _ _ _ (ap edge_of has.1.0) at in
      let b_is : ends.right ≡ b = same_id _ _ _ (ap node_of has.1.1.0) right in
      let joins : is_joined network.graph.edges one.id ends.left ends.right ≡ true = joined_ends _ one ends from.1 (seen way one ends made.1) in
      (λ i. is_joined network.graph.edges (sym f_is i) (sym a_is i) (sym b_is i)) ∙ joins

  -- the node of a node pattern is one of the graph
  pub node_among : (x : Sym) (labels : List (List (List ℕ))) → Meets network (atom.Node x labels) row → (a : ℕ) → node_of (datum_at row x) ≡ Some a
      → is_among (node_ids network.graph.nodes) a ≡ true
  node_among x labels met a at =
      let from = from_flat_map (at_node x labels) network.graph.nodes met.instance met.there in
      let one : Node = from.0 in
      let made : node_bound x one ≡ met.instance = only_member _ _ (if_in (fit labels one.labels) _ met.instance from.2) in
      let has : Has row (node_bound x one) = subst (Has row) (sym made) met.holds in
      let a_is : one.id ≡ a = same_id _ _ _ (ap node_of has.0) at in
      ap (is_among (node_ids network.graph.nodes)) (sym a_is) ∙ key_there (λ (n : Node). n.id) network.graph.nodes one from.1
