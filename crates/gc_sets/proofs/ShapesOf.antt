-- What an identity stands for in a graph, by the element that is found there.
use Rattle.std.proofs.Common.{◌≡◌, ◌⊎◌, inl, inr, ⊎_elim, ℕ, true, false, cond, ◌==◌, List, [], ◌∷◌, ◌++◌, map, Option, Some, refl, ap, ◌∙◌, subst}
use Rattle.std.specs.List.{find}
use Rattle.std.specs.Map.{lookup}
use Rattle.gc_spec.specs.Coherence.{ElementShape, NodeShape, EdgeShape, PathShape, shape_at}
use Rattle.gc_spec.specs.PropertyGraph.{PropertyGraph, Node, Edge, Path, IsGraph, node_at, edge_at, path_at}
use Rattle.gc_sets.proofs.Finds.{found_has, found_key, injective}
use Rattle.gc_sets.proofs.Shapes.{own_shapes}

abbrev among : List (ℕ × ElementShape) → ℕ → Option ElementShape
among shapes id = lookup (λ other. other == id) shapes

among_either : (xs ys : List (ℕ × ElementShape)) (id : ℕ) (s : ElementShape) → among (xs ++ ys) id ≡ Some s → (among xs id ≡ Some s) ⊎ (among ys id ≡ Some s)
among_either [] ys id s h = inr h
among_either (x ∷ xs) ys id s h =
    elim (x.0 == id) as (λ b. cond b (Some x.1) (among (xs ++ ys) id) ≡ Some s → (cond b (Some x.1) (among xs id) ≡ Some s) ⊎ (among ys id ≡ Some s)) [
      | true ↦ λ k. inl k
      | false ↦ λ k. among_either xs ys id s k
    ] h

-- an element of an identity, with its shape
pub record Found {X : Type 0} (key : X → ℕ) (of : X → ElementShape) (xs : List X) (id : ℕ) (s : ElementShape) : Type 0 where
  pub element : X
  pub found : find (λ x. key x == id) xs ≡ Some element
  pub shape : of element ≡ s

found_later : {X : Type 0} (key : X → ℕ) (of : X → ElementShape) (x : X) (xs : List X) (id : ℕ) (s : ElementShape) → (key x == id) ≡ false → Found key of xs id s → Found key of (x ∷ xs) id s
found_later key of x xs id s apart h = record { element = h.element; found = ap (λ b. cond b (Some x) (find (λ y. key y == id) xs)) apart ∙ h.found; shape = h.shape }

found_among : {X : Type 0} (key : X → ℕ) (of : X → ElementShape) (xs : List X) (id : ℕ) (s : ElementShape) → among (map (λ x. (key x, of x)) xs) id ≡ Some s → Found key of xs id s
found_among key of [] id s h = absurd (cc h)
found_among key of (x ∷ xs) id s h =
    elim (key x == id) as (λ b. (key x == id) ≡ b → cond b (Some (of x)) (among (map (λ y. (key y, of y)) xs) id) ≡ Some s → Found key of (x ∷ xs) id s) [
      | true ↦ λ t k. record { element = x; found = ap (λ b. cond b (Some x) (find (λ y. key y == id) xs)) t; shape = injective (of x) s k }
      | false ↦ λ t k. found_later key of x xs id s t (found_among key of xs id s k)
    ] refl h

abbrev pub node_key : Node → ℕ
node_key n = n.id

abbrev pub node_shape : Node → ElementShape
node_shape n = NodeShape

abbrev pub edge_key : Edge → ℕ
edge_key e = e.id

abbrev pub edge_shape : Edge → ElementShape
edge_shape e = EdgeShape e.from e.to

abbrev pub path_key : Path → ℕ
path_key p = p.id

abbrev pub path_shape : Path → ElementShape
path_shape p = PathShape p.walk

-- an identity of a graph is that of a node, of an edge or of a stored path
pub data Of (g : PropertyGraph) (id : ℕ) (s : ElementShape) : Type 0 where
  of_node : Found node_key node_shape g.nodes id s → Of g id s
  of_edge : Found edge_key edge_shape g.edges id s → Of g id s
  of_path : Found path_key path_shape g.paths id s → Of g id s

pub of_shape : (g : PropertyGraph) (id : ℕ) (s : ElementShape) → shape_at g id ≡ Some s → Of g id s
of_shape g id s h =
    let ns = map (λ (n : Node). (n.id, NodeShape)) g.nodes in
    let es = map (λ (e : Edge). (e.id, EdgeShape e.from e.to)) g.edges in
    let ps = map (λ (p : Path). (p.id, PathShape p.walk)) g.paths in
    ⊎_elim
    (λ k. ⊎_elim (λ n. of_node (found_among node_key node_shape g.nodes id s n)) (λ e. of_edge (found_among edge_key edge_shape g.edges id s e)) (among_either ns es id s k))
    (λ p. of_path (found_among path_key path_shape g.paths id s p)) (among_either (ns ++ es) ps id s h)

module _ (g : PropertyGraph) (is : IsGraph g) where
  pub node_is : (id : ℕ) (n : Node) → node_at g.nodes id ≡ Some n → shape_at g id ≡ Some NodeShape
  node_is id n h =
      let found = found_has (λ x. x.id) (λ (x : Node). shape_at g x.id ≡ Some NodeShape) g.nodes id n (own_shapes g is.distinct).nodes h in
      subst (λ q. shape_at g q ≡ Some NodeShape) (found_key (λ x. x.id) g.nodes id n h) found

  pub edge_is : (id : ℕ) (e : Edge) → edge_at g.edges id ≡ Some e → shape_at g id ≡ Some (EdgeShape e.from e.to)
  edge_is id e h =
      let found = found_has (λ x. x.id) (λ (x : Edge). shape_at g x.id ≡ Some (EdgeShape x.from x.to)) g.edges id e (own_shapes g is.distinct).edges h in
      subst (λ q. shape_at g q ≡ Some (EdgeShape e.from e.to)) (found_key (λ x. x.id) g.edges id e h) found

  pub path_is : (id : ℕ) (p : Path) → path_at g.paths id ≡ Some p → shape_at g id ≡ Some (PathShape p.walk)
  path_is id p h =
      let found = found_has (λ x. x.id) (λ (x : Path). shape_at g x.id ≡ Some (PathShape x.walk)) g.paths id p (own_shapes g is.distinct).paths h in
      subst (λ q. shape_at g q ≡ Some (PathShape p.walk)) (found_key (λ x. x.id) g.paths id p h) found
