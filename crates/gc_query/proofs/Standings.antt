-- What stands with a graph more.
use Rattle.std.proofs.Common.{◌≡◌, ⊎_elim, ◌<◌, ◌≤◌, ◌==◌, ℕ, zero, suc, true, false, cond, List, [], ◌∷◌, ◌++◌, length, take, map, find, Option, None, Some, refl, sym, ap, ◌∙◌, subst, arith}
use Rattle.std.proofs.lemmas.Bool.{eq-eqb, eqb-true}
use Rattle.std.proofs.lemmas.List.{length-append}
use Rattle.std.proofs.lemmas.List.Elements.{Contains-append_cases, Contains-append_left, Contains-append_right}
use Rattle.std.specs.List.{AllByRecursion, Contains}
use Rattle.std.specs.Map.{lookup}
use Rattle.gc_catalog.specs.NamedGraphs.{NamedGraphs, AllCoherent, AreBelow, IsCatalog, first_graphs}
use Rattle.gc_rows.proofs.Members.{cons_cases, contains_here, contains_later, each_member, from_map, of_member, to_map}
use Rattle.gc_sets.specs.Origins.{AreStanding, ComesFrom}
use Rattle.gc_sets.proofs.Itself.{coherent_with_itself}
use Rattle.gc_sets.proofs.OriginLaws.{stands_behind}
use Rattle.gc_sets.proofs.ShapesOf.{Of, edge_key, node_key, of_edge, of_node, of_path, of_shape, path_key}
use Rattle.gc_spec.specs.Coherence.{AreCoherent, AreSame, ElementShape, NodeShape, EdgeShape, PathShape, shape_at, shapes_of}
use Rattle.gc_spec.specs.PropertyGraph.{PropertyGraph, Node, Edge, Path, edge_ids, ids_of, node_ids, path_ids}
use Rattle.gc_query.specs.Answered.{IsLonger}
use Rattle.gc_query.specs.Steps.{with_named}

-- an identity that is among those of a graph stands for something there
shape_there : (shapes : List (ℕ × ElementShape)) (id : ℕ) → Contains (map (λ e. e.0) shapes) id → (s : ElementShape) × (lookup (λ other. other == id) shapes ≡ Some s)
shape_there [] id m = absurd (omega (arith, m.1))
shape_there (e ∷ shapes) id m =
    elim (e.0 == id) as (λ t. (e.0 == id) ≡ t → (s : ElementShape) × (cond t (Some e.1) (lookup (λ other. other == id) shapes) ≡ Some s)) [
      | true ↦ λ h. (e.1, refl)
      | false ↦ λ h. ⊎_elim (λ same. absurd (cc (h, eq-eqb e.0 id same))) (λ behind. shape_there shapes id behind) (cons_cases e.0 (map (λ e. e.0) shapes) id m)
    ] refl

-- what stands in a catalog agrees, and is below the next identity
found_among : {X : Type 0} (key : X → ℕ) (xs : List X) (q : ℕ) (x : X) → find (λ y. key y == q) xs ≡ Some x → Contains (map key xs) q
found_among key [] q x h = absurd (cc h)
found_among key (y ∷ xs) q x h =
    elim (key y == q) as (λ t. (key y == q) ≡ t → cond t (Some y) (find (λ z. key z == q) xs) ≡ Some x → Contains (key y ∷ map key xs) q) [
      | true ↦ λ e k. subst (Contains (key y ∷ map key xs)) (eqb-true (key y) q e) (contains_here (key y) (map key xs))
      | false ↦ λ e k. contains_later (key y) (map key xs) q (found_among key xs q x k)
    ] refl h

id_there : (g : PropertyGraph) (id : ℕ) (s : ElementShape) → Of g id s → Contains (ids_of g) id
id_there g id s (of_node f) =
    Contains-append_left (node_ids g.nodes ++ edge_ids g.edges) (path_ids g.paths) id
    (Contains-append_left (node_ids g.nodes) (edge_ids g.edges) id (found_among node_key g.nodes id f.element f.found))
id_there g id s (of_edge f) =
    Contains-append_left (node_ids g.nodes ++ edge_ids g.edges) (path_ids g.paths) id
    (Contains-append_right (node_ids g.nodes) (edge_ids g.edges) id (found_among edge_key g.edges id f.element f.found))
id_there g id s (of_path f) = Contains-append_right (node_ids g.nodes ++ edge_ids g.edges) (path_ids g.paths) id (found_among path_key g.paths id f.element f.found)

turned : (o p : Option ElementShape) → AreSame o p → AreSame p o
turned None None h = tt
turned None (Some s) h = tt
turned (Some s) None h = tt
turned (Some s) (Some t) h = sym h

all_agree : (graphs : List PropertyGraph) → AllCoherent graphs → (g h : PropertyGraph) → Contains graphs g → Contains graphs h → AreCoherent g h
all_agree [] all g h m n = absurd (omega (arith, m.1))
all_agree (k ∷ graphs) all g h m n =
    ⊎_elim
    (λ a. ⊎_elim
    (λ b. subst (λ x. AreCoherent x h) a (subst (AreCoherent k) b (coherent_with_itself k)))
    (λ b. subst (λ x. AreCoherent x h) a (of_member (AreCoherent k) graphs h all.0 b))
    (cons_cases k graphs h n))
    (λ a. ⊎_elim
    (λ b. subst (AreCoherent g) b (λ id. turned (shape_at k id) (shape_at g id) (of_member (AreCoherent k) graphs g all.0 a id)))
    (λ b. all_agree graphs all.1 g h a b)
    (cons_cases k graphs h n))
    (cons_cases k graphs g m)

pub stands : (c : NamedGraphs) → IsCatalog c → AreStanding c.graphs c.next
stands c is = record {
  coherent = all_agree c.graphs is.coherent;
  below = λ g m id s t. of_member (λ k. k < c.next) (ids_of g) id (of_member (AreBelow c.next) c.graphs g is.below m) (id_there g id s (of_shape g id s t));
}

-- what stands where an identity is the next one stands where a later one is
pub stands_later : (graphs : List PropertyGraph) (next after : ℕ) → next ≤ after → AreStanding graphs next → AreStanding graphs after
stands_later graphs next after up h = record {
  coherent = h.coherent;
  below = λ g m id s t. let low = h.below g m id s t in omega (arith, low, up);
}

-- each identity of a graph has a shape
entry_there : (g : PropertyGraph) (id : ℕ) → Contains (ids_of g) id → Contains (map (λ (e : ℕ × ElementShape). e.0) (shapes_of g)) id
entry_there g id m =
    let ns = map (λ (n : Node). (n.id, NodeShape)) g.nodes in
    let es = map (λ (e : Edge). (e.id, EdgeShape e.from e.to)) g.edges in
    let ps = map (λ (p : Path). (p.id, PathShape p.walk)) g.paths in
    let first : (e : ℕ × ElementShape) → Contains (shapes_of g) e → Contains (map (λ (e : ℕ × ElementShape). e.0) (shapes_of g)) e.0 = to_map (λ (e : ℕ × ElementShape). e.0) (shapes_of g) in
    let all : ℕ → Type 0 = Contains (map (λ (e : ℕ × ElementShape). e.0) (shapes_of g)) in
    ⊎_elim
    (λ k. ⊎_elim
    (λ n.
    let from = from_map (λ (n : Node). n.id) g.nodes id n in
    subst all (sym from.2) (first (from.0.id, NodeShape) (Contains-append_left (ns ++ es) ps (from.0.id, NodeShape) (Contains-append_left ns es (from.0.id, NodeShape) (to_map (λ (n : Node). (n.id, NodeShape)) g.nodes from.0 from.1)))))
    (λ n.
    let from = from_map (λ (e : Edge). e.id) g.edges id n in
    let entry : ℕ × ElementShape = (from.0.id, EdgeShape from.0.from from.0.to) in
    subst all (sym from.2) (first entry (Contains-append_left (ns ++ es) ps entry (Contains-append_right ns es entry (to_map (λ (e : Edge). (e.id, EdgeShape e.from e.to)) g.edges from.0 from.1)))))
    (Contains-append_cases (node_ids g.nodes) (edge_ids g.edges) id k))
    (λ n.
    let from = from_map (λ (p : Path). p.id) g.paths id n in
    let entry : ℕ × ElementShape = (from.0.id, PathShape from.0.walk) in
    subst all (sym from.2) (first entry (Contains-append_right (ns ++ es) ps entry (to_map (λ (p : Path). (p.id, PathShape p.walk)) g.paths from.0 from.1))))
    (Contains-append_cases (node_ids g.nodes ++ edge_ids g.edges) (path_ids g.paths) id m)

module _ (c : NamedGraphs) (is : IsCatalog c) (after : ℕ) (up : c.next ≤ after) (g : PropertyGraph) (comes : ComesFrom c.graphs c.next after g) where
  stand : AreStanding (c.graphs ++ g ∷ []) after
  stand = stands_behind c.graphs c.next (stands c is) after up g comes

  last : Contains (c.graphs ++ g ∷ []) g
  last = Contains-append_right c.graphs (g ∷ []) g (contains_here g [])

  -- a graph that comes from those of a catalog is coherent with them, and its identities are below its next one
  pub coherent : AllByRecursion (λ h. AreCoherent h g) c.graphs
  coherent = each_member (λ h. AreCoherent h g) c.graphs (λ h m. stand.coherent h g (Contains-append_left c.graphs (g ∷ []) h m) last)

  pub below : AreBelow after g
  below =
      each_member (λ k. k < after) (ids_of g)
      (λ id m. let shape = shape_there (shapes_of g) id (entry_there g id m) in stand.below g last id shape.0 shape.1)

take_all : {X : Type 0} (xs ys : List X) → take (length xs) (xs ++ ys) ≡ xs
take_all [] ys = refl
take_all (x ∷ xs) ys = ap (λ zs. x ∷ zs) (take_all xs ys)

take_same : {X : Type 0} (xs : List X) → take (length xs) xs ≡ xs
take_same [] = refl
take_same (x ∷ xs) = ap (λ zs. x ∷ zs) (take_same xs)

take_fewer : {X : Type 0} (m n : ℕ) (xs : List X) → m ≤ n → take m (take n xs) ≡ take m xs
take_fewer zero n xs h = refl
take_fewer (suc m) zero xs h = absurd (omega (arith, h))
take_fewer (suc m) (suc n) [] h = refl
take_fewer (suc m) (suc n) (x ∷ xs) h = ap (λ zs. x ∷ zs) (take_fewer m n xs (omega (arith, h)))

-- a catalog is as long as itself; a later next identity, and a graph behind the others, make it longer
pub as_long : (c : NamedGraphs) → IsLonger c c
as_long c = record { names = take_same c.names; graphs = take_same c.graphs; named = omega arith; count = omega arith; later = omega arith }

pub longer_by : (before after : NamedGraphs) (next : ℕ) → before.next ≤ next → after ≡ record before { next = next } → IsLonger before after
longer_by before after next h same =
    subst (IsLonger before) (sym same) (record { names = take_same before.names; graphs = take_same before.graphs; named = omega arith; count = omega arith; later = h })

pub longer_with : (before after : NamedGraphs) (next : ℕ) (word : Option (List ℕ)) (g : PropertyGraph) → before.next ≤ next → after ≡ with_named (record before { next = next }) word g → IsLonger before after
longer_with before after next word g h same = subst (IsLonger before) (sym same) (by word)
  where
    more : (name : Option (List ℕ)) → IsLonger before (record { names = before.names ++ name ∷ []; graphs = before.graphs ++ g ∷ []; next = next })
    more name =
        record {
          names = take_all before.names (name ∷ []);
          graphs = take_all before.graphs (g ∷ []);
          named = omega (arith, length-append before.names (name ∷ []));
          count = omega (arith, length-append before.graphs (g ∷ []));
          later = h;
        }

    by : (name : Option (List ℕ)) → IsLonger before (with_named (record before { next = next }) name g)
    by None = more None
    by (Some w) = more (Some w)

-- the graphs and the names of a catalog with a graph more, which has a name or none
pub graphs_with : (c : NamedGraphs) (word : Option (List ℕ)) (g : PropertyGraph) → (with_named c word g).graphs ≡ c.graphs ++ g ∷ []
graphs_with c None g = refl
graphs_with c (Some w) g = refl

pub names_with : (c : NamedGraphs) (word : Option (List ℕ)) (g : PropertyGraph) → (with_named c word g).names ≡ c.names ++ word ∷ []
names_with c None g = refl
names_with c (Some w) g = refl

pub next_with : (c : NamedGraphs) (word : Option (List ℕ)) (g : PropertyGraph) → (with_named c word g).next ≡ c.next
next_with c None g = refl
next_with c (Some w) g = refl

pub longer_yet : (a b c : NamedGraphs) → IsLonger a b → IsLonger b c → IsLonger a c
longer_yet a b c h k =
    record {
      names = sym (take_fewer (length a.names) (length b.names) c.names h.named) ∙ (ap (take (length a.names)) k.names ∙ h.names);
      graphs = sym (take_fewer (length a.graphs) (length b.graphs) c.graphs h.count) ∙ (ap (take (length a.graphs)) k.graphs ∙ h.graphs);
      named = omega (arith, h.named, k.named);
      count = omega (arith, h.count, k.count);
      later = omega (arith, h.later, k.later);
    }

-- the first graphs of a longer catalog are the catalog, with the next identity that it had
module _ (before after : NamedGraphs) (count next : ℕ) (many : count ≡ length before.graphs) (free : next ≡ before.next) (h : IsLonger before after) where
  pub there_again : count ≤ length after.graphs
  there_again = subst (λ n. n ≤ length after.graphs) (sym many) h.count

  pub below_again : AllByRecursion (AreBelow before.next) before.graphs → AllByRecursion (AreBelow next) (take count after.graphs)
  below_again below =
      subst (λ n. AllByRecursion (AreBelow n) (take count after.graphs)) (sym free)
      (subst (λ graphs. AllByRecursion (AreBelow before.next) graphs) (sym (ap (λ n. take n after.graphs) many ∙ h.graphs)) below)

  pub first_again : length before.names ≡ length before.graphs → first_graphs after count next ≡ before
  first_again alike =
      let names : take count after.names ≡ before.names = ap (λ n. take n after.names) (many ∙ sym alike) ∙ h.names in
      let graphs : take count after.graphs ≡ before.graphs = ap (λ n. take n after.graphs) many ∙ h.graphs in
      λ i. record { names = names i; graphs = graphs i; next = free i }
