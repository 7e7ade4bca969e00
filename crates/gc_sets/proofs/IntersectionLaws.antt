-- What is built for an intersection is the intersection.
use Rattle.std.proofs.Common.{◌≡◌, ℕ, true, false, cond, ◌==◌, List, [], ◌∷◌, ◌++◌, map, Option, Some, None, is_some, refl, sym, ap, ◌∙◌, subst, append-nil}
use Rattle.std.specs.List.{AllByRecursion, filter}
use Rattle.std.specs.Ordering.{nat_cmp, on}
use Rattle.std.specs.declared.cmp.Ordering.TheVariants.{Less}
use Rattle.std.proofs.lemmas.Bool.{and_parts, eqb-true}
use Rattle.gc_base.specs.Ascending.{Ascends}
use Rattle.gc_base.specs.declared.walk.Step.{Step}
use Rattle.gc_base.specs.declared.walk.Walk.{Walk}
use Rattle.gc_spec.specs.Coherence.{ElementShape, EdgeShape, PathShape, AreCoherent}
use Rattle.gc_spec.specs.PropertyGraph.{PropertyGraph, Node, Edge, Path, IsGraph, IsEdge, IsPath, node_at, edge_at, path_at, node_ids, is_among, is_joined, is_walk, are_steps_from, edge_order}
use Rattle.gc_sets.specs.Additions.{AreNew, ArePartsOf, assembled}
use Rattle.gc_sets.specs.Elements.{stands}
use Rattle.gc_sets.specs.Intersections.{IsIntersection, both, common_edge, common_node, common_path, in_common, shared_with}
use Rattle.gc_sets.proofs.Assembling.{assembled-ascending, parts_by_shape}
use Rattle.gc_sets.proofs.Coherent.{both_true, edge_same, either_shape, first_shaped, joins, second_shaped}
use Rattle.gc_sets.proofs.DifferenceLaws.{none_taken}
use Rattle.gc_sets.proofs.Finds.{found, found_has, found_key, injective}
use Rattle.gc_sets.proofs.Shapes.{new_ascending}
use Rattle.gc_sets.proofs.Turns.{IsByElement, found-is_among}
use Rattle.gc_sets.proofs.UnionLaws.{filter_all}
use Rattle.gc_sets.proofs.Walks.{joined_found}

-- two facts of each item
pub all_both : {X : Type 0} (P Q : X → Type 0) (xs : List X) → AllByRecursion P xs → AllByRecursion Q xs → AllByRecursion (λ x. P x × Q x) xs
all_both P Q [] h k = tt
all_both P Q (x ∷ xs) h k = ((h.0, k.0), all_both P Q xs h.1 k.1)

module _ {X : Type 0} (key : X → ℕ) (common : X → X → X) where
  pub in_common-by_element : (ys : List X) → IsByElement (λ xs. in_common common key xs ys)
  in_common-by_element ys x xs = ap (λ l. l ++ in_common common key xs ys) (sym (append-nil (shared_with common x (found key ys (key x)))))

  -- what follows for what is common from what is so of the elements
  pub all_common : (P R : X → Type 0) (ys : List X) → ((x y : X) → P x → found key ys (key x) ≡ Some y → R (common x y)) → (xs : List X) → AllByRecursion P xs → AllByRecursion R (in_common common key xs ys)
  all_common P R ys more [] h = tt
  all_common P R ys more (x ∷ xs) h =
      let rest = all_common P R ys more xs h.1 in
      elim (found key ys (key x)) as (λ o. found key ys (key x) ≡ o → AllByRecursion R (shared_with common x o ++ in_common common key xs ys)) [
        | None ↦ λ e. rest
        | Some y ↦ λ e. (more x y h.0 e, rest)
      ] refl

  module _ (same_key : (x y : X) → key (common x y) ≡ key x) where
    pub common_ascends : (xs ys : List X) → Ascends (on key nat_cmp) xs → Ascends (on key nat_cmp) (in_common common key xs ys)
    common_ascends [] ys up = tt
    common_ascends (x ∷ xs) ys up =
        let rest = common_ascends xs ys up.1 in
        elim (found key ys (key x)) as (λ o. Ascends (on key nat_cmp) (shared_with common x o ++ in_common common key xs ys)) [
          | None ↦ rest
          | Some y ↦ (
            all_common (λ z. on key nat_cmp x z ≡ Less) (λ z. on key nat_cmp (common x y) z ≡ Less) ys (λ w z h e. (λ i. nat_cmp (same_key x y i) (same_key w z i)) ∙ h) xs up.0,
            rest,
          )
        ]

    none_common : (o : Option X) → both common o None ≡ None
    none_common None = refl
    none_common (Some x) = refl

    pub found_common : (xs ys : List X) (q : ℕ) → found key (in_common common key xs ys) q ≡ both common (found key xs q) (found key ys q)
    found_common [] ys q = refl
    found_common (x ∷ xs) ys q =
        let rest = in_common common key xs ys in
        elim (key x == q) as (λ b. (key x == q) ≡ b → found key (in_common common key (x ∷ xs) ys) q ≡ both common (cond b (Some x) (found key xs q)) (found key ys q)) [
          | true ↦ λ t.
              ap (λ k. found key (shared_with common x (found key ys k) ++ rest) q) (eqb-true (key x) q t)
              ∙ (elim (found key ys q) as (λ o. found key ys q ≡ o → found key (shared_with common x o ++ rest) q ≡ both common (Some x) o) [
                | None ↦ λ e. found_common xs ys q ∙ (ap (both common (found key xs q)) e ∙ none_common (found key xs q))
                | Some y ↦ λ e. ap (λ b. cond b (Some (common x y)) (found key rest q)) (ap (λ k. k == q) (same_key x y) ∙ t)
              ] refl)
          | false ↦ λ t.
              elim (found key ys (key x)) as (λ o. found key (shared_with common x o ++ rest) q ≡ both common (found key xs q) (found key ys q)) [
                | None ↦ found_common xs ys q
                | Some y ↦ ap (λ b. cond b (Some (common x y)) (found key rest q)) (ap (λ k. k == q) (same_key x y) ∙ t) ∙ found_common xs ys q
              ]
        ] refl

    pub new_common : (xs ys : List X) → Ascends (on key nat_cmp) xs → AreNew [] (map key (in_common common key xs ys))
    new_common xs ys up = new_ascending key [] (in_common common key xs ys) (common_ascends xs ys up) (none_taken _)

abbrev pub nodes_of_both : PropertyGraph → PropertyGraph → List Node
nodes_of_both a b = in_common common_node (λ n. n.id) a.nodes b.nodes

abbrev pub edges_of_both : PropertyGraph → PropertyGraph → List Edge
edges_of_both a b = in_common common_edge (λ e. e.id) a.edges b.edges

abbrev pub paths_of_both : PropertyGraph → PropertyGraph → List Path
paths_of_both a b = in_common common_path (λ p. p.id) a.paths b.paths

pub intersection_parts : (a b : PropertyGraph) → IsGraph a → ArePartsOf (nodes_of_both a b) (edges_of_both a b) (paths_of_both a b)
intersection_parts a b h =
    let one = first_shaped a b h in
    parts_by_shape (either_shape a b) (nodes_of_both a b) (edges_of_both a b) (paths_of_both a b)
    (all_common (λ n. n.id) common_node _ _ b.nodes (λ x y s e. s) a.nodes one.nodes)
    (all_common (λ e. e.id) common_edge _ _ b.edges (λ x y s e. s) a.edges one.edges)
    (all_common (λ p. p.id) common_path _ _ b.paths (λ x y s e. s) a.paths one.paths)
    (new_common (λ n. n.id) common_node (λ x y. refl) a.nodes b.nodes h.nodes_ascend)
    (new_common (λ e. e.id) common_edge (λ x y. refl) a.edges b.edges h.edges_ascend)
    (new_common (λ p. p.id) common_path (λ x y. refl) a.paths b.paths h.paths_ascend)

some_both : {X : Type 0} (common : X → X → X) (o p : Option X) → is_some o ≡ true → is_some p ≡ true → is_some (both common o p) ≡ true
some_both common None p h k = absurd (cc h)
some_both common (Some x) None h k = absurd (cc k)
some_both common (Some x) (Some y) h k = refl

joins_both : (x y : ℕ) (o p : Option Edge) → joins x y o ≡ true → joins x y p ≡ true → joins x y (both common_edge o p) ≡ true
joins_both x y None p h k = absurd (cc h)
joins_both x y (Some e) None h k = absurd (cc k)
joins_both x y (Some e) (Some d) h k = h

path_same : (v w : Walk) → PathShape v ≡ PathShape w → v ≡ w
path_same v w h = cc h

module _ (a b : PropertyGraph) (h : IsGraph a) (k : IsGraph b) (coherent : AreCoherent a b) where
  abbrev ns : List Node
  ns = nodes_of_both a b

  abbrev es : List Edge
  es = edges_of_both a b

  abbrev ps : List Path
  ps = paths_of_both a b

  abbrev shape : ℕ → Option ElementShape
  shape = either_shape a b

  node_both : (q : ℕ) → is_among (node_ids a.nodes) q ≡ true → is_among (node_ids b.nodes) q ≡ true → is_among (node_ids ns) q ≡ true
  node_both q t u =
      sym (found-is_among (λ n. n.id) ns q)
      ∙ (ap is_some (found_common (λ n. n.id) common_node (λ x y. refl) a.nodes b.nodes q)
      ∙ some_both common_node (node_at a.nodes q) (node_at b.nodes q) (found-is_among (λ n. n.id) a.nodes q ∙ t) (found-is_among (λ n. n.id) b.nodes q ∙ u))

  edge_stands : (x y : Edge) → IsEdge a.nodes x × (shape x.id ≡ Some (EdgeShape x.from x.to)) → edge_at b.edges x.id ≡ Some y → stands ns (common_edge x y) ≡ true
  edge_stands x y i at_y =
      let P : Edge → Type 0 = λ e. shape e.id ≡ Some (EdgeShape e.from e.to) in
      let other : IsEdge b.nodes y = found_has (λ e. e.id) (IsEdge b.nodes) b.edges x.id y k.edges at_y in
      let as_y = found_has (λ e. e.id) P b.edges x.id y (second_shaped a b k coherent).edges at_y in
      let one : y.id ≡ x.id = found_key (λ e. e.id) b.edges x.id y at_y in
      let ends = edge_same y.from y.to x.from x.to (injective (EdgeShape y.from y.to) (EdgeShape x.from x.to) (sym as_y ∙ (ap shape one ∙ i.1))) in
      both_true (is_among (node_ids ns) x.from) (is_among (node_ids ns) x.to)
      (node_both x.from i.0.source (subst (λ q. is_among (node_ids b.nodes) q ≡ true) ends.0 other.source))
      (node_both x.to i.0.target (subst (λ q. is_among (node_ids b.nodes) q ≡ true) ends.1 other.target))

  all_stand : AllByRecursion (λ e. stands ns e ≡ true) es
  all_stand = all_common (λ e. e.id) common_edge _ (λ e. stands ns e ≡ true) b.edges edge_stands a.edges (all_both _ _ a.edges h.edges (first_shaped a b h).edges)

  up_es : Ascends edge_order es
  up_es = common_ascends (λ e. e.id) common_edge (λ x y. refl) a.edges b.edges h.edges_ascend

  steps_both : (node : ℕ) (steps : List Step) → are_steps_from a.edges node steps ≡ true → are_steps_from b.edges node steps ≡ true → are_steps_from es node steps ≡ true
  steps_both node [] t u = refl
  steps_both node (step ∷ steps) t u =
      let one = and_parts (is_joined a.edges step.edge node step.node) (are_steps_from a.edges step.node steps) t in
      let two = and_parts (is_joined b.edges step.edge node step.node) (are_steps_from b.edges step.node steps) u in
      let here : is_joined es step.edge node step.node ≡ true =
      joined_found es step.edge node step.node up_es
      ∙ (ap (joins node step.node) (found_common (λ e. e.id) common_edge (λ x y. refl) a.edges b.edges step.edge)
      ∙ joins_both node step.node (edge_at a.edges step.edge) (edge_at b.edges step.edge)
      (sym (joined_found a.edges step.edge node step.node h.edges_ascend) ∙ one.0)
      (sym (joined_found b.edges step.edge node step.node k.edges_ascend) ∙ two.0)) in
      both_true (is_joined es step.edge node step.node) (are_steps_from es step.node steps) here (steps_both step.node steps one.1 two.1)

  walk_both : (walk : Walk) → is_walk a.nodes a.edges walk ≡ true → is_walk b.nodes b.edges walk ≡ true → is_walk ns es walk ≡ true
  walk_both walk t u =
      let one = and_parts (is_among (node_ids a.nodes) walk.start) (are_steps_from a.edges walk.start walk.steps) t in
      let two = and_parts (is_among (node_ids b.nodes) walk.start) (are_steps_from b.edges walk.start walk.steps) u in
      both_true (is_among (node_ids ns) walk.start) (are_steps_from es walk.start walk.steps) (node_both walk.start one.0 two.0) (steps_both walk.start walk.steps one.1 two.1)

  path_walks : (x y : Path) → IsPath a.nodes a.edges x × (shape x.id ≡ Some (PathShape x.walk)) → path_at b.paths x.id ≡ Some y → is_walk ns es (common_path x y).walk ≡ true
  path_walks x y i at_y =
      let P : Path → Type 0 = λ p. shape p.id ≡ Some (PathShape p.walk) in
      let other : IsPath b.nodes b.edges y = found_has (λ p. p.id) (IsPath b.nodes b.edges) b.paths x.id y k.paths at_y in
      let as_y = found_has (λ p. p.id) P b.paths x.id y (second_shaped a b k coherent).paths at_y in
      let one : y.id ≡ x.id = found_key (λ p. p.id) b.paths x.id y at_y in
      let walks = path_same y.walk x.walk (injective (PathShape y.walk) (PathShape x.walk) (sym as_y ∙ (ap shape one ∙ i.1))) in
      walk_both x.walk i.0.walk (subst (λ w. is_walk b.nodes b.edges w ≡ true) walks other.walk)

  all_walk : AllByRecursion (λ p. is_walk ns es p.walk ≡ true) ps
  all_walk = all_common (λ p. p.id) common_path _ (λ p. is_walk ns es p.walk ≡ true) b.paths path_walks a.paths (all_both _ _ a.paths h.paths (first_shaped a b h).paths)

  abbrev whole : PropertyGraph
  whole = record { nodes = ns; edges = es; paths = ps }

  intersection_assembled : assembled ns es ps ≡ whole
  intersection_assembled =
      assembled-ascending ns es ps (common_ascends (λ n. n.id) common_node (λ x y. refl) a.nodes b.nodes h.nodes_ascend) up_es (common_ascends (λ p. p.id) common_path (λ x y. refl) a.paths b.paths h.paths_ascend)
      ∙ (ap (λ (ds : List Edge). record { nodes = ns; edges = ds; paths = filter (λ p. is_walk ns ds p.walk) ps }) (filter_all (stands ns) es all_stand)
      ∙ ap (λ qs. record { nodes = ns; edges = es; paths = qs }) (filter_all (λ (p : Path). is_walk ns es p.walk) ps all_walk))

  -- what is built has at each identity what both graphs say of it
  pub intersection_made : (g : PropertyGraph) → g ≡ assembled ns es ps → IsGraph g → IsIntersection a b g
  intersection_made g made valid =
      let is : g ≡ whole = made ∙ intersection_assembled in record {
        graph = valid;
        nodes = λ q. ap (λ u. node_at u.nodes q) is ∙ found_common (λ n. n.id) common_node (λ x y. refl) a.nodes b.nodes q;
        edges = λ q. ap (λ u. edge_at u.edges q) is ∙ found_common (λ e. e.id) common_edge (λ x y. refl) a.edges b.edges q;
        paths = λ q. ap (λ u. path_at u.paths q) is ∙ found_common (λ p. p.id) common_path (λ x y. refl) a.paths b.paths q;
      }
