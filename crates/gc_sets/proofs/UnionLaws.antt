-- What is built for a union is the union.
use Rattle.std.proofs.Common.{◌≡◌, ℕ, Bool, true, false, cond, not, List, [], ◌∷◌, ◌++◌, map, fold, Option, Some, None, is_some, refl, sym, ap, ◌∙◌, subst}
use Rattle.std.specs.List.{AllByRecursion, filter}
use Rattle.std.specs.Ordering.{nat_cmp, on}
use Rattle.std.proofs.lemmas.Bool.{and_parts}
use Rattle.std.proofs.lemmas.List.{map-append}
use Rattle.gc_base.specs.Ascending.{Ascends, with_item}
use Rattle.gc_base.specs.declared.walk.Walk.{Walk}
use Rattle.gc_base.proofs.Search.{AllByRecursion-weaker}
use Rattle.gc_base.proofs.SetLaws.{AllByRecursion-filter, AllByRecursion-append, filter-passes}
use Rattle.gc_spec.specs.Coherence.{AreCoherent}
use Rattle.gc_spec.specs.PropertyGraph.{PropertyGraph, Node, Edge, Path, IsGraph, IsEdge, IsPath, node_at, edge_at, path_at, node_ids, is_among, is_walk, are_steps_from, node_order, edge_order, path_order}
use Rattle.gc_ppg.specs.Built.{has_ends}
use Rattle.gc_sets.specs.Additions.{AreNew, ArePartsOf, assembled}
use Rattle.gc_sets.specs.Descriptions.{united_node}
use Rattle.gc_sets.specs.Elements.{others, stands}
use Rattle.gc_sets.specs.Unions.{IsUnion, beside, either, together, united, united_edge, united_path}
use Rattle.gc_sets.proofs.Assembling.{onto_map, parts_by_shape}
use Rattle.gc_sets.proofs.Coherent.{both_true, either_shape, first_shaped, joins, same_ends, second_shaped, steps_along}
use Rattle.gc_sets.proofs.DifferenceLaws.{none_taken, others-ascend}
use Rattle.gc_sets.proofs.Finds.{found}
use Rattle.gc_sets.proofs.Shapes.{new_ascending}
use Rattle.gc_sets.proofs.Together.{AreNew-append, Ascends-fold, found_folded, found_together, keys-united}
use Rattle.gc_sets.proofs.Turns.{found-is_among}

not_true : (b : Bool) → not b ≡ true → b ≡ false
not_true true h = absurd (cc h)
not_true false h = refl

pub filter_all : {X : Type 0} (p : X → Bool) (xs : List X) → AllByRecursion (λ x. p x ≡ true) xs → filter p xs ≡ xs
filter_all p [] h = refl
filter_all p (x ∷ xs) h = ap (λ b. cond b (x ∷ filter p xs) (filter p xs)) h.0 ∙ ap (λ ys. x ∷ ys) (filter_all p xs h.1)

module _ {X : Type 0} (key : X → ℕ) (unite : X → X → X) where
  all_united : (P : X → Type 0) → ((x y : X) → P x → P (unite x y)) → (xs ys : List X) → AllByRecursion P xs → AllByRecursion P (united unite key xs ys)
  all_united P more [] ys h = tt
  all_united P more (x ∷ xs) ys h = (one x (found key ys (key x)) h.0, all_united P more xs ys h.1)
    where
      one : (x : X) (o : Option X) → P x → P (beside unite x o)
      one x None k = k
      one x (Some y) k = more x y k

  -- what is so of the elements of each list is so of them together
  pub all_together : (P : X → Type 0) → ((x y : X) → P x → P (unite x y)) → (xs ys : List X) → AllByRecursion P xs → AllByRecursion P ys → AllByRecursion P (together unite key xs ys)
  all_together P more xs ys h k = AllByRecursion-append P (united unite key xs ys) (others key ys xs) (all_united P more xs ys h) (AllByRecursion-filter P _ ys k)

  -- the elements of either list have identities of their own
  pub new_together : ((x y : X) → key (unite x y) ≡ key x) → (xs ys : List X) → Ascends (on key nat_cmp) xs → Ascends (on key nat_cmp) ys → AreNew [] (map key (together unite key xs ys))
  new_together same_key xs ys up_xs up_ys =
      let apart : AllByRecursion (λ y. is_among (map key xs) (key y) ≡ false) (others key ys xs) =
      AllByRecursion-weaker _ _ (λ y h. not_true (is_among (map key xs) (key y)) h) _ (filter-passes (λ y. not (is_among (map key xs) (key y))) ys) in
      let keys : map key (together unite key xs ys) ≡ map key xs ++ map key (others key ys xs) =
      map-append key (united unite key xs ys) (others key ys xs) ∙ ap (λ ks. ks ++ map key (others key ys xs)) (keys-united key unite same_key xs ys) in
      subst (AreNew []) (sym keys)
      (AreNew-append [] (map key xs) (map key (others key ys xs)) (new_ascending key [] xs up_xs (none_taken xs)) (new_ascending key [] (others key ys xs) (others-ascend key ys xs up_ys) (none_taken _))
      (onto_map (λ q. is_among (map key xs) q ≡ false) key (others key ys xs) apart))

abbrev pub all_nodes : PropertyGraph → PropertyGraph → List Node
all_nodes a b = together united_node (λ n. n.id) a.nodes b.nodes

abbrev pub all_edges : PropertyGraph → PropertyGraph → List Edge
all_edges a b = together united_edge (λ e. e.id) a.edges b.edges

abbrev pub all_paths : PropertyGraph → PropertyGraph → List Path
all_paths a b = together united_path (λ p. p.id) a.paths b.paths

pub union_parts : (a b : PropertyGraph) → IsGraph a → IsGraph b → AreCoherent a b → ArePartsOf (all_nodes a b) (all_edges a b) (all_paths a b)
union_parts a b h k coherent =
    let one = first_shaped a b h in
    let two = second_shaped a b k coherent in
    parts_by_shape (either_shape a b) (all_nodes a b) (all_edges a b) (all_paths a b)
    (all_together (λ n. n.id) united_node _ (λ x y s. s) a.nodes b.nodes one.nodes two.nodes)
    (all_together (λ e. e.id) united_edge _ (λ x y s. s) a.edges b.edges one.edges two.edges)
    (all_together (λ p. p.id) united_path _ (λ x y s. s) a.paths b.paths one.paths two.paths)
    (new_together (λ n. n.id) united_node (λ x y. refl) a.nodes b.nodes h.nodes_ascend k.nodes_ascend)
    (new_together (λ e. e.id) united_edge (λ x y. refl) a.edges b.edges h.edges_ascend k.edges_ascend)
    (new_together (λ p. p.id) united_path (λ x y. refl) a.paths b.paths h.paths_ascend k.paths_ascend)

some_first : {X : Type 0} (unite : X → X → X) (o p : Option X) → is_some o ≡ true → is_some (either unite o p) ≡ true
some_first unite None p h = absurd (cc h)
some_first unite (Some x) None h = refl
some_first unite (Some x) (Some y) h = refl

some_second : {X : Type 0} (unite : X → X → X) (o p : Option X) → is_some p ≡ true → is_some (either unite o p) ≡ true
some_second unite None p h = h
some_second unite (Some x) None h = refl
some_second unite (Some x) (Some y) h = refl

joins_first : (x y : ℕ) (o p : Option Edge) → joins x y o ≡ true → joins x y (either united_edge o p) ≡ true
joins_first x y None p h = absurd (cc h)
joins_first x y (Some e) None h = h
joins_first x y (Some e) (Some d) h = h

ends_alike : (x y : ℕ) (e d : Edge) → (e.from ≡ d.from) × (e.to ≡ d.to) → has_ends x y e ≡ has_ends x y d
ends_alike x y e d same = rw (same.0, same.1) refl

joins_second : (x y : ℕ) (o p : Option Edge) → ((e d : Edge) → o ≡ Some e → p ≡ Some d → (e.from ≡ d.from) × (e.to ≡ d.to)) → joins x y p ≡ true → joins x y (either united_edge o p) ≡ true
joins_second x y None p same h = h
joins_second x y (Some e) None same h = absurd (cc h)
joins_second x y (Some e) (Some d) same h = ends_alike x y e d (same e d refl refl) ∙ h

module _ (a b : PropertyGraph) (h : IsGraph a) (k : IsGraph b) (coherent : AreCoherent a b) where
  abbrev ns : List Node
  ns = fold (with_item node_order) [] (all_nodes a b)

  abbrev es : List Edge
  es = fold (with_item edge_order) [] (all_edges a b)

  abbrev ps : List Path
  ps = fold (with_item path_order) [] (all_paths a b)

  up_es : Ascends edge_order es
  up_es = Ascends-fold (λ e. e.id) [] (all_edges a b) tt

  node_found : (q : ℕ) → node_at ns q ≡ either united_node (node_at a.nodes q) (node_at b.nodes q)
  node_found q =
      found_folded (λ n. n.id) (all_nodes a b) q (new_together (λ n. n.id) united_node (λ x y. refl) a.nodes b.nodes h.nodes_ascend k.nodes_ascend)
      ∙ found_together (λ n. n.id) united_node (λ x y. refl) a.nodes b.nodes q

  edge_found : (q : ℕ) → edge_at es q ≡ either united_edge (edge_at a.edges q) (edge_at b.edges q)
  edge_found q =
      found_folded (λ e. e.id) (all_edges a b) q (new_together (λ e. e.id) united_edge (λ x y. refl) a.edges b.edges h.edges_ascend k.edges_ascend)
      ∙ found_together (λ e. e.id) united_edge (λ x y. refl) a.edges b.edges q

  path_found : (q : ℕ) → path_at ps q ≡ either united_path (path_at a.paths q) (path_at b.paths q)
  path_found q =
      found_folded (λ p. p.id) (all_paths a b) q (new_together (λ p. p.id) united_path (λ x y. refl) a.paths b.paths h.paths_ascend k.paths_ascend)
      ∙ found_together (λ p. p.id) united_path (λ x y. refl) a.paths b.paths q

  node_first : (q : ℕ) → is_among (node_ids a.nodes) q ≡ true → is_among (node_ids ns) q ≡ true
  node_first q t =
      sym (found-is_among (λ n. n.id) ns q)
      ∙ (ap is_some (node_found q) ∙ some_first united_node (node_at a.nodes q) (node_at b.nodes q) (found-is_among (λ n. n.id) a.nodes q ∙ t))

  node_second : (q : ℕ) → is_among (node_ids b.nodes) q ≡ true → is_among (node_ids ns) q ≡ true
  node_second q t =
      sym (found-is_among (λ n. n.id) ns q)
      ∙ (ap is_some (node_found q) ∙ some_second united_node (node_at a.nodes q) (node_at b.nodes q) (found-is_among (λ n. n.id) b.nodes q ∙ t))

  all_stand : AllByRecursion (λ e. stands ns e ≡ true) (all_edges a b)
  all_stand =
      all_together (λ e. e.id) united_edge (λ e. stands ns e ≡ true) (λ x y s. s) a.edges b.edges
      (AllByRecursion-weaker _ _ (λ (e : Edge) (i : IsEdge a.nodes e). both_true (is_among (node_ids ns) e.from) (is_among (node_ids ns) e.to) (node_first e.from i.source) (node_first e.to i.target)) a.edges h.edges)
      (AllByRecursion-weaker _ _ (λ (e : Edge) (i : IsEdge b.nodes e). both_true (is_among (node_ids ns) e.from) (is_among (node_ids ns) e.to) (node_second e.from i.source) (node_second e.to i.target)) b.edges k.edges)

  steps_first : (id x y : ℕ) → joins x y (edge_at a.edges id) ≡ true → joins x y (edge_at es id) ≡ true
  steps_first id x y t = ap (joins x y) (edge_found id) ∙ joins_first x y (edge_at a.edges id) (edge_at b.edges id) t

  steps_second : (id x y : ℕ) → joins x y (edge_at b.edges id) ≡ true → joins x y (edge_at es id) ≡ true
  steps_second id x y t =
      ap (joins x y) (edge_found id)
      ∙ joins_second x y (edge_at a.edges id) (edge_at b.edges id)
      (λ e d. same_ends (either_shape a b) a.edges b.edges (first_shaped a b h).edges (second_shaped a b k coherent).edges id e d) t

  walk_first : (walk : Walk) → is_walk a.nodes a.edges walk ≡ true → is_walk ns es walk ≡ true
  walk_first walk t =
      let parts = and_parts (is_among (node_ids a.nodes) walk.start) (are_steps_from a.edges walk.start walk.steps) t in
      both_true (is_among (node_ids ns) walk.start) (are_steps_from es walk.start walk.steps) (node_first walk.start parts.0)
      (steps_along a.edges es h.edges_ascend up_es steps_first walk.start walk.steps parts.1)

  walk_second : (walk : Walk) → is_walk b.nodes b.edges walk ≡ true → is_walk ns es walk ≡ true
  walk_second walk t =
      let parts = and_parts (is_among (node_ids b.nodes) walk.start) (are_steps_from b.edges walk.start walk.steps) t in
      both_true (is_among (node_ids ns) walk.start) (are_steps_from es walk.start walk.steps) (node_second walk.start parts.0)
      (steps_along b.edges es k.edges_ascend up_es steps_second walk.start walk.steps parts.1)

  all_walk : AllByRecursion (λ p. is_walk ns es p.walk ≡ true) (all_paths a b)
  all_walk =
      all_together (λ p. p.id) united_path (λ p. is_walk ns es p.walk ≡ true) (λ x y s. s) a.paths b.paths
      (AllByRecursion-weaker _ _ (λ (p : Path) (i : IsPath a.nodes a.edges p). walk_first p.walk i.walk) a.paths h.paths)
      (AllByRecursion-weaker _ _ (λ (p : Path) (i : IsPath b.nodes b.edges p). walk_second p.walk i.walk) b.paths k.paths)

  abbrev whole : PropertyGraph
  whole = record { nodes = ns; edges = es; paths = ps }

  union_assembled : assembled (all_nodes a b) (all_edges a b) (all_paths a b) ≡ whole
  union_assembled =
      let paths_of : List Edge → List Path = λ ds. fold (with_item path_order) [] (filter (λ p. is_walk ns ds p.walk) (all_paths a b)) in
      let graph_of : List Edge → PropertyGraph = λ ds. record { nodes = ns; edges = fold (with_item edge_order) [] ds; paths = paths_of (fold (with_item edge_order) [] ds) } in
      ap graph_of (filter_all (stands ns) (all_edges a b) all_stand)
      ∙ ap (λ qs. record { nodes = ns; edges = es; paths = fold (with_item path_order) [] qs }) (filter_all (λ (p : Path). is_walk ns es p.walk) (all_paths a b) all_walk)

  -- what is built has at each identity what either graph says of it
  pub union_made : (g : PropertyGraph) → g ≡ assembled (all_nodes a b) (all_edges a b) (all_paths a b) → IsGraph g → IsUnion a b g
  union_made g made valid =
      let is : g ≡ whole = made ∙ union_assembled in record {
        graph = valid;
        nodes = λ q. ap (λ u. node_at u.nodes q) is ∙ node_found q;
        edges = λ q. ap (λ u. edge_at u.edges q) is ∙ edge_found q;
        paths = λ q. ap (λ u. path_at u.paths q) is ∙ path_found q;
      }
