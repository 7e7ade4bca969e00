-- One more element of an ascending list goes into a graph under construction.
use Rattle.std.proofs.Common.{◌≡◌, ℕ, Bool, true, false, cond, not, ◌==◌, List, [], ◌∷◌, ◌++◌, map, Some, None, refl, sym, ap, ◌∙◌, subst, append_assoc}
use Rattle.std.specs.Cmp.{unsigned_tied}
use Rattle.std.specs.List.{AllByRecursion, list_all}
use Rattle.std.specs.Ordering.{nat_cmp, on, is_eq}
use Rattle.std.specs.declared.cmp.Ordering.TheVariants.{Less}
use Rattle.std.proofs.lemmas.Bool.{and_parts}
use Rattle.gc_base.specs.Ascending.{Ascends, with_item}
use Rattle.gc_spec.specs.PropertyGraph.{PropertyGraph, Node, Edge, Path, ids_of, is_among, is_walk, node_ids, edge_ids, path_ids, node_order, edge_order, path_order}
use Rattle.gc_ppg.specs.Built.{with_node, with_edge, with_path, missing_end}
use Rattle.gc_sets.specs.Elements.{stands}
use Rattle.gc_sets.proofs.NewIds.{not_in_either, not_in_graph, or_not}
use Rattle.gc_sets.proofs.Sets.{before, with_item-last}
use Rattle.gc_sets.specs.Wholes.{edge_fits, path_fits}

pub not_true : (b : Bool) → not b ≡ true → b ≡ false
not_true true h = absurd (cc h)
not_true false h = refl

middle_passes : {X : Type 0} (p : X → Bool) (xs ys : List X) (x : X) → list_all p (xs ++ x ∷ ys) ≡ true → p x ≡ true
middle_passes p [] ys x h = (and_parts (p x) (list_all p ys) h).0
middle_passes p (z ∷ xs) ys x h = middle_passes p xs ys x (and_parts (p z) (list_all p (xs ++ x ∷ ys)) h).1

module _ {X : Type 0} (key : X → ℕ) where
  below_others : (xs : List X) (x : X) → AllByRecursion (λ y. on key nat_cmp y x ≡ Less) xs → is_among (map key xs) (key x) ≡ false
  below_others [] x h = refl
  below_others (y ∷ ys) x h = or_not (key y == key x) (is_among (map key ys) (key x)) (sym (unsigned_tied (key y) (key x)) ∙ ap is_eq h.0) (below_others ys x h.1)

  -- the next of an ascending list is none of those before it
  next_new : (done rest left all : List X) (x : X) → Ascends (on key nat_cmp) all → left ≡ x ∷ rest → done ++ left ≡ all → is_among (map key done) (key x) ≡ false
  next_new done rest left all x up next whole =
      below_others done x (before (on key nat_cmp) done x rest (subst (Ascends (on key nat_cmp)) (sym whole ∙ ap (λ xs. done ++ xs) next) up))

  -- and goes to their end
  next_last : (done rest left all : List X) (x : X) → Ascends (on key nat_cmp) all → left ≡ x ∷ rest → done ++ left ≡ all → with_item (on key nat_cmp) done x ≡ done ++ x ∷ []
  next_last done rest left all x up next whole = with_item-last (on key nat_cmp) done x rest (subst (Ascends (on key nat_cmp)) (sym whole ∙ ap (λ xs. done ++ xs) next) up)

one_less : {X : Type 0} (done rest left all : List X) (x : X) → left ≡ x ∷ rest → done ++ left ≡ all → (done ++ x ∷ []) ++ rest ≡ all
one_less done rest left all x next whole = append_assoc done (x ∷ []) rest ∙ (ap (λ xs. done ++ xs) (sym next) ∙ whole)

-- a graph that has the first of some nodes, the others being left
abbrev pub only_nodes : List Node → PropertyGraph
only_nodes ns = record { nodes = ns; edges = []; paths = [] }

abbrev pub NodesSoFar : PropertyGraph → List Node → List Node → Type 0
NodesSoFar g left all = (g ≡ only_nodes g.nodes) × (g.nodes ++ left ≡ all)

module _ (g : PropertyGraph) (n : Node) (left rest all : List Node) (up : Ascends node_order all) (next : left ≡ n ∷ rest) (so_far : NodesSoFar g left all) where
  pub node_new : is_among (ids_of g) n.id ≡ false
  node_new =
      ap (λ h. is_among (ids_of h) n.id) so_far.0
      ∙ not_in_graph (only_nodes g.nodes) n.id (next_new (λ m. m.id) g.nodes rest left all n up next so_far.1) refl refl

  pub node_more : (more : PropertyGraph) → more ≡ with_node g n → NodesSoFar more rest all
  node_more more added =
      let made : more ≡ only_nodes (g.nodes ++ n ∷ []) =
      added ∙ (ap (λ (h : PropertyGraph). record h { nodes = with_item node_order g.nodes n }) so_far.0 ∙ ap only_nodes (next_last (λ m. m.id) g.nodes rest left all n up next so_far.1)) in
      let nodes : more.nodes ≡ g.nodes ++ n ∷ [] = ap (λ h. h.nodes) made in (made ∙ ap only_nodes (sym nodes), ap (λ ns. ns ++ rest) nodes ∙ one_less g.nodes rest left all n next so_far.1)

-- a graph that has the first of some edges, the others being left
abbrev pub EdgesSoFar : PropertyGraph → PropertyGraph → List Edge → List Edge → Type 0
EdgesSoFar base g left all = (g ≡ record base { edges = g.edges }) × (g.edges ++ left ≡ all)

module _ (base g : PropertyGraph) (e : Edge) (left rest all : List Edge) (up : Ascends edge_order all) (fit : list_all (edge_fits base) all ≡ true) (next : left ≡ e ∷ rest) (so_far : EdgesSoFar base g left all) where
  edge_tests : (not (is_among (ids_of base) e.id) ≡ true) × (stands base.nodes e ≡ true)
  edge_tests =
      and_parts (not (is_among (ids_of base) e.id)) (stands base.nodes e)
      (middle_passes (edge_fits base) g.edges rest e (ap (list_all (edge_fits base)) (ap (λ xs. g.edges ++ xs) (sym next) ∙ so_far.1) ∙ fit))

  pub edge_new : is_among (ids_of g) e.id ≡ false
  edge_new =
      let outer = not_in_either (node_ids base.nodes ++ edge_ids base.edges) (path_ids base.paths) e.id (not_true (is_among (ids_of base) e.id) edge_tests.0) in
      let inner = not_in_either (node_ids base.nodes) (edge_ids base.edges) e.id outer.0 in
      ap (λ h. is_among (ids_of h) e.id) so_far.0
      ∙ not_in_graph (record base { edges = g.edges }) e.id inner.0 (next_new (λ d. d.id) g.edges rest left all e up next so_far.1) outer.1

  pub edge_ends : missing_end g.nodes e ≡ None
  edge_ends =
      let ends = and_parts (is_among (node_ids base.nodes) e.from) (is_among (node_ids base.nodes) e.to) edge_tests.1 in
      ap (λ h. missing_end h.nodes e) so_far.0 ∙ λ i. cond (ends.0 i) (cond (ends.1 i) None (Some e.to)) (Some e.from)

  pub edge_more : (more : PropertyGraph) → more ≡ with_edge g e → EdgesSoFar base more rest all
  edge_more more added =
      let made : more ≡ record base { edges = g.edges ++ e ∷ [] } =
      added ∙ (ap (λ (h : PropertyGraph). record h { edges = with_item edge_order g.edges e }) so_far.0 ∙ ap (λ es. record base { edges = es }) (next_last (λ d. d.id) g.edges rest left all e up next so_far.1)) in
      let edges : more.edges ≡ g.edges ++ e ∷ [] = ap (λ h. h.edges) made in (made ∙ ap (λ es. record base { edges = es }) (sym edges), ap (λ es. es ++ rest) edges ∙ one_less g.edges rest left all e next so_far.1)

-- a graph that has the first of some stored paths, the others being left
abbrev pub PathsSoFar : PropertyGraph → PropertyGraph → List Path → List Path → Type 0
PathsSoFar base g left all = (g ≡ record base { paths = g.paths }) × (g.paths ++ left ≡ all)

module _ (base g : PropertyGraph) (p : Path) (left rest all : List Path) (up : Ascends path_order all) (fit : list_all (path_fits base) all ≡ true) (next : left ≡ p ∷ rest) (so_far : PathsSoFar base g left all) where
  path_tests : (not (is_among (ids_of base) p.id) ≡ true) × (is_walk base.nodes base.edges p.walk ≡ true)
  path_tests =
      and_parts (not (is_among (ids_of base) p.id)) (is_walk base.nodes base.edges p.walk)
      (middle_passes (path_fits base) g.paths rest p (ap (list_all (path_fits base)) (ap (λ xs. g.paths ++ xs) (sym next) ∙ so_far.1) ∙ fit))

  pub path_new : is_among (ids_of g) p.id ≡ false
  path_new =
      let outer = not_in_either (node_ids base.nodes ++ edge_ids base.edges) (path_ids base.paths) p.id (not_true (is_among (ids_of base) p.id) path_tests.0) in
      let inner = not_in_either (node_ids base.nodes) (edge_ids base.edges) p.id outer.0 in
      ap (λ h. is_among (ids_of h) p.id) so_far.0
      ∙ not_in_graph (record base { paths = g.paths }) p.id inner.0 inner.1 (next_new (λ q. q.id) g.paths rest left all p up next so_far.1)

  pub path_walk : is_walk g.nodes g.edges p.walk ≡ true
  path_walk = ap (λ h. is_walk h.nodes h.edges p.walk) so_far.0 ∙ path_tests.1

  pub path_more : (more : PropertyGraph) → more ≡ with_path g p → PathsSoFar base more rest all
  path_more more added =
      let made : more ≡ record base { paths = g.paths ++ p ∷ [] } =
      added ∙ (ap (λ (h : PropertyGraph). record h { paths = with_item path_order g.paths p }) so_far.0 ∙ ap (λ ps. record base { paths = ps }) (next_last (λ q. q.id) g.paths rest left all p up next so_far.1)) in
      let paths : more.paths ≡ g.paths ++ p ∷ [] = ap (λ h. h.paths) made in (made ∙ ap (λ ps. record base { paths = ps }) (sym paths), ap (λ ps. ps ++ rest) paths ∙ one_less g.paths rest left all p next so_far.1)
