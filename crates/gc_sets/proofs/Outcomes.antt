-- A graph of claims is the graph of what was gathered.
use Rattle.std.proofs.Common.{◌≡◌, ℕ, Bool, true, false, not, ◌&&◌, ◌||◌, ◌==◌, List, [], ◌∷◌, ◌++◌, map, Option, Some, None, refl, sym, ap, ◌∙◌, subst}
use Rattle.std.specs.Cmp.{nat_eq_equiv}
use Rattle.std.specs.List.{AllByRecursion, list_all}
use Rattle.gc_spec.specs.PropertyGraph.{PropertyGraph, Node, Edge, Path, IsGraph, IsEdge, IsPath, AreDistinct, ids_of, is_among, is_walk, node_ids, edge_ids, path_ids}
use Rattle.gc_ppg.proofs.Collecting.{told_by_finds}
use Rattle.gc_sets.specs.Descriptions.{united_node}
use Rattle.gc_sets.specs.Elements.{stands}
use Rattle.gc_sets.specs.Unions.{united_edge, united_path}
use Rattle.gc_sets.proofs.NewIds.{not_in_both, not_in_either, or_not}
use Rattle.gc_sets.specs.Claims.{Claims, IsClaimed, IsOutcome}
use Rattle.gc_sets.specs.Gathered.{IsGathered}
use Rattle.gc_sets.specs.Wholes.{IsGraphOf, edge_fits, path_fits}
use Rattle.gc_sets.proofs.Adding.{only_nodes}

both_true : (a b : Bool) → a ≡ true → b ≡ true → (a && b) ≡ true
both_true true b h k = k
both_true false b h k = h

pub all_pass : {X : Type 0} (p : X → Bool) (xs : List X) → AllByRecursion (λ x. p x ≡ true) xs → list_all p xs ≡ true
all_pass p [] h = refl
all_pass p (x ∷ xs) h = both_true (p x) (list_all p xs) h.0 (all_pass p xs h.1)

-- of distinct identities, the later are none of the first
apart : (xs ys : List ℕ) → AreDistinct (xs ++ ys) → AllByRecursion (λ y. is_among xs y ≡ false) ys
apart [] ys d = none ys
  where
    none : (ys : List ℕ) → AllByRecursion (λ y. false ≡ false) ys
    none [] = tt
    none (y ∷ ys) = (refl, none ys)
apart (x ∷ xs) ys d = join ys (not_in_either xs ys x d.0).1 (apart xs ys d.1)
  where
    join : (ys : List ℕ) → is_among ys x ≡ false → AllByRecursion (λ y. is_among xs y ≡ false) ys → AllByRecursion (λ y. is_among (x ∷ xs) y ≡ false) ys
    join [] f h = tt
    join (y ∷ ys) f h =
        let parts = not_in_either (y ∷ []) ys x f in
        let first = not_in_either (y ∷ []) [] x parts.0 in
        (or_not (x == y) (is_among xs y) (nat_eq_equiv.symm x y ∙ alone (y == x) parts.0) h.0, join ys parts.1 h.1)
      where
        alone : (b : Bool) → (b || false) ≡ false → b ≡ false
        alone true e = e
        alone false e = e

first_distinct : (xs ys : List ℕ) → AreDistinct (xs ++ ys) → AreDistinct xs
first_distinct [] ys d = tt
first_distinct (x ∷ xs) ys d = ((not_in_either xs ys x d.0).0, first_distinct xs ys d.1)

of_map : {X Y : Type 0} (P : Y → Type 0) (f : X → Y) (xs : List X) → AllByRecursion P (map f xs) → AllByRecursion (λ x. P (f x)) xs
of_map P f [] h = tt
of_map P f (x ∷ xs) h = (h.0, of_map P f xs h.1)

new_is : (b : Bool) → b ≡ false → not b ≡ true
new_is b h = ap not h

both_all : {X : Type 0} (P Q R : X → Type 0) → ((x : X) → P x → Q x → R x) → (xs : List X) → AllByRecursion P xs → AllByRecursion Q xs → AllByRecursion R xs
both_all P Q R f [] h k = tt
both_all P Q R f (x ∷ xs) h k = (f x h.0 k.0, both_all P Q R f xs h.1 k.1)

module _ (ns : List Node) (es : List Edge) (ps : List Path) where
  abbrev pub whole : PropertyGraph
  whole = record { nodes = ns; edges = es; paths = ps }

  abbrev pub without_paths : PropertyGraph
  without_paths = record { nodes = ns; edges = es; paths = [] }

  edges_fit : IsGraph whole → list_all (edge_fits (only_nodes ns)) es ≡ true
  edges_fit h =
      let others : AllByRecursion (λ e. is_among (node_ids ns) e.id ≡ false) es =
      of_map (λ q. is_among (node_ids ns) q ≡ false) (λ e. e.id) es (apart (node_ids ns) (edge_ids es) (first_distinct (node_ids ns ++ edge_ids es) (path_ids ps) h.distinct)) in
      all_pass (edge_fits (only_nodes ns)) es
      (both_all _ _ _
      (λ (e : Edge) (new : is_among (node_ids ns) e.id ≡ false) (i : IsEdge ns e).
      both_true (not (is_among (ids_of (only_nodes ns)) e.id)) (stands ns e)
      (new_is (is_among (ids_of (only_nodes ns)) e.id) (not_in_both (node_ids ns ++ []) [] e.id (not_in_both (node_ids ns) [] e.id new refl) refl))
      (both_true (is_among (node_ids ns) e.from) (is_among (node_ids ns) e.to) i.source i.target)) es others h.edges)

  paths_fit : IsGraph whole → list_all (path_fits without_paths) ps ≡ true
  paths_fit h =
      let before = node_ids ns ++ edge_ids es in
      let others : AllByRecursion (λ p. is_among before p.id ≡ false) ps = of_map (λ q. is_among before q ≡ false) (λ p. p.id) ps (apart before (path_ids ps) h.distinct) in
      all_pass (path_fits without_paths) ps
      (both_all _ _ _
      (λ (p : Path) (new : is_among before p.id ≡ false) (i : IsPath ns es p).
      both_true (not (is_among (ids_of without_paths) p.id)) (is_walk ns es p.walk) (new_is (is_among (ids_of without_paths) p.id) (not_in_both before [] p.id new refl)) i.walk) ps others h.paths)

  -- where an edge does not fit to the nodes, they are no graph
  pub no_edges : (g : PropertyGraph) → g ≡ only_nodes ns → list_all (edge_fits g) es ≡ false → IsGraph whole → ⊥
  no_edges g is none h = let all = ap (λ b. list_all (edge_fits b) es) is ∙ edges_fit h in absurd (cc (none, all))

  -- nor where a stored path does not fit to the nodes and edges
  pub no_paths : (g : PropertyGraph) → g ≡ without_paths → list_all (path_fits g) ps ≡ false → IsGraph whole → ⊥
  no_paths g is none h = let all = ap (λ b. list_all (path_fits b) ps) is ∙ paths_fit h in absurd (cc (none, all))

  module _ (c : Claims) (nodes : IsGathered united_node (λ n. n.id) c.nodes ns) (edges : IsGathered united_edge (λ e. e.id) c.edges es) (paths : IsGathered united_path (λ p. p.id) c.paths ps) where
    -- there is one graph at most that has what all claims say
    only_graph : (g : PropertyGraph) → IsClaimed c g → g ≡ whole
    only_graph g h =
        let same_nodes = told_by_finds (λ n. n.id) g.nodes ns h.graph.nodes_ascend nodes.ascend (λ q. h.nodes q ∙ sym (nodes.said q)) in
        let same_edges = told_by_finds (λ e. e.id) g.edges es h.graph.edges_ascend edges.ascend (λ q. h.edges q ∙ sym (edges.said q)) in
        let same_paths = told_by_finds (λ p. p.id) g.paths ps h.graph.paths_ascend paths.ascend (λ q. h.paths q ∙ sym (paths.said q)) in
        λ i. record { nodes = same_nodes i; edges = same_edges i; paths = same_paths i }

    claimed : IsGraph whole → IsClaimed c whole
    claimed h = record { graph = h; nodes = nodes.said; edges = edges.said; paths = paths.said }

    -- the graph of what was gathered is that of the claims, and there is none where they have none
    pub outcome : (o : Option PropertyGraph) → IsGraphOf whole o → IsOutcome c o
    outcome (Some g) h = subst (IsClaimed c) (sym h.0) (claimed h.1)
    outcome None h = λ g k. h (subst IsGraph (only_graph g k) k.graph)
