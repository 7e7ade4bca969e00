-- A graph with one more element is a graph.
use Rattle.std.proofs.Common.{◌≡◌, ℕ, Bool, true, false, ◌&&◌, ◌==◌, List, [], ◌∷◌, ◌++◌, refl, sym, ap, ◌∙◌, subst, None, append_assoc, append-nil}
use Rattle.std.specs.Cmp.{nat_cmp_total, on_total}
use Rattle.std.proofs.lemmas.Bool.{and_parts}
use Rattle.std.proofs.lemmas.List.Folds.{list_any-append}
use Rattle.gc_base.specs.Ascending.{Ascends, with_item}
use Rattle.gc_base.specs.declared.walk.Step.{Step}
use Rattle.gc_base.proofs.Search.{AllByRecursion-weaker}
use Rattle.gc_base.proofs.SetLaws.{Ascends-with_item, AllByRecursion-with_item}
use Rattle.gc_spec.specs.PropertyGraph.{Node, Edge, Path, IsNode, IsEdge, IsPath, IsGraph, PropertyGraph, node_order, edge_order, path_order, node_ids, edge_ids, path_ids, is_among, is_joined, are_steps_from, is_walk, AreDistinct, ids_of}
use Rattle.gc_ppg.specs.Built.{with_node, with_edge, with_path, missing_end, IsEdgeAlone, IsPathAlone}
use Rattle.gc_ppg.proofs.ElementLists.{or_false, or_right, is_among-with_item, list_any-with_item, AreDistinct-with_item}
use Rattle.gc_ppg.proofs.WalkTests.{ends_there}

both_true : (a b : Bool) → a ≡ true → b ≡ true → (a && b) ≡ true
both_true true b h k = k
both_true false b h k = h

-- an identity of none of three lists
record IsFresh (N E P : List ℕ) (q : ℕ) : Type 0 where
  nodes : is_among N q ≡ false
  edges : is_among E q ≡ false
  paths : is_among P q ≡ false

fresh_parts : (N E P : List ℕ) (q : ℕ) → is_among (N ++ E ++ P) q ≡ false → IsFresh N E P q
fresh_parts N E P q f =
    let outer = or_false (is_among (N ++ E) q) (is_among P q) (sym (list_any-append (λ k. k == q) (N ++ E) P) ∙ f) in
    let inner = or_false (is_among N q) (is_among E q) (sym (list_any-append (λ k. k == q) N E) ∙ outer.0) in
    record { nodes = inner.0; edges = inner.1; paths = outer.1 }

-- steps along edges go along more edges too
steps_with : (edges : List Edge) (e : Edge) → Ascends edge_order edges → is_among (edge_ids edges) e.id ≡ false
    → (node : ℕ) (steps : List Step) → are_steps_from edges node steps ≡ true → are_steps_from (with_item edge_order edges e) node steps ≡ true
steps_with edges e up f node [] h = refl
steps_with edges e up f node (step ∷ steps) h =
    let p = and_parts (is_joined edges step.edge node step.node) (are_steps_from edges step.node steps) h in
    both_true _ _ (list_any-with_item (λ d. d.id) _ edges e up f ∙ or_right _ _ p.0) (steps_with edges e up f step.node steps p.1)

pub IsGraph-with_node : (g : PropertyGraph) (n : Node) → IsGraph g → IsNode n → is_among (ids_of g) n.id ≡ false → IsGraph (with_node g n)
IsGraph-with_node g n h one f =
    let fresh = fresh_parts (node_ids g.nodes) (edge_ids g.edges) (path_ids g.paths) n.id f in
    let others = edge_ids g.edges ++ path_ids g.paths in
    let same : (ns : List Node) → (node_ids ns ++ edge_ids g.edges) ++ path_ids g.paths ≡ node_ids ns ++ others = λ ns. append_assoc (node_ids ns) (edge_ids g.edges) (path_ids g.paths) in
    let kept : (q : ℕ) → is_among (node_ids g.nodes) q ≡ true → is_among (node_ids (with_item node_order g.nodes n)) q ≡ true =
    λ q k. is_among-with_item (λ m. m.id) g.nodes n q h.nodes_ascend fresh.nodes k in
    record {
      nodes_ascend = Ascends-with_item node_order (on_total (λ m. m.id) nat_cmp_total) g.nodes n h.nodes_ascend;
      edges_ascend = h.edges_ascend;
      paths_ascend = h.paths_ascend;
      distinct =
          subst AreDistinct (sym (same (with_item node_order g.nodes n)))
          (AreDistinct-with_item (λ m. m.id) [] others g.nodes n h.nodes_ascend (ap (λ l. is_among l n.id) (sym (same g.nodes)) ∙ f) fresh.nodes
          (subst AreDistinct (same g.nodes) h.distinct));
      nodes = AllByRecursion-with_item node_order IsNode g.nodes n h.nodes one;
      edges = AllByRecursion-weaker _ _ (λ e k. record { id = k.id; source = kept e.from k.source; target = kept e.to k.target; labels = k.labels; properties = k.properties }) g.edges h.edges;
      paths =
          AllByRecursion-weaker _ _
          (λ p k. let w = and_parts _ _ k.walk in record { id = k.id; walk = both_true _ _ (kept p.walk.start w.0) w.1; labels = k.labels; properties = k.properties })
          g.paths h.paths;
    }

pub IsGraph-with_edge : (g : PropertyGraph) (e : Edge) → IsGraph g → IsEdgeAlone e → is_among (ids_of g) e.id ≡ false → missing_end g.nodes e ≡ None → IsGraph (with_edge g e)
IsGraph-with_edge g e h one f there =
    let fresh = fresh_parts (node_ids g.nodes) (edge_ids g.edges) (path_ids g.paths) e.id f in
    let ends = ends_there g.nodes e there in
    record {
      nodes_ascend = h.nodes_ascend;
      edges_ascend = Ascends-with_item edge_order (on_total (λ d. d.id) nat_cmp_total) g.edges e h.edges_ascend;
      paths_ascend = h.paths_ascend;
      distinct = AreDistinct-with_item (λ d. d.id) (node_ids g.nodes) (path_ids g.paths) g.edges e h.edges_ascend f fresh.edges h.distinct;
      nodes = h.nodes;
      edges =
          AllByRecursion-with_item edge_order (IsEdge g.nodes) g.edges e h.edges
          (record { id = one.id; source = ends.0; target = ends.1; labels = one.labels; properties = one.properties });
      paths =
          AllByRecursion-weaker _ _
          (λ p k. let w = and_parts _ _ k.walk in record {
            id = k.id;
            walk = both_true _ _ w.0 (steps_with g.edges e h.edges_ascend fresh.edges p.walk.start p.walk.steps w.1);
            labels = k.labels;
            properties = k.properties;
          })
          g.paths h.paths;
    }

pub IsGraph-with_path : (g : PropertyGraph) (p : Path) → IsGraph g → IsPathAlone p → is_among (ids_of g) p.id ≡ false → is_walk g.nodes g.edges p.walk ≡ true → IsGraph (with_path g p)
IsGraph-with_path g p h one f there =
    let fresh = fresh_parts (node_ids g.nodes) (edge_ids g.edges) (path_ids g.paths) p.id f in
    let before = node_ids g.nodes ++ edge_ids g.edges in
    let same : (ps : List Path) → before ++ path_ids ps ≡ (before ++ path_ids ps) ++ [] = λ ps. sym (append-nil (before ++ path_ids ps)) in
    record {
      nodes_ascend = h.nodes_ascend;
      edges_ascend = h.edges_ascend;
      paths_ascend = Ascends-with_item path_order (on_total (λ d. d.id) nat_cmp_total) g.paths p h.paths_ascend;
      distinct =
          subst AreDistinct (sym (same (with_item path_order g.paths p)))
          (AreDistinct-with_item (λ d. d.id) before [] g.paths p h.paths_ascend (ap (λ l. is_among l p.id) (sym (same g.paths)) ∙ f) fresh.paths
          (subst AreDistinct (same g.paths) h.distinct));
      nodes = h.nodes;
      edges = h.edges;
      paths =
          AllByRecursion-with_item path_order (IsPath g.nodes g.edges) g.paths p h.paths
          (record { id = one.id; walk = there; labels = one.labels; properties = one.properties });
    }

abbrev pub only_nodes : List Node → PropertyGraph
only_nodes ns = record { nodes = ns; edges = []; paths = [] }

-- the graph of nothing
pub IsGraph-empty : IsGraph (only_nodes [])
IsGraph-empty = record { nodes_ascend = tt; edges_ascend = tt; paths_ascend = tt; distinct = tt; nodes = tt; edges = tt; paths = tt }
