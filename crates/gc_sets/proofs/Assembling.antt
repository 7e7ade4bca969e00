-- Elements with shapes of their own are parts of a graph, and those that ascend stay as they are.
use Rattle.std.proofs.Common.{◌≡◌, ℕ, false, List, [], ◌∷◌, ◌++◌, map, fold, Option, ap, ◌∙◌}
use Rattle.std.specs.Cmp.{nat_cmp_total, on_total}
use Rattle.std.specs.List.{AllByRecursion, filter}
use Rattle.gc_base.specs.Ascending.{Ascends, with_item}
use Rattle.gc_base.proofs.Search.{AllByRecursion-weaker}
use Rattle.gc_base.proofs.SetLaws.{Ascends-filter}
use Rattle.gc_spec.specs.Coherence.{ElementShape, NodeShape, EdgeShape, PathShape}
use Rattle.gc_spec.specs.PropertyGraph.{PropertyGraph, Node, Edge, Path, is_among, is_walk, node_ids, edge_ids, path_ids, node_order, edge_order, path_order}
use Rattle.gc_sets.specs.Additions.{AreNew, ArePartsOf, assembled}
use Rattle.gc_sets.specs.Elements.{stands}
use Rattle.gc_sets.proofs.NewIds.{AreNew-beside, not_in_both}
use Rattle.gc_sets.proofs.Sets.{fold-ascending}
use Rattle.gc_sets.proofs.Shapes.{AreNodes, AreEdges, ArePaths, not_among}

pub onto_map : {X Y : Type 0} (P : Y → Type 0) (f : X → Y) (xs : List X) → AllByRecursion (λ x. P (f x)) xs → AllByRecursion P (map f xs)
onto_map P f [] h = tt
onto_map P f (x ∷ xs) h = (h.0, onto_map P f xs h.1)

pub no_edge : (from to : ℕ) → NodeShape ≡ EdgeShape from to → ⊥
no_edge from to h = absurd (cc h)

pub no_path : (walk : _) → NodeShape ≡ PathShape walk → ⊥
no_path walk h = absurd (cc h)

pub edge_no_path : (from to : ℕ) (walk : _) → EdgeShape from to ≡ PathShape walk → ⊥
edge_no_path from to walk h = absurd (cc h)

-- elements of each kind with identities of their own, which stand for what they are, are parts of a graph
pub parts_by_shape : (shape : ℕ → Option ElementShape) (ns : List Node) (es : List Edge) (ps : List Path) → AreNodes shape ns → AreEdges shape es → ArePaths shape ps
    → AreNew [] (node_ids ns) → AreNew [] (edge_ids es) → AreNew [] (path_ids ps) → ArePartsOf ns es ps
parts_by_shape shape ns es ps are_ns are_es are_ps new_ns new_es new_ps =
    let N = node_ids ns in
    let E = edge_ids es in record {
      new_nodes = new_ns;
      new_edges =
          AreNew-beside [] N E (λ q. is_among N q ≡ false) (λ q h k. k)
          (onto_map (λ q. is_among N q ≡ false) (λ e. e.id) es
          (AllByRecursion-weaker _ _ (λ (e : Edge) h. not_among shape (λ n. n.id) (λ n. NodeShape) ns e.id (EdgeShape e.from e.to) are_ns (λ n. no_edge e.from e.to) h) es are_es))
          new_es;
      new_paths =
          AreNew-beside [] (N ++ E) (path_ids ps) (λ q. is_among (N ++ E) q ≡ false) (λ q h k. k)
          (onto_map (λ q. is_among (N ++ E) q ≡ false) (λ p. p.id) ps
          (AllByRecursion-weaker _ _
          (λ (p : Path) h.
          not_in_both N E p.id
          (not_among shape (λ n. n.id) (λ n. NodeShape) ns p.id (PathShape p.walk) are_ns (λ n. no_path p.walk) h)
          (not_among shape (λ e. e.id) (λ e. EdgeShape e.from e.to) es p.id (PathShape p.walk) are_es (λ e. edge_no_path e.from e.to p.walk) h))
          ps are_ps))
          new_ps;
    }

abbrev graph : List Node → List Edge → List Path → PropertyGraph
graph ns es ps = record { nodes = ns; edges = es; paths = ps }

abbrev along : List Node → List Edge → List Path → List Path
along ns es ps = filter (λ p. is_walk ns es p.walk) ps

-- what is built of lists that ascend
pub assembled-ascending : (ns : List Node) (es : List Edge) (ps : List Path) → Ascends node_order ns → Ascends edge_order es → Ascends path_order ps
    → assembled ns es ps ≡ graph ns (filter (stands ns) es) (along ns (filter (stands ns) es) ps)
assembled-ascending ns es ps up_ns up_es up_ps =
    let kept = filter (stands ns) es in
    let edges_of : List Node → List Edge = λ ms. fold (with_item edge_order) [] (filter (stands ms) es) in
    let paths_of : List Node → List Edge → List Path = λ ms ds. fold (with_item path_order) [] (along ms ds ps) in
    ap (λ ms. graph ms (edges_of ms) (paths_of ms (edges_of ms))) (fold-ascending node_order ns up_ns)
    ∙ (ap (λ ds. graph ns ds (paths_of ns ds)) (fold-ascending edge_order kept (Ascends-filter edge_order (on_total (λ e. e.id) nat_cmp_total) _ es up_es))
    ∙ ap (λ qs. graph ns kept qs) (fold-ascending path_order (along ns kept ps) (Ascends-filter path_order (on_total (λ p. p.id) nat_cmp_total) _ ps up_ps)))
