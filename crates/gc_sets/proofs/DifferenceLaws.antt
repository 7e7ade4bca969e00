-- What is built for a difference is the difference.
use Rattle.std.proofs.Common.{◌≡◌, ℕ, Bool, false, cond, List, [], ◌∷◌, Some, refl, ap, ◌∙◌}
use Rattle.std.specs.Cmp.{nat_cmp_total, on_total}
use Rattle.std.specs.List.{AllByRecursion, filter}
use Rattle.std.specs.Ordering.{nat_cmp, on}
use Rattle.gc_base.specs.Ascending.{Ascends}
use Rattle.gc_base.proofs.Search.{AllByRecursion-weaker}
use Rattle.gc_base.proofs.SetLaws.{Ascends-filter, AllByRecursion-filter, filter-passes}
use Rattle.gc_spec.specs.Coherence.{shape_at}
use Rattle.gc_spec.specs.PropertyGraph.{PropertyGraph, Edge, Path, IsGraph, IsPath, edge_at, is_walk, edge_order}
use Rattle.gc_sets.specs.Additions.{ArePartsOf, assembled}
use Rattle.gc_sets.specs.Differences.{difference, goes_along, nodes_left, edges_left}
use Rattle.gc_sets.specs.Elements.{others, stands}
use Rattle.gc_sets.proofs.Assembling.{parts_by_shape, assembled-ascending}
use Rattle.gc_sets.proofs.Finds.{found_filter}
use Rattle.gc_sets.proofs.Shapes.{own_shapes, new_ascending}
use Rattle.gc_sets.proofs.Walks.{walk_kept}

pub none_taken : {X : Type 0} (xs : List X) → AllByRecursion (λ x. false ≡ false) xs
none_taken [] = tt
none_taken (x ∷ xs) = (refl, none_taken xs)

pub others-ascend : {X : Type 0} (key : X → ℕ) (xs ys : List X) → Ascends (on key nat_cmp) xs → Ascends (on key nat_cmp) (others key xs ys)
others-ascend key xs ys up = Ascends-filter (on key nat_cmp) (on_total key nat_cmp_total) _ xs up

filters_agree : {X : Type 0} (p q : X → Bool) (xs : List X) → AllByRecursion (λ x. p x ≡ q x) xs → filter p xs ≡ filter q xs
filters_agree p q [] h = refl
filters_agree p q (x ∷ xs) h = λ i. cond (h.0 i) (x ∷ filters_agree p q xs h.1 i) (filters_agree p q xs h.1 i)

abbrev edges_apart : PropertyGraph → PropertyGraph → List Edge
edges_apart a b = others (λ e. e.id) a.edges b.edges

abbrev paths_apart : PropertyGraph → PropertyGraph → List Path
paths_apart a b = others (λ p. p.id) a.paths b.paths

pub difference_parts : (a b : PropertyGraph) → IsGraph a → ArePartsOf (nodes_left a b) (edges_apart a b) (paths_apart a b)
difference_parts a b h =
    let shaped = own_shapes a h.distinct in
    parts_by_shape (shape_at a) (nodes_left a b) (edges_apart a b) (paths_apart a b)
    (AllByRecursion-filter _ _ a.nodes shaped.nodes) (AllByRecursion-filter _ _ a.edges shaped.edges) (AllByRecursion-filter _ _ a.paths shaped.paths)
    (new_ascending (λ n. n.id) [] _ (others-ascend (λ n. n.id) a.nodes b.nodes h.nodes_ascend) (none_taken _))
    (new_ascending (λ e. e.id) [] _ (others-ascend (λ e. e.id) a.edges b.edges h.edges_ascend) (none_taken _))
    (new_ascending (λ p. p.id) [] _ (others-ascend (λ p. p.id) a.paths b.paths h.paths_ascend) (none_taken _))

pub difference_assembled : (a b : PropertyGraph) → IsGraph a → assembled (nodes_left a b) (edges_apart a b) (paths_apart a b) ≡ difference a b
difference_assembled a b h =
    let ns = nodes_left a b in
    let es = edges_left a b in
    let up_es = others-ascend (λ e. e.id) a.edges b.edges h.edges_ascend in
    let up_kept : Ascends edge_order es = Ascends-filter edge_order (on_total (λ e. e.id) nat_cmp_total) (stands ns) (edges_apart a b) up_es in
    let are_some : (id : ℕ) (e : Edge) → edge_at es id ≡ Some e → edge_at a.edges id ≡ Some e =
    λ id e k. found_filter (λ d. d.id) _ a.edges id e h.edges_ascend (found_filter (λ d. d.id) (stands ns) (edges_apart a b) id e up_es k) in
    let same = filters_agree (λ (p : Path). is_walk ns es p.walk) (λ p. goes_along ns es p.walk) (paths_apart a b)
    (AllByRecursion-filter _ _ a.paths
    (AllByRecursion-weaker _ _ (λ (p : Path) (k : IsPath a.nodes a.edges p). walk_kept a.edges es ns h.edges_ascend up_kept are_some (filter-passes (stands ns) (edges_apart a b)) a.nodes p.walk k.walk) a.paths h.paths)) in
    assembled-ascending ns (edges_apart a b) (paths_apart a b) (others-ascend (λ n. n.id) a.nodes b.nodes h.nodes_ascend) up_es (others-ascend (λ p. p.id) a.paths b.paths h.paths_ascend)
    ∙ ap (λ ps. record { nodes = ns; edges = es; paths = ps }) same
