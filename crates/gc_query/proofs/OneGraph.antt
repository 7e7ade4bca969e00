-- A graph is told by what it has at each identity.
use Rattle.std.proofs.Common.{◌≡◌, ℕ, ◌==◌, List, sym, ap, ◌∙◌}
use Rattle.std.specs.Cmp.{nat_cmp_total, unsigned_tied}
use Rattle.std.specs.List.{find}
use Rattle.std.specs.Option.{option_map}
use Rattle.std.specs.Ordering.{is_eq, nat_cmp, on}
use Rattle.gc_base.specs.Ascending.{Ascends}
use Rattle.gc_rows.proofs.Lookup.{same_list}
use Rattle.gc_sets.specs.Claims.{Claims, IsClaimed}
use Rattle.gc_sets.specs.Intersections.{IsIntersection}
use Rattle.gc_sets.specs.Unions.{IsUnion}
use Rattle.gc_spec.specs.PropertyGraph.{PropertyGraph, Node, Edge, Path, IsGraph, node_at, edge_at, path_at}

-- what is found by an equal test is the same
found_alike : {X : Type 0} (id_of : X → ℕ) (xs : List X) (k : ℕ) → find (λ x. is_eq (nat_cmp (id_of x) k)) xs ≡ find (λ x. id_of x == k) xs
found_alike id_of xs k = λ i. find (λ x. unsigned_tied (id_of x) k i) xs

-- lists that ascend by identity and have the same at each are equal
one_list : {X : Type 0} (id_of : X → ℕ) (xs ys : List X) → Ascends (on id_of nat_cmp) xs → Ascends (on id_of nat_cmp) ys
    → ((id : ℕ) → find (λ x. id_of x == id) xs ≡ find (λ x. id_of x == id) ys) → xs ≡ ys
one_list id_of xs ys up up' same =
    same_list id_of (λ x. x) nat_cmp nat_cmp_total (λ x y tie e. e) xs ys up up'
    (λ k. ap (option_map (λ x. x)) (found_alike id_of xs k ∙ (same k ∙ sym (found_alike id_of ys k))))

pub one_graph : (g h : PropertyGraph) → IsGraph g → IsGraph h → ((id : ℕ) → node_at g.nodes id ≡ node_at h.nodes id)
    → ((id : ℕ) → edge_at g.edges id ≡ edge_at h.edges id) → ((id : ℕ) → path_at g.paths id ≡ path_at h.paths id) → g ≡ h
one_graph g h p q nodes edges paths =
    let ns : g.nodes ≡ h.nodes = one_list (λ (n : Node). n.id) g.nodes h.nodes p.nodes_ascend q.nodes_ascend nodes in
    let es : g.edges ≡ h.edges = one_list (λ (e : Edge). e.id) g.edges h.edges p.edges_ascend q.edges_ascend edges in
    let ps : g.paths ≡ h.paths = one_list (λ (x : Path). x.id) g.paths h.paths p.paths_ascend q.paths_ascend paths in
    λ i. record { nodes = ns i; edges = es i; paths = ps i }

-- claims are those of one graph
pub one_claimed : (c : Claims) (g h : PropertyGraph) → IsClaimed c g → IsClaimed c h → g ≡ h
one_claimed c g h p q = one_graph g h p.graph q.graph (λ id. p.nodes id ∙ sym (q.nodes id)) (λ id. p.edges id ∙ sym (q.edges id)) (λ id. p.paths id ∙ sym (q.paths id))

-- two graphs have one union and one intersection
pub one_union : (a b g h : PropertyGraph) → IsUnion a b g → IsUnion a b h → g ≡ h
one_union a b g h p q = one_graph g h p.graph q.graph (λ id. p.nodes id ∙ sym (q.nodes id)) (λ id. p.edges id ∙ sym (q.edges id)) (λ id. p.paths id ∙ sym (q.paths id))

pub one_intersection : (a b g h : PropertyGraph) → IsIntersection a b g → IsIntersection a b h → g ≡ h
one_intersection a b g h p q = one_graph g h p.graph q.graph (λ id. p.nodes id ∙ sym (q.nodes id)) (λ id. p.edges id ∙ sym (q.edges id)) (λ id. p.paths id ∙ sym (q.paths id))
