-- Which identities are new once an element is added.
use Rattle.std.proofs.Common.{◌≡◌, ℕ, Bool, true, false, cond, ◌||◌, ◌==◌, List, [], ◌∷◌, ◌++◌, map, fold, refl, sym, ◌∙◌, subst}
use Rattle.std.specs.Ordering.{nat_cmp, on, is_lt, is_gt}
use Rattle.std.specs.List.{AllByRecursion, filter}
use Rattle.std.proofs.lemmas.List.Folds.{list_any-append}
use Rattle.gc_base.specs.Ascending.{with_item}
use Rattle.gc_spec.specs.PropertyGraph.{PropertyGraph, Node, Edge, Path, is_among, is_walk, ids_of, node_ids, edge_ids, path_ids}
use Rattle.gc_ppg.specs.Built.{with_node, with_edge, with_path}
use Rattle.gc_sets.specs.Additions.{AreNew, with_nodes, with_edges, with_paths, nodes_alone, with_standing}
use Rattle.gc_sets.specs.Elements.{stands}

pub neither : (a b : Bool) → (a || b) ≡ false → (a ≡ false) × (b ≡ false)
neither true b h = absurd (cc h)
neither false b h = (refl, h)

pub or_not : (a b : Bool) → a ≡ false → b ≡ false → (a || b) ≡ false
or_not true b h k = h
or_not false b h k = k

pub not_in_both : (xs ys : List ℕ) (q : ℕ) → is_among xs q ≡ false → is_among ys q ≡ false → is_among (xs ++ ys) q ≡ false
not_in_both xs ys q h k = list_any-append (λ k. k == q) xs ys ∙ or_not (is_among xs q) (is_among ys q) h k

pub not_in_either : (xs ys : List ℕ) (q : ℕ) → is_among (xs ++ ys) q ≡ false → (is_among xs q ≡ false) × (is_among ys q ≡ false)
not_in_either xs ys q h = neither (is_among xs q) (is_among ys q) (sym (list_any-append (λ k. k == q) xs ys) ∙ h)

-- what is new beside some is new beside fewer
pub AreNew-fewer : (taken fewer ids : List ℕ) → ((q : ℕ) → is_among taken q ≡ false → is_among fewer q ≡ false) → AreNew taken ids → AreNew fewer ids
AreNew-fewer taken fewer [] less h = tt
AreNew-fewer taken fewer (id ∷ ids) less h = (
  less id h.0,
  AreNew-fewer (id ∷ taken) (id ∷ fewer) ids
      (λ q k. let p = neither (id == q) (is_among taken q) k in or_not (id == q) (is_among fewer q) p.0 (less q p.1)) h.1,
)

module _ {X : Type 0} (key : X → ℕ) where
  not_in_filter : (p : X → Bool) (xs : List X) (q : ℕ) → is_among (map key xs) q ≡ false → is_among (map key (filter p xs)) q ≡ false
  not_in_filter p [] q h = refl
  not_in_filter p (x ∷ xs) q h =
      let parts = neither (key x == q) (is_among (map key xs) q) h in
      let rest = not_in_filter p xs q parts.1 in
      elim (p x) as (λ b. is_among (map key (cond b (x ∷ filter p xs) (filter p xs))) q ≡ false) [
        | true ↦ or_not (key x == q) (is_among (map key (filter p xs)) q) parts.0 rest
        | false ↦ rest
      ]

  among_append : (xs ys : List X) (q : ℕ) → is_among (map key xs) q ≡ false → is_among (map key ys) q ≡ false → is_among (map key (xs ++ ys)) q ≡ false
  among_append [] ys q h k = k
  among_append (x ∷ xs) ys q h k =
      let parts = neither (key x == q) (is_among (map key xs) q) h in
      or_not (key x == q) (is_among (map key (xs ++ ys)) q) parts.0 (among_append xs ys q parts.1 k)

  pub not_in-with_item : (xs : List X) (x : X) (q : ℕ) → (key x == q) ≡ false → is_among (map key xs) q ≡ false → is_among (map key (with_item (on key nat_cmp) xs x)) q ≡ false
  not_in-with_item xs x q h k =
      let low : List X = filter (λ y. is_lt (nat_cmp (key y) (key x))) xs in
      let high : List X = filter (λ y. is_gt (nat_cmp (key y) (key x))) xs in
      among_append low (x ∷ high) q (not_in_filter _ xs q k) (or_not (key x == q) (is_among (map key high) q) h (not_in_filter _ xs q k))

  -- what is none of an ascending list and none of the items that go in is none of them together
  pub not_in-fold : (xs ys : List X) (q : ℕ) → is_among (map key xs) q ≡ false → is_among (map key ys) q ≡ false → is_among (map key (fold (with_item (on key nat_cmp)) xs ys)) q ≡ false
  not_in-fold xs [] q h k = h
  not_in-fold xs (y ∷ ys) q h k =
      let parts = neither (key y == q) (is_among (map key ys) q) k in
      not_in-fold (with_item (on key nat_cmp) xs y) ys q (not_in-with_item xs y q parts.0 h) parts.1

  pub not_in-filter : (p : X → Bool) (xs : List X) (q : ℕ) → is_among (map key xs) q ≡ false → is_among (map key (filter p xs)) q ≡ false
  not_in-filter = not_in_filter

record IsIn (g : PropertyGraph) (q : ℕ) : Type 0 where
  nodes : is_among (node_ids g.nodes) q ≡ false
  edges : is_among (edge_ids g.edges) q ≡ false
  paths : is_among (path_ids g.paths) q ≡ false

not_in_parts : (g : PropertyGraph) (q : ℕ) → is_among (ids_of g) q ≡ false → IsIn g q
not_in_parts g q h =
    let outer = not_in_either (node_ids g.nodes ++ edge_ids g.edges) (path_ids g.paths) q h in
    let inner = not_in_either (node_ids g.nodes) (edge_ids g.edges) q outer.0 in
    record { nodes = inner.0; edges = inner.1; paths = outer.1 }

pub not_in_graph : (g : PropertyGraph) (q : ℕ) → is_among (node_ids g.nodes) q ≡ false → is_among (edge_ids g.edges) q ≡ false → is_among (path_ids g.paths) q ≡ false → is_among (ids_of g) q ≡ false
not_in_graph g q n e p = not_in_both (node_ids g.nodes ++ edge_ids g.edges) (path_ids g.paths) q (not_in_both (node_ids g.nodes) (edge_ids g.edges) q n e) p

-- the others stay new beside a graph with one more element
pub new-with_node : (g : PropertyGraph) (n : Node) (ids : List ℕ) → AreNew (n.id ∷ ids_of g) ids → AreNew (ids_of (with_node g n)) ids
new-with_node g n ids = AreNew-fewer (n.id ∷ ids_of g) (ids_of (with_node g n)) ids (λ q h.
    let parts = neither (n.id == q) (is_among (ids_of g) q) h in
    let each = not_in_parts g q parts.1 in
    not_in_graph (with_node g n) q (not_in-with_item (λ m. m.id) g.nodes n q parts.0 each.nodes) each.edges each.paths)

pub new-with_edge : (g : PropertyGraph) (e : Edge) (ids : List ℕ) → AreNew (e.id ∷ ids_of g) ids → AreNew (ids_of (with_edge g e)) ids
new-with_edge g e ids = AreNew-fewer (e.id ∷ ids_of g) (ids_of (with_edge g e)) ids (λ q h.
    let parts = neither (e.id == q) (is_among (ids_of g) q) h in
    let each = not_in_parts g q parts.1 in
    not_in_graph (with_edge g e) q each.nodes (not_in-with_item (λ d. d.id) g.edges e q parts.0 each.edges) each.paths)

pub new-with_path : (g : PropertyGraph) (p : Path) (ids : List ℕ) → AreNew (p.id ∷ ids_of g) ids → AreNew (ids_of (with_path g p)) ids
new-with_path g p ids = AreNew-fewer (p.id ∷ ids_of g) (ids_of (with_path g p)) ids (λ q h.
    let parts = neither (p.id == q) (is_among (ids_of g) q) h in
    let each = not_in_parts g q parts.1 in
    not_in_graph (with_path g p) q each.nodes each.edges (not_in-with_item (λ d. d.id) g.paths p q parts.0 each.paths))

-- the others stay new where an element is left out
pub new-without : (taken : List ℕ) (id : ℕ) (ids : List ℕ) → AreNew (id ∷ taken) ids → AreNew taken ids
new-without taken id ids = AreNew-fewer (id ∷ taken) taken ids (λ q h. (neither (id == q) (is_among taken q) h).1)

-- one more node is in the graph, and one less is left
pub node_turn : (g more whole : PropertyGraph) (n : Node) (left rest : List Node) → more ≡ with_node g n → left ≡ n ∷ rest
    → (with_nodes g left ≡ whole) × AreNew (ids_of g) (node_ids left) → (with_nodes more rest ≡ whole) × AreNew (ids_of more) (node_ids rest)
node_turn g more whole n left rest added next h =
    let now = subst (λ ns. (with_nodes g ns ≡ whole) × AreNew (ids_of g) (node_ids ns)) next h in
    subst (λ b. (with_nodes b rest ≡ whole) × AreNew (ids_of b) (node_ids rest)) (sym added) (now.0, new-with_node g n (node_ids rest) now.1.1)

-- the graph that edges are added to, those that do not stand left out
abbrev EdgesAdd : PropertyGraph → PropertyGraph → List Edge → Type 0
EdgesAdd whole g es = (with_edges g (filter (stands g.nodes) es) ≡ whole) × AreNew (ids_of g) (edge_ids es)

pub edge_turn : (g more whole : PropertyGraph) (e : Edge) (left rest : List Edge) → more ≡ with_edges g (filter (stands g.nodes) (e ∷ [])) → left ≡ e ∷ rest
    → (with_edges g (filter (stands g.nodes) left) ≡ whole) × AreNew (ids_of g) (edge_ids left) → (with_edges more (filter (stands more.nodes) rest) ≡ whole) × AreNew (ids_of more) (edge_ids rest)
edge_turn g more whole e left rest added next h =
    let now = subst (EdgesAdd whole g) next h in
    subst (λ b. EdgesAdd whole b rest) (sym added)
    (elim (stands g.nodes e) as (λ b. with_edges g (cond b (e ∷ filter (stands g.nodes) rest) (filter (stands g.nodes) rest)) ≡ whole → EdgesAdd whole (with_edges g (cond b (e ∷ []) [])) rest) [
      | true ↦ λ k. (k, new-with_edge g e (edge_ids rest) now.1.1)
      | false ↦ λ k. (k, new-without (ids_of g) e.id (edge_ids rest) now.1.1)
    ] now.0)

-- the stored paths that are added to a graph, those whose walks do not go along it left out
abbrev pub walking : PropertyGraph → List Path → List Path
walking g ps = filter (λ p. is_walk g.nodes g.edges p.walk) ps

abbrev pub PathsAdd : PropertyGraph → PropertyGraph → List Path → Type 0
PathsAdd whole g ps = (with_paths g (walking g ps) ≡ whole) × AreNew (ids_of g) (path_ids ps)

pub path_turn : (g more whole : PropertyGraph) (p : Path) (left rest : List Path) → more ≡ with_paths g (walking g (p ∷ [])) → left ≡ p ∷ rest → PathsAdd whole g left → PathsAdd whole more rest
path_turn g more whole p left rest added next h =
    let now = subst (PathsAdd whole g) next h in
    subst (λ b. PathsAdd whole b rest) (sym added)
    (elim (is_walk g.nodes g.edges p.walk) as (λ b. with_paths g (cond b (p ∷ walking g rest) (walking g rest)) ≡ whole → PathsAdd whole (with_paths g (cond b (p ∷ []) [])) rest) [
      | true ↦ λ k. (k, new-with_path g p (path_ids rest) now.1.1)
      | false ↦ λ k. (k, new-without (ids_of g) p.id (path_ids rest) now.1.1)
    ] now.0)

-- new identities that are none of some others are new beside these
pub AreNew-beside : (fewer taken ids : List ℕ) (P : ℕ → Type 0) → ((q : ℕ) → is_among fewer q ≡ false → P q → is_among taken q ≡ false) → AllByRecursion P ids → AreNew fewer ids → AreNew taken ids
AreNew-beside fewer taken [] P more each h = tt
AreNew-beside fewer taken (id ∷ ids) P more each h = (
  more id h.0 each.0,
  AreNew-beside (id ∷ fewer) (id ∷ taken) ids P
      (λ q k e. let p = neither (id == q) (is_among fewer q) k in or_not (id == q) (is_among taken q) p.0 (more q p.1 e)) each.1 h.1,
)

-- the edges are new beside the graph of the nodes, and the paths beside the graph of both
pub new_edges : (ns : List Node) (es : List Edge) → AreNew (node_ids ns) (edge_ids es) → AreNew (ids_of (nodes_alone ns)) (edge_ids es)
new_edges ns es = AreNew-fewer (node_ids ns) (ids_of (nodes_alone ns)) (edge_ids es) (λ q h. not_in_graph (nodes_alone ns) q (not_in-fold (λ n. n.id) [] ns q refl h) refl refl)

pub new_paths : (ns : List Node) (es : List Edge) (ps : List Path) → AreNew (node_ids ns ++ edge_ids es) (path_ids ps) → AreNew (ids_of (with_standing (nodes_alone ns) es)) (path_ids ps)
new_paths ns es ps = AreNew-fewer (node_ids ns ++ edge_ids es) (ids_of (with_standing (nodes_alone ns) es)) (path_ids ps) (λ q h.
    let parts = not_in_either (node_ids ns) (edge_ids es) q h in
    not_in_graph (with_standing (nodes_alone ns) es) q (not_in-fold (λ n. n.id) [] ns q refl parts.0) (not_in-fold (λ e. e.id) [] _ q refl (not_in-filter (λ e. e.id) (stands (nodes_alone ns).nodes) es q parts.1)) refl)
