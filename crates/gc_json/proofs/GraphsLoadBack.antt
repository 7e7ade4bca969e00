-- The canonical text of a graph is loaded as that graph.
use Rattle.std.proofs.Common.{◌≡◌, ℕ, ◌+◌, ◌≤◌, ◌||◌, ◌==◌, Bool, true, false, List, [], ◌∷◌, ◌++◌, length, map, Some, Ok, refl, sym, ap, ap₂, ◌∙◌, subst, arith, append_assoc, append-nil, nat_le}
use Rattle.std.proofs.lemmas.Bool.{and_parts}
use Rattle.std.proofs.lemmas.Bool.Decides.{nat_tests}
use Rattle.std.proofs.lemmas.List.{map-append}
use Rattle.std.proofs.lemmas.Str.{is_utf8-from_IsUtf8}
use Rattle.std.specs.Cmp.{nat_eq_equiv}
use Rattle.std.specs.List.{AllByRecursion}
use Rattle.gc_base.specs.Ascending.{Ascends}
use Rattle.gc_base.specs.declared.walk.Step.{Step}
use Rattle.gc_base.specs.declared.walk.Walk.{Walk}
use Rattle.gc_spec.specs.Coherence.{NodeShape, EdgeShape, PathShape}
use Rattle.gc_spec.specs.PropertyGraph.{Node, Edge, Path, PropertyGraph, IsId, IsNode, IsEdge, IsPath, IsGraph, AreDistinct, empty_graph, ids_of, node_ids, edge_ids, path_ids, is_among, is_joined, are_steps_from, is_walk, node_order, edge_order, path_order}
use Rattle.gc_ppg.specs.Built.{with_node, with_edge, with_path}
use Rattle.gc_ppg.specs.Shapes.{graph_agrees}
use Rattle.gc_ppg.specs.declared.shape.Kind.TheVariants as kind
use Rattle.serde_json.specs.Data.{Data, item}
use Rattle.serde_json.specs.Events.{items_len}
use Rattle.serde_json.specs.View.{items_of}
use Rattle.gc_json.specs.CanonicalText.{canonical_text, element_count, graph_data, id_data, node_data, edge_data, path_data, step_items, walk_data}
use Rattle.gc_json.specs.ElementParts.{described, fresh_id, new_id, node_id, end_of}
use Rattle.gc_json.specs.ElementValues.{element_of}
use Rattle.gc_json.specs.FileElements.{Seen, node_of, ends_of, edge_of, path_from, path_of, agreeing, add_node_of, add_edge_of, add_path_of}
use Rattle.gc_json.specs.GraphFiles.{FileLists, add_elements_of, graph_of_lists, graph_of_few, graph_of_data, file_graph, located, most_elements, part_of}
use Rattle.gc_json.specs.JsonValues.{id_of, value_of}
use Rattle.gc_json.specs.Reading.{◌>>=◌, or_refused}
use Rattle.gc_json.specs.WalkItems.{id_on_walk, known_walk, walk_in, walk_items, walk_of, steps_among}
use Rattle.gc_json.specs.declared.fault.Fault.TheVariants.{IdTooLarge, NoEnd}
use Rattle.gc_json.specs.declared.refusal.GraphRefusal.TheVariants.{NotJson}
use Rattle.gc_json.proofs.GatheredSteps.{steps_gathered, walk_gathered}
use Rattle.gc_json.proofs.LoadedAgain.{AgreesWith, NodeAgrees, EdgeAgrees, PathAgrees, agrees_by_lists}
use Rattle.gc_json.proofs.GraphsReadBack.{Bounded, edges_bounded, joined_bound, node_bound, read-canonical_text}
use Rattle.gc_json.proofs.PartsLoadBack.{StepIsBounded, bound, described_back, id_back, numbers_back, on_walk_back, parts, steps_back}
use Rattle.gc_json.proofs.SortedSets.{with_item-last}
use Rattle.gc_json.proofs.Utf8Texts.{IsUtf8-canonical_text}

-- ---- identities

new_back : (g : PropertyGraph) (id : ℕ) → IsId id → is_among (ids_of g) id ≡ false → new_id g id ≡ Ok id
new_back g id h fresh = bound (or_refused IdTooLarge (id_of id)) id (fresh_id g) (ap (or_refused IdTooLarge) (id_back id h)) ∙ rw fresh refl

end_back : (g : PropertyGraph) (id : ℕ) → IsId id → is_among (node_ids g.nodes) id ≡ true → end_of g id ≡ Ok id
end_back g id h there = bound (or_refused NoEnd (id_of id)) id (node_id g) (ap (or_refused NoEnd) (id_back id h)) ∙ rw there refl

not_first : (a b : Bool) → (a || b) ≡ false → (a ≡ false) × (b ≡ false)
not_first true b h = cc
not_first false b h = (refl, h)

-- an identity is none of those before it
distinct_before : (xs : List ℕ) (x : ℕ) (ys : List ℕ) → AreDistinct (xs ++ x ∷ ys) → is_among xs x ≡ false
distinct_before [] x ys h = refl
distinct_before (y ∷ xs) x ys h =
    λ i. (nat_eq_equiv.symm y x ∙ among_middle xs x ys y h.0) i || distinct_before xs x ys h.1 i
  where
    among_middle : (xs : List ℕ) (x : ℕ) (ys : List ℕ) (y : ℕ) → is_among (xs ++ x ∷ ys) y ≡ false → (x == y) ≡ false
    among_middle [] x ys y h = (not_first (x == y) (is_among ys y) h).0
    among_middle (z ∷ xs) x ys y h = among_middle xs x ys y (not_first (z == y) (is_among (xs ++ x ∷ ys) y) h).1

-- the identity of the next element is none of the base and of those before it
fresh_next : {X : Type 0} (key : X → ℕ) (base : List ℕ) (done : List X) (x : X) (rest : List X) → AreDistinct (base ++ map key (done ++ x ∷ rest)) → is_among (base ++ map key done) (key x) ≡ false
fresh_next key base done x rest h =
    let whole : base ++ map key (done ++ x ∷ rest) ≡ (base ++ map key done) ++ key x ∷ map key rest =
    ap (λ l. base ++ l) (map-append key done (x ∷ rest)) ∙ sym (append_assoc base (map key done) (key x ∷ map key rest)) in
    distinct_before (base ++ map key done) (key x) (map key rest) (subst AreDistinct whole h)

distinct_front : (xs ys : List ℕ) → AreDistinct (xs ++ ys) → AreDistinct xs
distinct_front [] ys h = tt
distinct_front (x ∷ xs) ys h = (among_front xs ys x h.0, distinct_front xs ys h.1)
  where
    among_front : (xs ys : List ℕ) (x : ℕ) → is_among (xs ++ ys) x ≡ false → is_among xs x ≡ false
    among_front [] ys x h = refl
    among_front (z ∷ xs) ys x h = let p = not_first (z == x) (is_among (xs ++ ys) x) h in λ i. p.0 i || among_front xs ys x p.1 i

-- ---- each element

node_back : (g : PropertyGraph) (n : Node) → IsNode n → is_among (ids_of g) n.id ≡ false → node_of g (element_of kind.Node (node_data n)) ≡ Ok n
node_back g n h fresh =
    bound (new_id g n.id) n.id (λ id. described (parts n.id n.labels n.properties) >>= λ about. Ok (record { id = id; labels = about.0; properties = about.1 })) (new_back g n.id h.id fresh)
    ∙ bound (described (parts n.id n.labels n.properties)) (n.labels, n.properties) (λ about. Ok (record { id = n.id; labels = about.0; properties = about.1 })) (described_back n.id n.labels n.properties h.labels h.properties)

ends_back : (g : PropertyGraph) (e : Edge) → AllByRecursion IsNode g.nodes → IsEdge g.nodes e → ends_of g (e.from, e.to) ≡ Ok (e.from, e.to)
ends_back g e are h =
    bound (end_of g e.from) e.from (λ from. end_of g e.to >>= λ to. Ok (from, to)) (end_back g e.from (node_bound g.nodes e.from are h.source) h.source)
    ∙ bound (end_of g e.to) e.to (λ to. Ok (e.from, to)) (end_back g e.to (node_bound g.nodes e.to are h.target) h.target)

edge_back : (g : PropertyGraph) (e : Edge) → AllByRecursion IsNode g.nodes → IsEdge g.nodes e → is_among (ids_of g) e.id ≡ false → edge_of g (element_of kind.Edge (edge_data e)) ≡ Ok e
edge_back g e are h fresh =
    let about = described (parts e.id e.labels e.properties) in
    bound (new_id g e.id) e.id (λ id. ends_of g (e.from, e.to) >>= λ ends. about >>= λ d. Ok (record { id = id; from = ends.0; to = ends.1; labels = d.0; properties = d.1 })) (new_back g e.id h.id fresh)
    ∙ bound (ends_of g (e.from, e.to)) (e.from, e.to) (λ ends. about >>= λ d. Ok (record { id = e.id; from = ends.0; to = ends.1; labels = d.0; properties = d.1 })) (ends_back g e are h)
    ∙ bound about (e.labels, e.properties) (λ d. Ok (record { id = e.id; from = e.from; to = e.to; labels = d.0; properties = d.1 })) (described_back e.id e.labels e.properties h.labels h.properties)

steps_bounded : (edges : List Edge) (node : ℕ) (steps : List Step) → AllByRecursion Bounded edges → are_steps_from edges node steps ≡ true → AllByRecursion StepIsBounded steps
steps_bounded edges node [] each h = tt
steps_bounded edges node (step ∷ steps) each h =
    let p = and_parts (is_joined edges step.edge node step.node) _ h in
    (joined_bound edges step.edge node step.node each p.0, steps_bounded edges step.node steps each p.1)

walk_back : (g : PropertyGraph) (w : Walk) → AllByRecursion IsNode g.nodes → AllByRecursion Bounded g.edges → is_walk g.nodes g.edges w ≡ true
    → walk_in g (item (id_data w.start) (step_items w.steps)) ≡ Ok w
walk_back g w are each h =
    let p = and_parts (is_among (node_ids g.nodes) w.start) _ h in
    let start = on_walk_back w.start (node_bound g.nodes w.start are p.0) in
    let steps = steps_back [] w.steps (steps_bounded g.edges w.start w.steps each p.1) in
    let read : walk_of (item (id_data w.start) (step_items w.steps)) ≡ Ok w =
    sym (walk_gathered (id_data w.start) (step_items w.steps))
    ∙ bound (id_on_walk (id_data w.start)) w.start (λ s. steps_among (step_items w.steps) >>= λ ss. Ok (record { start = s; steps = ss })) start
    ∙ bound (steps_among (step_items w.steps)) w.steps (λ ss. Ok (record { start = w.start; steps = ss })) (sym (steps_gathered [] (step_items w.steps) refl) ∙ steps) in
    bound (walk_of (item (id_data w.start) (step_items w.steps))) w (known_walk g) read ∙ rw h refl

path_back : (g : PropertyGraph) (p : Path) → AllByRecursion IsNode g.nodes → AllByRecursion Bounded g.edges → IsPath g.nodes g.edges p → is_among (ids_of g) p.id ≡ false → path_of g (element_of kind.Path (path_data p)) ≡ Ok p
path_back g p are each h fresh =
    let about = described (parts p.id p.labels p.properties) in
    let items = item (id_data p.walk.start) (step_items p.walk.steps) in
    bound (walk_items (Some (walk_data p.walk))) items (path_from g (parts p.id p.labels p.properties)) (rw (numbers_back p.walk.steps) refl)
    ∙ bound (new_id g p.id) p.id (λ id. walk_in g items >>= λ walk. about >>= λ d. Ok (record { id = id; walk = walk; labels = d.0; properties = d.1 })) (new_back g p.id h.id fresh)
    ∙ bound (walk_in g items) p.walk (λ walk. about >>= λ d. Ok (record { id = p.id; walk = walk; labels = d.0; properties = d.1 })) (walk_back g p.walk are each h.walk)
    ∙ bound about (p.labels, p.properties) (λ d. Ok (record { id = p.id; walk = p.walk; labels = d.0; properties = d.1 })) (described_back p.id p.labels p.properties h.labels h.properties)

-- ---- each list

abbrev graph : List Node → List Edge → List Path → PropertyGraph
graph ns es ps = record { nodes = ns; edges = es; paths = ps }

nodes_back : (seen : Seen) (i : ℕ) (done rest : List Node) → Ascends node_order (done ++ rest) → AreDistinct (node_ids (done ++ rest)) → AllByRecursion IsNode rest → AllByRecursion (NodeAgrees seen) rest
    → add_elements_of seen kind.Node i (graph done [] []) (items_of (map node_data rest)) ≡ Ok (graph (done ++ rest) [] [])
nodes_back seen i done [] up apart each agree = ap (λ ns. Ok (graph ns [] [])) (sym (append-nil done))
nodes_back seen i done (n ∷ rest) up apart each agree =
    let g = graph done [] [] in
    let ds = items_of (map node_data rest) in
    let whole : (done ++ n ∷ []) ++ rest ≡ done ++ n ∷ rest = append_assoc done (n ∷ []) rest in
    let ids : ids_of g ≡ node_ids done = append-nil (node_ids done ++ []) ∙ append-nil (node_ids done) in
    let fresh : is_among (ids_of g) n.id ≡ false = ap (λ l. is_among l n.id) ids ∙ fresh_next (λ m. m.id) [] done n rest apart in
    let one : add_node_of seen g (element_of kind.Node (node_data n)) ≡ Ok (graph (done ++ n ∷ []) [] []) =
    bound (node_of g (element_of kind.Node (node_data n))) n (λ m. agreeing seen m.id NodeShape (with_node g m)) (node_back g n each.0 fresh)
    ∙ rw agree.0 (ap (λ ns. Ok (graph ns [] [])) (with_item-last node_order done n rest up)) in
    ap (λ r. located (record { part = part_of kind.Node; index = i }) r >>= λ more. add_elements_of seen kind.Node (i + 1) more ds) one
    ∙ nodes_back seen (i + 1) (done ++ n ∷ []) rest (subst (Ascends node_order) (sym whole) up) (subst (λ ns. AreDistinct (node_ids ns)) (sym whole) apart) each.1 agree.1
    ∙ ap (λ ns. Ok (graph ns [] [])) whole

edges_back : (seen : Seen) (i : ℕ) (ns : List Node) (done rest : List Edge) → AllByRecursion IsNode ns → Ascends edge_order (done ++ rest) → AreDistinct (node_ids ns ++ edge_ids (done ++ rest))
    → AllByRecursion (IsEdge ns) rest → AllByRecursion (EdgeAgrees seen) rest
    → add_elements_of seen kind.Edge i (graph ns done []) (items_of (map edge_data rest)) ≡ Ok (graph ns (done ++ rest) [])
edges_back seen i ns done [] are up apart each agree = ap (λ es. Ok (graph ns es [])) (sym (append-nil done))
edges_back seen i ns done (e ∷ rest) are up apart each agree =
    let g = graph ns done [] in
    let ds = items_of (map edge_data rest) in
    let whole : (done ++ e ∷ []) ++ rest ≡ done ++ e ∷ rest = append_assoc done (e ∷ []) rest in
    let ids : ids_of g ≡ node_ids ns ++ edge_ids done = append-nil (node_ids ns ++ edge_ids done) in
    let fresh : is_among (ids_of g) e.id ≡ false = ap (λ l. is_among l e.id) ids ∙ fresh_next (λ d. d.id) (node_ids ns) done e rest apart in
    let one : add_edge_of seen g (element_of kind.Edge (edge_data e)) ≡ Ok (graph ns (done ++ e ∷ []) []) =
    bound (edge_of g (element_of kind.Edge (edge_data e))) e (λ d. agreeing seen d.id (EdgeShape d.from d.to) (with_edge g d)) (edge_back g e are each.0 fresh)
    ∙ rw agree.0 (ap (λ es. Ok (graph ns es [])) (with_item-last edge_order done e rest up)) in
    ap (λ r. located (record { part = part_of kind.Edge; index = i }) r >>= λ more. add_elements_of seen kind.Edge (i + 1) more ds) one
    ∙ edges_back seen (i + 1) ns (done ++ e ∷ []) rest are (subst (Ascends edge_order) (sym whole) up) (subst (λ es. AreDistinct (node_ids ns ++ edge_ids es)) (sym whole) apart) each.1 agree.1
    ∙ ap (λ es. Ok (graph ns es [])) whole

paths_back : (seen : Seen) (i : ℕ) (ns : List Node) (es : List Edge) (done rest : List Path) → AllByRecursion IsNode ns → AllByRecursion Bounded es → Ascends path_order (done ++ rest)
    → AreDistinct ((node_ids ns ++ edge_ids es) ++ path_ids (done ++ rest)) → AllByRecursion (IsPath ns es) rest → AllByRecursion (PathAgrees seen) rest
    → add_elements_of seen kind.Path i (graph ns es done) (items_of (map path_data rest)) ≡ Ok (graph ns es (done ++ rest))
paths_back seen i ns es done [] are bounds up apart each agree = ap (λ ps. Ok (graph ns es ps)) (sym (append-nil done))
paths_back seen i ns es done (p ∷ rest) are bounds up apart each agree =
    let g = graph ns es done in
    let ds = items_of (map path_data rest) in
    let whole : (done ++ p ∷ []) ++ rest ≡ done ++ p ∷ rest = append_assoc done (p ∷ []) rest in
    let fresh : is_among (ids_of g) p.id ≡ false = fresh_next (λ q. q.id) (node_ids ns ++ edge_ids es) done p rest apart in
    let one : add_path_of seen g (element_of kind.Path (path_data p)) ≡ Ok (graph ns es (done ++ p ∷ [])) =
    bound (path_of g (element_of kind.Path (path_data p))) p (λ q. agreeing seen q.id (PathShape q.walk) (with_path g q)) (path_back g p are bounds each.0 fresh)
    ∙ rw agree.0 (ap (λ ps. Ok (graph ns es ps)) (with_item-last path_order done p rest up)) in
    ap (λ r. located (record { part = part_of kind.Path; index = i }) r >>= λ more. add_elements_of seen kind.Path (i + 1) more ds) one
    ∙ paths_back seen (i + 1) ns es (done ++ p ∷ []) rest are bounds (subst (Ascends path_order) (sym whole) up) (subst (λ ps. AreDistinct ((node_ids ns ++ edge_ids es) ++ path_ids ps)) (sym whole) apart) each.1 agree.1
    ∙ ap (λ ps. Ok (graph ns es ps)) whole

-- ---- the whole

abbrev lists : PropertyGraph → FileLists
lists g = record { nodes = items_of (map node_data g.nodes); edges = items_of (map edge_data g.edges); paths = items_of (map path_data g.paths) }

lists_back : (seen : Seen) (g : PropertyGraph) → IsGraph g → AgreesWith seen g → graph_of_lists seen (lists g) ≡ Ok g
lists_back seen g h agree =
    let l = lists g in
    let apart : AreDistinct (node_ids g.nodes ++ edge_ids g.edges) = distinct_front (node_ids g.nodes ++ edge_ids g.edges) (path_ids g.paths) h.distinct in
    bound (add_elements_of seen kind.Node 0 empty_graph l.nodes) (graph g.nodes [] []) (λ nodes. add_elements_of seen kind.Edge 0 nodes l.edges >>= λ edges. add_elements_of seen kind.Path 0 edges l.paths)
    (nodes_back seen 0 [] g.nodes h.nodes_ascend (distinct_front (node_ids g.nodes) (edge_ids g.edges) apart) h.nodes agree.nodes)
    ∙ bound (add_elements_of seen kind.Edge 0 (graph g.nodes [] []) l.edges) (graph g.nodes g.edges []) (λ edges. add_elements_of seen kind.Path 0 edges l.paths)
    (edges_back seen 0 g.nodes [] g.edges h.nodes h.edges_ascend apart h.edges agree.edges)
    ∙ paths_back seen 0 g.nodes g.edges [] g.paths h.nodes (edges_bounded g.nodes h.nodes g.edges h.edges) h.paths_ascend h.distinct h.paths agree.paths

counted : {X : Type 0} (f : X → Data) (xs : List X) → items_len (items_of (map f xs)) ≡ length xs
counted f [] = refl
counted f (x ∷ xs) = omega (arith, counted f xs)

few_back : (seen : Seen) (g : PropertyGraph) → IsGraph g → element_count g ≤ 1000000 → AgreesWith seen g → graph_of_few seen (lists g) ≡ Ok g
few_back seen g h few agree =
    let total : ℕ = items_len (lists g).nodes + items_len (lists g).edges + items_len (lists g).paths in
    let count : total ≡ element_count g = ap₂ (λ a b. a + b) (ap₂ (λ a b. a + b) (counted node_data g.nodes) (counted edge_data g.edges)) (counted path_data g.paths) in
    let within : nat_le (element_count g) most_elements ≡ true = grind (arith, nat_tests) in
    rw (count, within) (lists_back seen g h agree)

value_back : (g : PropertyGraph) → IsGraph g → value_of (canonical_text g) ≡ Some (graph_data g)
value_back g h = rw (is_utf8-from_IsUtf8 (canonical_text g) (IsUtf8-canonical_text g h)) (read-canonical_text g h)

pub file_graph-canonical_text : (seen : Seen) (g : PropertyGraph) → IsGraph g → element_count g ≤ 1000000 → graph_agrees seen g ≡ true → file_graph seen (canonical_text g) ≡ Ok g
file_graph-canonical_text seen g h few agree =
    bound (or_refused NotJson (value_of (canonical_text g))) (graph_data g) (graph_of_data seen) (ap (or_refused NotJson) (value_back g h))
    ∙ few_back seen g h few (agrees_by_lists seen g agree)
