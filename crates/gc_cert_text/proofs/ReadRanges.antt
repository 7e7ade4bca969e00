-- What is read of a certificate has numbers in range, and graphs that are not too large.
use Rattle.std.proofs.Common.{◌≡◌, ℕ, ◌+◌, ◌^◌, ◌<◌, ◌≤◌, Bool, true, false, cond, if◌then◌else◌, nat_le, nat_lt, List, [], ◌∷◌, length, map, Option, Some, None, Result, Ok, Err, refl, sym, ap, ◌∙◌, subst, arith, codes}
use Rattle.std.proofs.lemmas.Bool.Decides.{nat_tests}
use Rattle.std.proofs.lemmas.List.{length-append}
use Rattle.std.specs.List.{AllByRecursion, filter}
use Rattle.std.specs.Ordering.{is_gt, is_lt}
use Rattle.std.specs.Str.Parse.{digits_value}
use Rattle.std.specs.declared.cmp.Ordering.{Ordering}
use Rattle.std.specs.declared.cmp.Ordering.TheVariants.{Less, Equal, Greater}
use Rattle.gc_automata.specs.Moves.{Segment}
use Rattle.gc_base.specs.Ascending.{with_item}
use Rattle.gc_base.specs.declared.walk.Step.{Step}
use Rattle.gc_base.specs.declared.walk.Walk.{Walk}
use Rattle.gc_cert.specs.declared.document.Potential.{Potential}
use Rattle.gc_cert.specs.declared.document.WalkDoc.{WalkDoc}
use Rattle.gc_json.specs.CanonicalText.{element_count}
use Rattle.gc_json.specs.FileElements.{Seen, add_element_of, add_values_of, agreeing, edge_of, node_of, path_of}
use Rattle.gc_json.specs.ElementValues.{ElementValues, element_of}
use Rattle.gc_json.specs.Gathering.{all_or_first, data_of}
use Rattle.gc_json.specs.GraphFiles.{FileLists, add_elements_of, graph_of_data, graph_of_few, graph_of_lists, lists_of, located, most_elements, part_of, whole}
use Rattle.gc_json.specs.JsonValues.{id_of, largest_id}
use Rattle.gc_json.specs.WalkItems.{id_on_walk, ids_on_walk, number_of, steps_from, walk_from, walk_of}
use Rattle.gc_json.specs.declared.refusal.Spot.{Spot}
use Rattle.gc_ppg.specs.Built.{with_edge, with_node, with_path}
use Rattle.gc_ppg.specs.Shapes.{agrees}
use Rattle.gc_ppg.specs.declared.shape.Kind.{Kind}
use Rattle.gc_ppg.specs.declared.shape.Kind.TheVariants as kind
use Rattle.gc_prod.specs.declared.moves.By.{By}
use Rattle.gc_prod.specs.declared.moves.By.TheVariants as by
use Rattle.gc_prod.specs.declared.moves.RunMove.{RunMove}
use Rattle.gc_spec.specs.Coherence.{ElementShape}
use Rattle.gc_spec.specs.PropertyGraph.{IsId, PropertyGraph, edge_order, empty_graph, node_order, path_order}
use Rattle.serde_json.specs.Data.{Data, Items, item, no_items}
use Rattle.serde_json.specs.Events.{items_len}
use Rattle.serde_json.specs.Find.{as_str, at, get}
use Rattle.gc_cert_text.specs.Graphs.{graph_in}
use Rattle.gc_cert_text.specs.Numbers.{by_of, cost_below, cost_in, cost_of_text, id_in, move_in, potential_in, small_in, small_of, walk_at, walk_doc_in}
use Rattle.gc_cert_text.specs.Options.{◌>>=◌, array_at, each_of, if_so, list_at}
use Rattle.gc_cert_text.specs.SegmentsOfGraphs.{are_segments_of, is_name, is_segment_cost, name_in, segment_cost_in, segment_in, segments_in, view_in}
use Rattle.gc_cert_text.specs.WritableSearches.{IsWritableBy, IsWritableMove, IsWritablePotential, IsWritableSegment, IsWritableStep, IsWritableWalk, IsWritableWalkDoc}
use Rattle.gc_cert_text.proofs.Formed.{passed, was_there, went, went_on}
use Rattle.gc_cert_text.proofs.FoundLaws.{was_found}
use Rattle.std.proofs.lemmas.Bool.{and_parts}

-- ---- lists

each_told : {X : Type 0} (read : Data → Option X) (P : X → Type 0) → ((d : Data) (x : X) → read d ≡ Some x → P x) → (ds : Items) (xs : List X) → each_of read ds ≡ Some xs → AllByRecursion P xs
each_told read P told no_items [] h = tt
each_told read P told no_items (x ∷ xs) h = absurd (cc)
each_told read P told (item d ds) xs h =
    let first = went_on (read d) _ xs h in
    let rest = went_on (each_of read ds) _ xs first.2 in
    let same : first.0 ∷ rest.0 ≡ xs = cc in
    subst (AllByRecursion P) same (told d first.0 first.1, each_told read P told ds rest.0 rest.1)

pub listed : {X : Type 0} (read : Data → Option X) (P : X → Type 0) → ((d : Data) (x : X) → read d ≡ Some x → P x) → (key : List ℕ) (d : Data) (xs : List X) → list_at read key d ≡ Some xs → AllByRecursion P xs
listed read P told key d xs h = let items = went_on (array_at key d) (each_of read) xs h in each_told read P told items.0 xs items.2

-- ---- numbers

id_bounded : (n id : ℕ) → id_of n ≡ Some id → IsId id
id_bounded n id h =
    let is = passed (λ m. nat_le m largest_id) n id h in
    let small : n ≤ 9007199254740991 = grind (arith, nat_tests, is.0) in
    subst IsId is.1 small

pub id_read : (d : Data) (id : ℕ) → id_in d ≡ Some id → IsId id
id_read d id h = let number = went_on (number_of d) id_of id h in id_bounded number.0 id number.2

small_read : (d : Data) (n : ℕ) → small_in d ≡ Some n → n < 2 ^ 32
small_read d n h =
    let number = went_on (number_of d) small_of n h in
    let is = passed (λ m. nat_le m 4294967295) number.0 n number.2 in
    let small : number.0 < 2 ^ 32 = grind (arith, nat_tests, is.0) in
    subst (λ m. m < 2 ^ 32) is.1 small

pub there_if : {X : Type 0} (b : Bool) (o : Option X) (x : X) → (if b then o else None) ≡ Some x → o ≡ Some x
there_if true o x h = h
there_if false o x h = absurd (cc)

cost_read : (d : Data) (c : ℕ) → cost_in d ≡ Some c → c < 2 ^ 127
cost_read d c h =
    let text = went_on (as_str d) cost_of_text c h in
    let below = there_if (_) (cost_below (digits_value 10 text.0)) c text.2 in
    let is = passed (λ m. nat_lt m (2 ^ 127)) (digits_value 10 text.0) c below in
    let small : digits_value 10 text.0 < 2 ^ 127 = grind (arith, nat_tests, is.0) in
    subst (λ m. m < 2 ^ 127) is.1 small

-- ---- potentials, moves and walks

pub potential_read : (d : Data) (q : Potential) → potential_in d ≡ Some q → IsWritablePotential q
potential_read d q h =
    let node = went_on (at 0 d >>= id_in) _ q h in
    let state = went_on (at 1 d >>= small_in) _ q node.2 in
    let cost = went_on (at 2 d >>= cost_in) _ q state.2 in
    let its_node = went_on (at 0 d) id_in node.0 node.1 in
    let its_state = went_on (at 1 d) small_in state.0 state.1 in
    let its_cost = went_on (at 2 d) cost_in cost.0 cost.1 in
    let same : record { node = node.0; state = state.0; cost = cost.0 } ≡ q = cc in
    subst IsWritablePotential same
    (record { node = id_read its_node.0 node.0 its_node.2; state = small_read its_state.0 state.0 its_state.2; cost = cost_read its_cost.0 cost.0 its_cost.2 })

by_read : (o p : Option Data) (b : By) → by_of o p ≡ Some b → IsWritableBy b
by_read (Some edge) p b h = let id = went_on (id_in edge) (λ e. Some (by.Edge e)) b h in let same : by.Edge id.0 ≡ b = cc in subst IsWritableBy same (id_read edge id.0 id.1)
by_read None (Some segment) b h =
    let number = went_on (small_in segment) (λ i. Some (by.Segment i)) b h in
    let same : by.Segment number.0 ≡ b = cc in
    subst IsWritableBy same (small_read segment number.0 number.1)
by_read None None b h = let same : by.Nothing ≡ b = cc in subst IsWritableBy same tt

move_read : (d : Data) (r : RunMove) → move_in d ≡ Some r → IsWritableMove r
move_read d r h =
    let gone = went_on (by_of (get (codes "edge") d) (get (codes "segment") d)) _ r h in
    let to = went_on (get (codes "to") d >>= small_in) _ r gone.2 in
    let its = went_on (get (codes "to") d) small_in to.0 to.1 in
    let same : record { by = gone.0; to = to.0 } ≡ r = cc in
    subst IsWritableMove same (record { way = by_read (get (codes "edge") d) (get (codes "segment") d) gone.0 gone.1; to = small_read its.0 to.0 its.2 })

on_walk_read : (d : Data) (id : ℕ) → id_on_walk d ≡ Ok id → IsId id
on_walk_read d id h = let number = went_on (number_of d) id_of id (was_there _ (number_of d >>= id_of) id h) in id_bounded number.0 id number.2

ids_read : (ds : List Data) (ids : List ℕ) → all_or_first (map id_on_walk ds) ≡ Ok ids → AllByRecursion IsId ids
ids_read [] [] h = tt
ids_read [] (x ∷ xs) h = absurd (cc)
ids_read (d ∷ ds) ids h =
    let first = went (id_on_walk d) _ ids h in
    let rest = went (all_or_first (map id_on_walk ds)) _ ids first.2 in
    let same : first.0 ∷ rest.0 ≡ ids = cc in
    subst (AllByRecursion IsId) same (on_walk_read d first.0 first.1, ids_read ds rest.0 rest.1)

steps_read : (ids : List ℕ) (steps : List Step) → AllByRecursion IsId ids → steps_from ids ≡ Ok steps → AllByRecursion IsWritableStep steps
steps_read [] [] each h = tt
steps_read [] (s ∷ ss) each h = absurd (cc)
steps_read (edge ∷ []) steps each h = absurd (cc)
steps_read (edge ∷ node ∷ ids) steps each h =
    let rest = went (steps_from ids) _ steps h in
    let same : record { edge = edge; node = node } ∷ rest.0 ≡ steps = cc in
    subst (AllByRecursion IsWritableStep) same (record { edge = each.0; node = each.1.0 }, steps_read ids rest.0 each.1.1 rest.1)

walk_from_read : (ids : List ℕ) (w : Walk) → AllByRecursion IsId ids → walk_from ids ≡ Ok w → IsWritableWalk w
walk_from_read [] w each h = absurd (cc)
walk_from_read (start ∷ ids) w each h =
    let steps = went (steps_from ids) _ w h in
    let same : record { start = start; steps = steps.0 } ≡ w = cc in
    subst IsWritableWalk same (record { start = each.0; steps = steps_read ids steps.0 each.1 steps.1 })

walk_read : (key : List ℕ) (d : Data) (w : Walk) → walk_at key d ≡ Some w → IsWritableWalk w
walk_read key d w h =
    let items = went_on (array_at key d) _ w h in
    let ids = went (ids_on_walk items.0) walk_from w (was_found (walk_of items.0) w items.2) in
    walk_from_read ids.0 w (ids_read (data_of items.0) ids.0 ids.1) ids.2

pub walk_doc_read : (d : Data) (w : WalkDoc) → walk_doc_in d ≡ Some w → IsWritableWalkDoc w
walk_doc_read d w h =
    let cost = went_on (get (codes "cost") d >>= cost_in) _ w h in
    let run = went_on (list_at move_in (codes "run") d) _ w cost.2 in
    let walk = went_on (walk_at (codes "walk") d) _ w run.2 in
    let its_cost = went_on (get (codes "cost") d) cost_in cost.0 cost.1 in
    let same : record { cost = cost.0; run = run.0; walk = walk.0 } ≡ w = cc in
    subst IsWritableWalkDoc same
    (record {
      cost = cost_read its_cost.0 cost.0 its_cost.2;
      run = listed move_in IsWritableMove move_read (codes "run") d run.0 run.1;
      walk = walk_read (codes "walk") d walk.0 walk.1;
    })

-- ---- segments

view_read : (d : Data) (name : List ℕ) → view_in d ≡ Some name → is_name name ≡ true
view_read d name h =
    let value = went_on (get (codes "view") d) name_in name h in
    let text = went_on (as_str value.0) (if_so is_name) name value.2 in
    let is = passed is_name text.0 name text.2 in
    subst (λ n. is_name n ≡ true) is.1 is.0

segment_read : (d : Data) (s : Segment) → segment_in d ≡ Some s → IsWritableSegment s
segment_read d s h =
    let view = went_on (view_in d) _ s h in
    let walk = went_on (walk_at (codes "walk") d) _ s view.2 in
    let cost = went_on (get (codes "cost") d >>= segment_cost_in) _ s walk.2 in
    let value = went_on (get (codes "cost") d) segment_cost_in cost.0 cost.1 in
    let number = went_on (cost_in value.0) (if_so is_segment_cost) cost.0 value.2 in
    let is = passed is_segment_cost number.0 cost.0 number.2 in
    let most = (and_parts (nat_le 1 number.0) (nat_le number.0 9223372036854775807) is.0).1 in
    let small : number.0 ≤ 9223372036854775807 = grind (arith, nat_tests, most) in
    let same : record { view = view.0; walk = walk.0; cost = cost.0 } ≡ s = cc in
    subst IsWritableSegment same (record { view = view_read d view.0 view.1; cost = subst (λ c. c ≤ 9223372036854775807) is.1 small })

pub segments_read : (g : PropertyGraph) (d : Data) (segments : List Segment) → segments_in g d ≡ Some segments → AllByRecursion IsWritableSegment segments
segments_read g d segments h =
    let list = went_on (list_at segment_in (codes "segments") d) (if_so (are_segments_of g)) segments h in
    let is = passed (are_segments_of g) list.0 segments list.2 in
    subst (AllByRecursion IsWritableSegment) is.1 (listed segment_in IsWritableSegment segment_read (codes "segments") d list.0 list.1)

-- ---- graphs

-- those below an item and those above it are no more than all
sides : {X : Type 0} (cmp : X → X → Ordering) (xs : List X) (x : X) → length (filter (λ y. is_lt (cmp y x)) xs) + length (filter (λ y. is_gt (cmp y x)) xs) ≤ length xs
sides cmp [] x = omega arith
sides cmp (y ∷ xs) x = one (cmp y x) (sides cmp xs x)
  where
    one : (o : Ordering) → length (filter (λ z. is_lt (cmp z x)) xs) + length (filter (λ z. is_gt (cmp z x)) xs) ≤ length xs
        → length (cond (is_lt o) (y ∷ filter (λ z. is_lt (cmp z x)) xs) (filter (λ z. is_lt (cmp z x)) xs))
        + length (cond (is_gt o) (y ∷ filter (λ z. is_gt (cmp z x)) xs) (filter (λ z. is_gt (cmp z x)) xs)) ≤ length (y ∷ xs)
    one Less h = omega (arith, h)
    one Equal h = omega (arith, h)
    one Greater h = omega (arith, h)

one_longer : {X : Type 0} (cmp : X → X → Ordering) (xs : List X) (x : X) → length (with_item cmp xs x) ≤ length xs + 1
one_longer cmp xs x =
    let front = filter (λ y. is_lt (cmp y x)) xs in
    let back = filter (λ y. is_gt (cmp y x)) xs in
    omega (arith, length-append front (x ∷ back), sides cmp xs x)

-- what is given where a test passes was given, and the test has passed
given_if : {X F : Type 0} (b : Bool) (r : Result X F) (x : X) (e : F) → (if b then r else Err e) ≡ Ok x → (b ≡ true) × (r ≡ Ok x)
given_if true r x e h = (refl, h)
given_if false r x e h = absurd (cc)

was_agreed : {X : Type 0} (seen : Seen) (id : ℕ) (shape : ElementShape) (x y : X) → agreeing seen id shape x ≡ Ok y → x ≡ y
was_agreed seen id shape x y h = let given = (given_if (agrees seen id shape) (Ok x) y _ h).1 in cc

added : (seen : Seen) (k : Kind) (g more : PropertyGraph) (e : ElementValues) → add_values_of seen k g e ≡ Ok more → element_count more ≤ element_count g + 1
added seen kind.Node g more e h =
    let n = went (node_of g e) _ more h in
    let same : with_node g n.0 ≡ more = was_agreed seen _ _ (with_node g n.0) more n.2 in
    subst (λ x. element_count x ≤ element_count g + 1) same (omega (arith, one_longer node_order g.nodes n.0))
added seen kind.Edge g more e h =
    let n = went (edge_of g e) _ more h in
    let same : with_edge g n.0 ≡ more = was_agreed seen _ _ (with_edge g n.0) more n.2 in
    subst (λ x. element_count x ≤ element_count g + 1) same (omega (arith, one_longer edge_order g.edges n.0))
added seen kind.Path g more e h =
    let n = went (path_of g e) _ more h in
    let same : with_path g n.0 ≡ more = was_agreed seen _ _ (with_path g n.0) more n.2 in
    subst (λ x. element_count x ≤ element_count g + 1) same (omega (arith, one_longer path_order g.paths n.0))

-- what is given where only refusals are told otherwise was given before
was_kept : {A F G : Type 0} (tell : Result A F → Result A G) → ((y : A) → tell (Ok y) ≡ Ok y) → ((e : F) (x : A) → tell (Err e) ≡ Ok x → ⊥) → (r : Result A F) (x : A) → tell r ≡ Ok x → r ≡ Ok x
was_kept tell given refused (Ok y) x h = let whole : Ok y ≡ Ok x = sym (given y) ∙ h in let same : y ≡ x = cc in ap Ok same
was_kept tell given refused (Err e) x h = absurd (refused e x h)

all_added : (seen : Seen) (k : Kind) (i : ℕ) (g more : PropertyGraph) (ds : Items) → add_elements_of seen k i g ds ≡ Ok more → element_count more ≤ element_count g + items_len ds
all_added seen k i g more no_items h = let same : g ≡ more = cc in subst (λ x. element_count x ≤ element_count g + 0) same (omega arith)
all_added seen k i g more (item d ds) h =
    let spot : Spot = record { part = part_of k; index = i } in
    let first = went (located spot (add_element_of seen k g d)) _ more h in
    let one = added seen k g first.0 (element_of k d) (was_kept (located spot) (λ y. refl) (λ e x h. absurd (cc)) (add_element_of seen k g d) first.0 first.1) in
    omega (arith, one, all_added seen k (i + 1) first.0 more ds first.2)

few_read : (l : FileLists) (g : PropertyGraph) → graph_of_few [] l ≡ Ok g → element_count g ≤ 1000000
few_read l g h =
    let total : ℕ = items_len l.nodes + items_len l.edges + items_len l.paths in
    let given = given_if (nat_le total most_elements) (graph_of_lists [] l) g _ h in
    let few : total ≤ 1000000 = grind (arith, nat_tests, given.0) in
    let nodes = went (add_elements_of [] kind.Node 0 empty_graph l.nodes) _ g given.1 in
    let edges = went (add_elements_of [] kind.Edge 0 nodes.0 l.edges) _ g nodes.2 in
    omega (
      arith,
      few,
      all_added [] kind.Node 0 empty_graph nodes.0 l.nodes nodes.1,
      all_added [] kind.Edge 0 nodes.0 edges.0 l.edges edges.1,
      all_added [] kind.Path 0 edges.0 g l.paths edges.2,
    )

pub graph_read : (d : Data) (g : PropertyGraph) → graph_in d ≡ Some g → element_count g ≤ 1000000
graph_read d g h =
    let value = went_on (get (codes "graph") d) _ g h in
    let lists = went (located whole (lists_of value.0)) (graph_of_few []) g (was_found (graph_of_data [] value.0) g value.2) in
    few_read lists.0 g lists.2
