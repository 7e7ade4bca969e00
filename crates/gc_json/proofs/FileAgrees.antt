-- The graph of a file agrees with what identities stand for in the graphs of earlier files.
use Rattle.std.proofs.Common.{◌≡◌, ℕ, ◌+◌, Bool, true, false, cond, ◌&&◌, List, [], ◌∷◌, ◌++◌, map, Result, Ok, Err, refl, subst}
use Rattle.std.specs.declared.cmp.Ordering.{Ordering}
use Rattle.std.specs.Ordering.{is_lt, is_gt}
use Rattle.std.specs.List.{filter, list_all}
use Rattle.std.specs.Prelude.{if◌then◌else◌, IfOk}
use Rattle.gc_base.specs.Ascending.{with_item}
use Rattle.gc_spec.specs.Coherence.{ElementShape, NodeShape, EdgeShape, PathShape}
use Rattle.gc_spec.specs.PropertyGraph.{PropertyGraph, Node, Edge, Path, empty_graph, node_order, edge_order, path_order}
use Rattle.gc_ppg.specs.Built.{with_node, with_edge, with_path}
use Rattle.gc_ppg.specs.Shapes.{agrees, graph_agrees}
use Rattle.gc_ppg.specs.declared.shape.Kind.{Kind}
use Rattle.gc_ppg.specs.declared.shape.Kind.TheVariants as kind
use Rattle.serde_json.specs.Data.{Data, Items, no_items, item}
use Rattle.gc_json.specs.ElementValues.{element_of}
use Rattle.gc_json.specs.FileElements.{Seen, add_element_of, node_of, edge_of, path_of, agreeing}
use Rattle.gc_json.specs.GraphFiles.{FileLists, located, part_of, add_elements_of, graph_of_lists, graph_of_few, graph_of_data, file_graph, lists_of, whole, Loads}
use Rattle.gc_json.specs.JsonValues.{value_of}
use Rattle.gc_json.specs.Reading.{◌>>=◌, or_refused}
use Rattle.gc_json.specs.declared.fault.Fault.{Fault}
use Rattle.gc_json.specs.declared.fault.Fault.TheVariants.{Incoherent}
use Rattle.gc_json.specs.declared.refusal.GraphRefusal.{GraphRefusal}
use Rattle.gc_json.specs.declared.refusal.GraphRefusal.TheVariants as refusal
use Rattle.gc_json.specs.declared.refusal.Spot.{Spot}

pub both : (a b : Bool) → (a && b) ≡ true → (a ≡ true) × (b ≡ true)
both true b h = (refl, h)
both false b h = absurd (cc)

and_true : (a b : Bool) → a ≡ true → b ≡ true → (a && b) ≡ true
and_true true b h k = k
and_true false b h k = absurd (cc)

module _ {X : Type 0} (p : X → Bool) where
  all-append : (xs ys : List X) → list_all p xs ≡ true → list_all p ys ≡ true → list_all p (xs ++ ys) ≡ true
  all-append [] ys h k = k
  all-append (x ∷ xs) ys h k = let hs = both (p x) (list_all p xs) h in and_true (p x) (list_all p (xs ++ ys)) hs.0 (all-append xs ys hs.1 k)

  pub all-parts : (xs ys : List X) → list_all p (xs ++ ys) ≡ true → (list_all p xs ≡ true) × (list_all p ys ≡ true)
  all-parts [] ys h = (refl, h)
  all-parts (x ∷ xs) ys h = let hs = both (p x) (list_all p (xs ++ ys)) h in let rest = all-parts xs ys hs.1 in (and_true (p x) (list_all p xs) hs.0 rest.0, rest.1)

module _ {X Y : Type 0} (p : Y → Bool) (f : X → Y) where
  all-map-filter : (q : X → Bool) (xs : List X) → list_all p (map f xs) ≡ true → list_all p (map f (filter q xs)) ≡ true
  all-map-filter q [] h = refl
  all-map-filter q (x ∷ xs) h =
      let hs = both (p (f x)) (list_all p (map f xs)) h in
      let rest = all-map-filter q xs hs.1 in
      elim (q x) as (λ b. list_all p (map f (cond b (x ∷ filter q xs) (filter q xs))) ≡ true) [
        | true ↦ and_true (p (f x)) (list_all p (map f (filter q xs))) hs.0 rest
        | false ↦ rest
      ]

  all-map-append : (xs ys : List X) → list_all p (map f xs) ≡ true → list_all p (map f ys) ≡ true → list_all p (map f (xs ++ ys)) ≡ true
  all-map-append [] ys h k = k
  all-map-append (x ∷ xs) ys h k = let hs = both (p (f x)) (list_all p (map f xs)) h in and_true (p (f x)) (list_all p (map f (xs ++ ys))) hs.0 (all-map-append xs ys hs.1 k)

  all-with_item : (cmp : X → X → Ordering) (xs : List X) (x : X) → list_all p (map f xs) ≡ true → p (f x) ≡ true → list_all p (map f (with_item cmp xs x)) ≡ true
  all-with_item cmp xs x h k =
      all-map-append (filter (λ y. is_lt (cmp y x)) xs) (x ∷ filter (λ y. is_gt (cmp y x)) xs) (all-map-filter (λ y. is_lt (cmp y x)) xs h)
      (and_true (p (f x)) _ k (all-map-filter (λ y. is_gt (cmp y x)) xs h))

-- what is due after another thing is due after something
bound : {A B E : Type 0} (r : Result A E) (f : A → Result B E) (y : B) → ◌≡◌ {A = Result B E} (r >>= f) (Ok y) → (x : A) × (◌≡◌ {A = Result A E} r (Ok x)) × (◌≡◌ {A = Result B E} (f x) (Ok y))
bound (Ok x) f y h = (x, refl, h)
bound (Err e) f y h = absurd (cc)

module _ (seen : Seen) where
  abbrev test : ℕ × ElementShape → Bool
  test s = agrees seen s.0 s.1

  -- the three parts of a graph that agrees
  abbrev Parts : PropertyGraph → Type 0
  Parts g =
      (list_all test (map (λ (n : Node). (n.id, NodeShape)) g.nodes) ≡ true)
      × (list_all test (map (λ (e : Edge). (e.id, EdgeShape e.from e.to)) g.edges) ≡ true)
      × (list_all test (map (λ (p : Path). (p.id, PathShape p.walk)) g.paths) ≡ true)

  whole_of : (g : PropertyGraph) → Parts g → graph_agrees seen g ≡ true
  whole_of g h = all-append test _ _ (all-append test _ _ h.0 h.1) h.2

  passed : {X : Type 0} (b : Bool) (f : Fault) (x y : X) → ◌≡◌ {A = Result X Fault} (if b then Ok x else Err f) (Ok y) → (b ≡ true) × (x ≡ y)
  passed true f x y h = (refl, cc)
  passed false f x y h = absurd (cc)

  tested : {X : Type 0} (id : ℕ) (shape : ElementShape) (x y : X) → ◌≡◌ {A = Result X Fault} (agreeing seen id shape x) (Ok y) → (agrees seen id shape ≡ true) × (x ≡ y)
  tested id shape x y h = passed (agrees seen id shape) (Incoherent id) x y h

  added : (k : Kind) (g more : PropertyGraph) (d : Data) → Parts g → ◌≡◌ {A = Result PropertyGraph Fault} (add_element_of seen k g d) (Ok more) → Parts more
  added kind.Node g more d h due =
      let n = bound (node_of g (element_of kind.Node d)) (λ n. agreeing seen n.id NodeShape (with_node g n)) more due in
      let t = tested n.0.id NodeShape (with_node g n.0) more n.2 in
      subst Parts t.1 (all-with_item test (λ (m : Node). (m.id, NodeShape)) node_order g.nodes n.0 h.0 t.0, h.1, h.2)
  added kind.Edge g more d h due =
      let e = bound (edge_of g (element_of kind.Edge d)) (λ e. agreeing seen e.id (EdgeShape e.from e.to) (with_edge g e)) more due in
      let t = tested e.0.id (EdgeShape e.0.from e.0.to) (with_edge g e.0) more e.2 in
      subst Parts t.1 (h.0, all-with_item test (λ (m : Edge). (m.id, EdgeShape m.from m.to)) edge_order g.edges e.0 h.1 t.0, h.2)
  added kind.Path g more d h due =
      let p = bound (path_of g (element_of kind.Path d)) (λ p. agreeing seen p.id (PathShape p.walk) (with_path g p)) more due in
      let t = tested p.0.id (PathShape p.0.walk) (with_path g p.0) more p.2 in
      subst Parts t.1 (h.0, h.1, all-with_item test (λ (m : Path). (m.id, PathShape m.walk)) path_order g.paths p.0 h.2 t.0)

  unlocated : {A : Type 0} (spot : Spot) (r : Result A Fault) (x : A) → ◌≡◌ {A = Result A GraphRefusal} (located spot r) (Ok x) → ◌≡◌ {A = Result A Fault} r (Ok x)
  unlocated spot (Ok y) x h = cc
  unlocated spot (Err f) x h = absurd (cc)

  all_added : (k : Kind) (i : ℕ) (g more : PropertyGraph) (ds : Items) → Parts g → ◌≡◌ {A = Result PropertyGraph GraphRefusal} (add_elements_of seen k i g ds) (Ok more) → Parts more
  all_added k i g more no_items h due = subst Parts (cc) h
  all_added k i g more (item d ds) h due =
      let one = bound (located (record { part = part_of k; index = i }) (add_element_of seen k g d)) (λ f. add_elements_of seen k (i + 1) f ds) more due in
      all_added k (i + 1) one.0 more ds (added k g one.0 d h (unlocated _ (add_element_of seen k g d) one.0 one.1)) one.2

  of_lists : (l : FileLists) (g : PropertyGraph) → ◌≡◌ {A = Result PropertyGraph GraphRefusal} (graph_of_lists seen l) (Ok g) → Parts g
  of_lists l g due =
      let nodes = bound (add_elements_of seen kind.Node 0 empty_graph l.nodes) (λ h. add_elements_of seen kind.Edge 0 h l.edges >>= λ i. add_elements_of seen kind.Path 0 i l.paths) g due in
      let edges = bound (add_elements_of seen kind.Edge 0 nodes.0 l.edges) (λ i. add_elements_of seen kind.Path 0 i l.paths) g nodes.2 in
      all_added kind.Path 0 edges.0 g l.paths (all_added kind.Edge 0 nodes.0 edges.0 l.edges (all_added kind.Node 0 empty_graph nodes.0 l.nodes (refl, refl, refl) nodes.1) edges.1) edges.2

  of_few : (b : Bool) (l : FileLists) (g : PropertyGraph) → ◌≡◌ {A = Result PropertyGraph GraphRefusal} (if b then graph_of_lists seen l else Err refusal.TooMany) (Ok g) → Parts g
  of_few true l g due = of_lists l g due
  of_few false l g due = absurd (cc)

  of_data : (d : Data) (g : PropertyGraph) → ◌≡◌ {A = Result PropertyGraph GraphRefusal} (graph_of_data seen d) (Ok g) → Parts g
  of_data d g due = let l = bound (located whole (lists_of d)) (graph_of_few seen) g due in of_few _ l.0 g l.2

  file_agrees : (bytes : List ℕ) (g : PropertyGraph) → ◌≡◌ {A = Result PropertyGraph GraphRefusal} (file_graph seen bytes) (Ok g) → graph_agrees seen g ≡ true
  file_agrees bytes g due = let d = bound (or_refused refusal.NotJson (value_of bytes)) (graph_of_data seen) g due in whole_of g (of_data d.0 g d.2)

-- the graph that is loaded agrees with those of earlier files
pub loaded_agrees : (seen : Seen) (bytes : List ℕ) (r : Result PropertyGraph GraphRefusal) → Loads (file_graph seen bytes) r → IfOk r (λ g. graph_agrees seen g ≡ true)
loaded_agrees seen bytes (Ok g) h = file_agrees seen bytes g h
loaded_agrees seen bytes (Err refusal) h = tt
