-- Claims that are those of one graph are gathered to that graph.
use Rattle.std.proofs.Common.{◌≡◌, ◌⊎◌, inl, inr, ⊎_elim, ℕ, Bool, true, false, cond, not, ◌||◌, ◌==◌, List, [], ◌∷◌, ◌++◌, map, fold, find, Option, Some, is_some, refl, sym, ap, ◌∙◌, subst, arith}
use Rattle.std.specs.List.{AllByRecursion, Contains, filter, list_all}
use Rattle.std.specs.Map.{lookup}
use Rattle.std.specs.Ordering.{nat_cmp, on}
use Rattle.std.proofs.lemmas.Bool.{and_parts, eq-eqb, eqb-true}
use Rattle.std.proofs.lemmas.List.Elements.{All-contains, All-from_recursion, Contains-append_left, Contains-append_right, Contains-push_cases, Contains-append_cases}
use Rattle.gc_base.specs.Ascending.{Ascends}
use Rattle.gc_base.specs.declared.walk.Step.{Step}
use Rattle.gc_base.specs.declared.walk.Walk.{Walk}
use Rattle.gc_base.proofs.Search.{AllByRecursion-weaker}
use Rattle.gc_spec.specs.Coherence.{ElementShape, NodeShape, EdgeShape, PathShape}
use Rattle.gc_spec.specs.PropertyGraph.{PropertyGraph, Node, Edge, Path, IsGraph, are_steps_from, edge_at, edge_ids, is_among, is_joined, is_walk, node_at, node_ids, path_at}
use Rattle.gc_ppg.specs.Built.{has_ends}
use Rattle.gc_ppg.proofs.ElementLists.{passes_at}
use Rattle.gc_sets.specs.Agreed.{AreOfOneGraph, claimed_shapes}
use Rattle.gc_sets.specs.Claims.{Claims, IsClaimed, joined, said_of}
use Rattle.gc_sets.specs.Descriptions.{united_node}
use Rattle.gc_sets.specs.Elements.{stands}
use Rattle.gc_sets.specs.Gathered.{IsGathered}
use Rattle.gc_sets.specs.Unions.{united_edge, united_path}
use Rattle.gc_sets.specs.Wholes.{edge_fits, path_fits}
use Rattle.gc_sets.proofs.Assembling.{edge_no_path, no_edge, no_path}
use Rattle.gc_sets.proofs.Coherent.{both_true}
use Rattle.gc_sets.proofs.Finds.{injective, none_after}
use Rattle.gc_sets.proofs.NewIds.{not_in_graph}
use Rattle.gc_sets.proofs.Outcomes.{all_pass}
use Rattle.gc_sets.proofs.Shapes.{not_among}
use Rattle.gc_sets.proofs.ShapesOf.{edge_key, edge_shape, node_key, node_shape, path_key, path_shape}
use Rattle.gc_sets.proofs.Turns.{found-is_among}
use Rattle.gc_sets.proofs.Walks.{joined_found}

-- members of lists
contains_here : {X : Type 0} (x : X) (xs : List X) → Contains (x ∷ xs) x
contains_here x xs = (0, omega arith, refl)

contains_later : {X : Type 0} (y : X) (xs : List X) (x : X) → Contains xs x → Contains (y ∷ xs) x
contains_later y xs x h = Contains-append_right (y ∷ []) xs x h

cons_cases : {X : Type 0} (y : X) (ys : List X) (x : X) → Contains (y ∷ ys) x → (y ≡ x) ⊎ Contains ys x
cons_cases y ys x m =
    ⊎_elim (λ k. ⊎_elim (λ none. absurd (omega (arith, none.1))) (λ e. inl e) (Contains-push_cases [] y x k)) (λ k. inr k) (Contains-append_cases (y ∷ []) ys x m)

of_member : {X : Type 0} (P : X → Type 0) (xs : List X) (x : X) → AllByRecursion P xs → Contains xs x → P x
of_member P xs x h m = All-contains P xs x (All-from_recursion P xs h) m

to_map : {X Y : Type 0} (f : X → Y) (xs : List X) (x : X) → Contains xs x → Contains (map f xs) (f x)
to_map f [] x m = absurd (omega (arith, m.1))
to_map f (y ∷ xs) x m = ⊎_elim (λ e. subst (λ z. Contains (f y ∷ map f xs) (f z)) e (contains_here (f y) (map f xs))) (λ k. contains_later (f y) (map f xs) (f x) (to_map f xs x k)) (cons_cases y xs x m)

from_filter : {X : Type 0} (p : X → Bool) (xs : List X) (x : X) → Contains (filter p xs) x → Contains xs x × (p x ≡ true)
from_filter p [] x m = absurd (omega (arith, m.1))
from_filter {X} p (y ∷ xs) x m =
    let rest : Contains (filter p xs) x → Contains (y ∷ xs) x × (p x ≡ true) = λ k. let r = from_filter p xs x k in (contains_later y xs x r.0, r.1) in
    elim (p y) as (λ t. p y ≡ t → Contains (cond t (y ∷ filter p xs) (filter p xs)) x → Contains (y ∷ xs) x × (p x ≡ true)) [
      | true ↦ λ is k. ⊎_elim (λ e. (subst (Contains (y ∷ xs)) e (contains_here y xs), subst (λ z. p z ≡ true) e is)) rest (cons_cases y (filter p xs) x k)
      | false ↦ λ is k. rest k
    ] refl m

-- what is said of an identity is said by a claim of it, and something is said of what is claimed
module _ {X : Type 0} (unite : X → X → X) (key : X → ℕ) (of : X → ElementShape) (same : (x y : X) → of (unite x y) ≡ of x) where
  first_kept : (x : X) (xs : List X) → of (fold unite x xs) ≡ of x
  first_kept x [] = refl
  first_kept x (y ∷ xs) = first_kept (unite x y) xs ∙ same x y

  joined_first : (xs : List X) (x : X) → joined unite xs ≡ Some x → (y : X) × Contains xs y × (of x ≡ of y)
  joined_first [] x h = absurd (cc h)
  joined_first (y ∷ xs) x h = (y, contains_here y xs, ap of (sym (injective (fold unite y xs) x h)) ∙ first_kept y xs)

  pub said_by : (claims : List X) (id : ℕ) (x : X) → said_of unite key claims id ≡ Some x → (y : X) × Contains claims y × (key y ≡ id) × (of x ≡ of y)
  said_by claims id x h =
      let first = joined_first (filter (λ y. key y == id) claims) x h in
      let from = from_filter (λ y. key y == id) claims first.0 first.1 in
      (first.0, from.0, eqb-true (key first.0) id from.1, first.2)

  is_said : (claims : List X) (id : ℕ) (y : X) → Contains claims y → (key y == id) ≡ true → (x : X) × (said_of unite key claims id ≡ Some x)
  is_said [] id y m t = absurd (omega (arith, m.1))
  is_said (z ∷ claims) id y m t =
      let later = filter (λ y. key y == id) claims in
      elim (key z == id) as (λ b. (key z == id) ≡ b → (x : X) × (joined unite (cond b (z ∷ later) later) ≡ Some x)) [
        | true ↦ λ is. (fold unite z later, refl)
        | false ↦ λ is. ⊎_elim (λ e. absurd (cc (is, ap (λ w. key w == id) e ∙ t))) (λ k. is_said claims id y k t) (cons_cases z claims y m)
      ] refl

  -- each of the gathered is found by its identity
  found_itself : (xs : List X) → Ascends (on key nat_cmp) xs → (x : X) → Contains xs x → find (λ y. key y == key x) xs ≡ Some x
  found_itself [] up x m = absurd (omega (arith, m.1))
  found_itself (y ∷ xs) up x m =
      elim (key y == key x) as (λ b. (key y == key x) ≡ b → cond b (Some y) (find (λ z. key z == key x) xs) ≡ Some x) [
        | true ↦ λ is.
            ⊎_elim (λ e. ap Some e)
            (λ k. let none = none_after key y (key x) xs is up.0 in let some = found_itself xs up.1 x k in absurd (cc (none, some)))
            (cons_cases y xs x m)
        | false ↦ λ is. ⊎_elim (λ e. absurd (cc (is, eq-eqb (key y) (key x) (ap key e)))) (λ k. found_itself xs up.1 x k) (cons_cases y xs x m)
      ] refl

  -- and so it has the shape of a claim
  gathered_by : (claims xs : List X) → IsGathered unite key claims xs → (x : X) → Contains xs x → (y : X) × Contains claims y × (key y ≡ key x) × (of x ≡ of y)
  gathered_by claims xs h x m = said_by claims (key x) x (sym (h.said (key x)) ∙ found_itself xs h.ascend x m)

  -- what is claimed is gathered
  claimed_found : (claims xs : List X) → IsGathered unite key claims xs → (id : ℕ) (y : X) → Contains claims y → (key y == id) ≡ true → (x : X) × (find (λ z. key z == id) xs ≡ Some x)
  claimed_found claims xs h id y m t = let said = is_said claims id y m t in (said.0, h.said id ∙ said.1)

each_of : {X : Type 0} (P : X → Type 0) (xs : List X) → ((x : X) → Contains xs x → P x) → AllByRecursion P xs
each_of P [] f = tt
each_of P (x ∷ xs) f = (f x (contains_here x xs), each_of P xs (λ y m. f y (contains_later x xs y m)))

among_by : (ids : List ℕ) (id : ℕ) → is_among ids id ≡ true → Contains ids id
among_by [] id h = absurd (cc h)
among_by (i ∷ ids) id h =
    elim (i == id) as (λ b. (i == id) ≡ b → (b || is_among ids id) ≡ true → Contains (i ∷ ids) id) [
      | true ↦ λ is k. subst (Contains (i ∷ ids)) (eqb-true i id is) (contains_here i ids)
      | false ↦ λ is k. contains_later i ids id (among_by ids id k)
    ] refl h

from_map : {X Y : Type 0} (f : X → Y) (xs : List X) (y : Y) → Contains (map f xs) y → (x : X) × Contains xs x × (f x ≡ y)
from_map f [] y m = absurd (omega (arith, m.1))
from_map f (x ∷ xs) y m = ⊎_elim (λ e. (x, contains_here x xs, e)) (λ k. let r = from_map f xs y k in (r.0, contains_later x xs r.0 r.1, r.2)) (cons_cases (f x) (map f xs) y m)

either_true : (a b : Bool) → (a || b) ≡ true → (a ≡ true) ⊎ (b ≡ true)
either_true true b h = inl h
either_true false b h = inr h

beside : {X : Type 0} (P Q R : X → Type 0) → ((x : X) → P x → Q x → R x) → (xs : List X) → AllByRecursion P xs → AllByRecursion Q xs → AllByRecursion R xs
beside P Q R f [] h k = tt
beside P Q R f (x ∷ xs) h k = (f x h.0 k.0, beside P Q R f xs h.1 k.1)

abbrev source_of : ElementShape → ℕ
source_of NodeShape = 0
source_of (EdgeShape from to) = from
source_of (PathShape walk) = 0

abbrev target_of : ElementShape → ℕ
target_of NodeShape = 0
target_of (EdgeShape from to) = to
target_of (PathShape walk) = 0

abbrev walk_in : ElementShape → Walk
walk_in NodeShape = record { start = 0; steps = [] }
walk_in (EdgeShape from to) = record { start = 0; steps = [] }
walk_in (PathShape walk) = walk

module _ (c : Claims) (agreed : AreOfOneGraph c) (ns : List Node) (es : List Edge) (ps : List Path)
    (nodes : IsGathered united_node node_key c.nodes ns) (edges : IsGathered united_edge edge_key c.edges es) (paths : IsGathered united_path path_key c.paths ps) where
  abbrev shapes : List (ℕ × ElementShape)
  shapes = claimed_shapes c

  abbrev shape : ℕ → Option ElementShape
  shape id = lookup (λ other. other == id) shapes

  abbrev of_nodes : List (ℕ × ElementShape)
  of_nodes = map (λ (n : Node). (n.id, NodeShape)) c.nodes

  abbrev of_edges : List (ℕ × ElementShape)
  of_edges = map (λ (e : Edge). (e.id, EdgeShape e.from e.to)) c.edges

  abbrev of_paths : List (ℕ × ElementShape)
  of_paths = map (λ (p : Path). (p.id, PathShape p.walk)) c.paths

  node_entry : (n : Node) → Contains c.nodes n → Contains shapes (n.id, NodeShape)
  node_entry n m = Contains-append_left (of_nodes ++ of_edges) of_paths (n.id, NodeShape) (Contains-append_left of_nodes of_edges (n.id, NodeShape) (to_map (λ (n : Node). (n.id, NodeShape)) c.nodes n m))

  edge_entry : (e : Edge) → Contains c.edges e → Contains shapes (e.id, EdgeShape e.from e.to)
  edge_entry e m =
      Contains-append_left (of_nodes ++ of_edges) of_paths (e.id, EdgeShape e.from e.to)
      (Contains-append_right of_nodes of_edges (e.id, EdgeShape e.from e.to) (to_map (λ (e : Edge). (e.id, EdgeShape e.from e.to)) c.edges e m))

  path_entry : (p : Path) → Contains c.paths p → Contains shapes (p.id, PathShape p.walk)
  path_entry p m = Contains-append_right (of_nodes ++ of_edges) of_paths (p.id, PathShape p.walk) (to_map (λ (p : Path). (p.id, PathShape p.walk)) c.paths p m)

  -- an identity that is claimed stands for what each claim says
  first_entry : (all : List (ℕ × ElementShape)) (id : ℕ) (s : ElementShape) → ((e : ℕ × ElementShape) → Contains all e → e.0 ≡ id → e.1 ≡ s) → Contains all (id, s)
      → lookup (λ other. other == id) all ≡ Some s
  first_entry [] id s f m = absurd (omega (arith, m.1))
  first_entry (e ∷ all) id s f m =
      elim (e.0 == id) as (λ b. (e.0 == id) ≡ b → cond b (Some e.1) (lookup (λ other. other == id) all) ≡ Some s) [
        | true ↦ λ is. ap Some (f e (contains_here e all) (eqb-true e.0 id is))
        | false ↦ λ is.
            ⊎_elim (λ k. absurd (cc (is, eq-eqb e.0 id (ap (λ (x : ℕ × ElementShape). x.0) k)))) (λ k. first_entry all id s (λ d n. f d (contains_later e all d n)) k) (cons_cases e all (id, s) m)
      ] refl

  shape_is : (id : ℕ) (s : ElementShape) → Contains shapes (id, s) → shape id ≡ Some s
  shape_is id s m = first_entry shapes id s (λ e n same. agreed.one e (id, s) n m same) m

  nodes_shaped : AllByRecursion (λ n. shape n.id ≡ Some NodeShape) ns
  nodes_shaped =
      each_of _ ns (λ n m.
      let by = gathered_by united_node node_key node_shape (λ x y. refl) c.nodes ns nodes n m in
      ap shape (sym by.2) ∙ shape_is by.0.id NodeShape (node_entry by.0 by.1))

  edges_shaped : AllByRecursion (λ e. shape e.id ≡ Some (EdgeShape e.from e.to)) es
  edges_shaped =
      each_of _ es (λ e m.
      let by = gathered_by united_edge edge_key edge_shape (λ x y. refl) c.edges es edges e m in
      ap shape (sym by.2) ∙ (shape_is by.0.id (edge_shape by.0) (edge_entry by.0 by.1) ∙ ap Some (sym by.3)))

  paths_shaped : AllByRecursion (λ p. shape p.id ≡ Some (PathShape p.walk)) ps
  paths_shaped =
      each_of _ ps (λ p m.
      let by = gathered_by united_path path_key path_shape (λ x y. refl) c.paths ps paths p m in
      ap shape (sym by.2) ∙ (shape_is by.0.id (path_shape by.0) (path_entry by.0 by.1) ∙ ap Some (sym by.3)))

  -- a node that is claimed is among them
  node_kept : (id : ℕ) → is_among (node_ids c.nodes) id ≡ true → is_among (node_ids ns) id ≡ true
  node_kept id h =
      let from = from_map node_key c.nodes id (among_by (node_ids c.nodes) id h) in
      let found = claimed_found united_node node_key node_shape (λ x y. refl) c.nodes ns nodes id from.0 from.1 (eq-eqb from.0.id id from.2) in
      sym (found-is_among node_key ns id) ∙ ap is_some found.1

  all_stand : AllByRecursion (λ e. stands ns e ≡ true) es
  all_stand =
      each_of _ es (λ e m.
      let by = gathered_by united_edge edge_key edge_shape (λ x y. refl) c.edges es edges e m in
      let ends = and_parts (is_among (node_ids c.nodes) by.0.from) (is_among (node_ids c.nodes) by.0.to) (of_member (λ (d : Edge). stands c.nodes d ≡ true) c.edges by.0 agreed.ends by.1) in
      both_true (is_among (node_ids ns) e.from) (is_among (node_ids ns) e.to) (ap (is_among (node_ids ns)) (ap source_of by.3) ∙ node_kept by.0.from ends.0)
      (ap (is_among (node_ids ns)) (ap target_of by.3) ∙ node_kept by.0.to ends.1))

  -- an edge that is claimed joins what it does among them
  claimed_joins : (ds : List Edge) → ((e : Edge) → Contains ds e → Contains c.edges e) → (id x y : ℕ) → is_joined ds id x y ≡ true → (e : Edge) × Contains c.edges e × (e.id ≡ id) × (has_ends x y e ≡ true)
  claimed_joins [] part id x y h = absurd (cc h)
  claimed_joins (e ∷ ds) part id x y h =
      ⊎_elim
      (λ k. let p = and_parts (e.id == id) (has_ends x y e) k in (e, part e (contains_here e ds), eqb-true e.id id p.0, p.1))
      (λ k. claimed_joins ds (λ d m. part d (contains_later e ds d m)) id x y k)
      (either_true _ _ h)

  ends_alike : (x y : ℕ) (e d : Edge) → edge_shape e ≡ edge_shape d → has_ends x y e ≡ has_ends x y d
  ends_alike x y e d same = let from : e.from ≡ d.from = ap source_of same in let to : e.to ≡ d.to = ap target_of same in rw (from, to) refl

  joined_kept : (id x y : ℕ) → is_joined c.edges id x y ≡ true → is_joined es id x y ≡ true
  joined_kept id x y h =
      let claim = claimed_joins c.edges (λ e m. m) id x y h in
      let found = claimed_found united_edge edge_key edge_shape (λ x y. refl) c.edges es edges id claim.0 claim.1 (eq-eqb claim.0.id id claim.2) in
      let by = said_by united_edge edge_key edge_shape (λ x y. refl) c.edges id found.0 (sym (edges.said id) ∙ found.1) in
      let same : edge_shape found.0 ≡ edge_shape claim.0 = by.3 ∙ agreed.one (by.0.id, edge_shape by.0) (claim.0.id, edge_shape claim.0) (edge_entry by.0 by.1) (edge_entry claim.0 claim.1) (by.2 ∙ sym claim.2) in
      joined_found es id x y edges.ascend ∙ (ap (passes_at edge_key (has_ends x y)) found.1 ∙ (ends_alike x y found.0 claim.0 same ∙ claim.3))

  steps_kept : (node : ℕ) (steps : List Step) → are_steps_from c.edges node steps ≡ true → are_steps_from es node steps ≡ true
  steps_kept node [] h = refl
  steps_kept node (step ∷ steps) h =
      let parts = and_parts (is_joined c.edges step.edge node step.node) (are_steps_from c.edges step.node steps) h in
      both_true (is_joined es step.edge node step.node) (are_steps_from es step.node steps) (joined_kept step.edge node step.node parts.0) (steps_kept step.node steps parts.1)

  walk_kept : (w : Walk) → is_walk c.nodes c.edges w ≡ true → is_walk ns es w ≡ true
  walk_kept w h =
      let parts = and_parts (is_among (node_ids c.nodes) w.start) (are_steps_from c.edges w.start w.steps) h in
      both_true (is_among (node_ids ns) w.start) (are_steps_from es w.start w.steps) (node_kept w.start parts.0) (steps_kept w.start w.steps parts.1)

  all_walk : AllByRecursion (λ p. is_walk ns es p.walk ≡ true) ps
  all_walk =
      each_of _ ps (λ p m.
      let by = gathered_by united_path path_key path_shape (λ x y. refl) c.paths ps paths p m in
      ap (is_walk ns es) (ap walk_in by.3) ∙ walk_kept by.0.walk (of_member (λ (q : Path). is_walk c.nodes c.edges q.walk ≡ true) c.paths by.0 agreed.walks by.1))

  abbrev whole : PropertyGraph
  whole = record { nodes = ns; edges = es; paths = ps }

  -- each edge fits the nodes, and each stored path the nodes and the edges
  pub edges_fit : list_all (edge_fits (record { nodes = ns; edges = []; paths = [] })) es ≡ true
  edges_fit =
      all_pass (edge_fits (record { nodes = ns; edges = []; paths = [] })) es (beside (λ e. is_among (node_ids ns) e.id ≡ false) (λ e. stands ns e ≡ true) _
      (λ e apart stand. both_true _ (stands ns e) (ap not (not_in_graph (record { nodes = ns; edges = []; paths = [] }) e.id apart refl refl)) stand) es
      (AllByRecursion-weaker _ _ (λ (e : Edge) h. not_among shape (λ n. n.id) (λ n. NodeShape) ns e.id (EdgeShape e.from e.to) nodes_shaped (λ n. no_edge e.from e.to) h) es edges_shaped) all_stand)

  pub paths_fit : list_all (path_fits (record { nodes = ns; edges = es; paths = [] })) ps ≡ true
  paths_fit =
      all_pass (path_fits (record { nodes = ns; edges = es; paths = [] })) ps (beside
      (λ p. (is_among (node_ids ns) p.id ≡ false) × (is_among (edge_ids es) p.id ≡ false)) (λ p. is_walk ns es p.walk ≡ true) _
      (λ p apart walk. both_true _ (is_walk ns es p.walk) (ap not (not_in_graph (record { nodes = ns; edges = es; paths = [] }) p.id apart.0 apart.1 refl)) walk) ps
      (AllByRecursion-weaker _ _ (λ (p : Path) h. (
        not_among shape (λ n. n.id) (λ n. NodeShape) ns p.id (PathShape p.walk) nodes_shaped (λ n. no_path p.walk) h,
        not_among shape (λ e. e.id) (λ e. EdgeShape e.from e.to) es p.id (PathShape p.walk) edges_shaped (λ e. edge_no_path e.from e.to p.walk) h,
      )) ps paths_shaped) all_walk)

  -- and what is built of them is the graph of the claims
  pub agreed_made : (g : PropertyGraph) → g ≡ whole → IsGraph g → IsClaimed c g
  agreed_made g is valid = record {
    graph = valid;
    nodes = λ id. ap (λ (u : PropertyGraph). node_at u.nodes id) is ∙ nodes.said id;
    edges = λ id. ap (λ (u : PropertyGraph). edge_at u.edges id) is ∙ edges.said id;
    paths = λ id. ap (λ (u : PropertyGraph). path_at u.paths id) is ∙ paths.said id;
  }
