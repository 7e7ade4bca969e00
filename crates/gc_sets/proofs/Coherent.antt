-- What identities stand for in two coherent graphs.
use Rattle.std.proofs.Common.{◌≡◌, ℕ, Bool, true, false, ◌&&◌, List, [], ◌∷◌, Option, Some, None, refl, sym, ap, ◌∙◌}
use Rattle.std.specs.Option.{option_or}
use Rattle.std.proofs.lemmas.Bool.{and_parts}
use Rattle.gc_base.specs.Ascending.{Ascends}
use Rattle.gc_base.specs.declared.walk.Step.{Step}
use Rattle.gc_base.proofs.Search.{AllByRecursion-weaker}
use Rattle.gc_spec.specs.Coherence.{ElementShape, NodeShape, EdgeShape, PathShape, AreSame, AreCoherent, shape_at}
use Rattle.gc_spec.specs.PropertyGraph.{PropertyGraph, Node, Edge, Path, IsGraph, edge_at, edge_order, is_joined, are_steps_from}
use Rattle.gc_ppg.specs.Built.{has_ends}
use Rattle.gc_ppg.proofs.ElementLists.{passes_at}
use Rattle.gc_sets.proofs.Finds.{found_has, found_key, injective}
use Rattle.gc_sets.proofs.Shapes.{IsShaped, AreEdges, own_shapes}
use Rattle.gc_sets.proofs.Walks.{joined_found}

-- what an identity stands for in either graph
abbrev pub either_shape : PropertyGraph → PropertyGraph → ℕ → Option ElementShape
either_shape a b q = option_or (shape_at a q) (shape_at b q)

in_second : (o t : Option ElementShape) (s : ElementShape) → AreSame o t → t ≡ Some s → option_or o t ≡ Some s
in_second None t s same h = h
in_second (Some r) None s same h = absurd (cc h)
in_second (Some r) (Some u) s same h = ap Some same ∙ h

pub first_shaped : (a b : PropertyGraph) → IsGraph a → IsShaped a (either_shape a b)
first_shaped a b h =
    let own = own_shapes a h.distinct in
    let more : (q : ℕ) (s : ElementShape) → shape_at a q ≡ Some s → either_shape a b q ≡ Some s = λ q s k. ap (λ o. option_or o (shape_at b q)) k in
    record {
      nodes = AllByRecursion-weaker _ _ (λ (n : Node) k. more n.id NodeShape k) a.nodes own.nodes;
      edges = AllByRecursion-weaker _ _ (λ (e : Edge) k. more e.id (EdgeShape e.from e.to) k) a.edges own.edges;
      paths = AllByRecursion-weaker _ _ (λ (p : Path) k. more p.id (PathShape p.walk) k) a.paths own.paths;
    }

pub second_shaped : (a b : PropertyGraph) → IsGraph b → AreCoherent a b → IsShaped b (either_shape a b)
second_shaped a b h coherent =
    let own = own_shapes b h.distinct in
    let more : (q : ℕ) (s : ElementShape) → shape_at b q ≡ Some s → either_shape a b q ≡ Some s = λ q s k. in_second (shape_at a q) (shape_at b q) s (coherent q) k in
    record {
      nodes = AllByRecursion-weaker _ _ (λ (n : Node) k. more n.id NodeShape k) b.nodes own.nodes;
      edges = AllByRecursion-weaker _ _ (λ (e : Edge) k. more e.id (EdgeShape e.from e.to) k) b.edges own.edges;
      paths = AllByRecursion-weaker _ _ (λ (p : Path) k. more p.id (PathShape p.walk) k) b.paths own.paths;
    }

abbrev source_of : ElementShape → ℕ
source_of NodeShape = 0
source_of (EdgeShape from to) = from
source_of (PathShape walk) = 0

abbrev target_of : ElementShape → ℕ
target_of NodeShape = 0
target_of (EdgeShape from to) = to
target_of (PathShape walk) = 0

pub edge_same : (a b c d : ℕ) → EdgeShape a b ≡ EdgeShape c d → (a ≡ c) × (b ≡ d)
edge_same a b c d h = (ap source_of h, ap target_of h)

-- an edge of both has the same ends in both
pub same_ends : (shape : ℕ → Option ElementShape) (es ds : List Edge) → AreEdges shape es → AreEdges shape ds → (id : ℕ) (e d : Edge) → edge_at es id ≡ Some e → edge_at ds id ≡ Some d
    → (e.from ≡ d.from) × (e.to ≡ d.to)
same_ends shape es ds are_es are_ds id e d at_e at_d =
    let P : Edge → Type 0 = λ x. shape x.id ≡ Some (EdgeShape x.from x.to) in
    let as_e = found_has (λ x. x.id) P es id e are_es at_e in
    let as_d = found_has (λ x. x.id) P ds id d are_ds at_d in
    let one : e.id ≡ d.id = found_key (λ x. x.id) es id e at_e ∙ sym (found_key (λ x. x.id) ds id d at_d) in
    edge_same e.from e.to d.from d.to (injective (EdgeShape e.from e.to) (EdgeShape d.from d.to) (sym as_e ∙ (ap shape one ∙ as_d)))

pub both_true : (a b : Bool) → a ≡ true → b ≡ true → (a && b) ≡ true
both_true true b h k = k
both_true false b h k = h

-- whether the edge that was found joins two nodes
abbrev pub joins : ℕ → ℕ → Option Edge → Bool
joins x y o = passes_at (λ (e : Edge). e.id) (has_ends x y) o

-- steps along edges go along others that join as much
pub steps_along : (es ds : List Edge) → Ascends edge_order es → Ascends edge_order ds → ((id x y : ℕ) → joins x y (edge_at es id) ≡ true → joins x y (edge_at ds id) ≡ true)
    → (node : ℕ) (steps : List Step) → are_steps_from es node steps ≡ true → are_steps_from ds node steps ≡ true
steps_along es ds up_es up_ds more node [] h = refl
steps_along es ds up_es up_ds more node (step ∷ steps) h =
    let parts = and_parts (is_joined es step.edge node step.node) (are_steps_from es step.node steps) h in
    let here : is_joined ds step.edge node step.node ≡ true =
    joined_found ds step.edge node step.node up_ds ∙ more step.edge node step.node (sym (joined_found es step.edge node step.node up_es) ∙ parts.0) in
    both_true (is_joined ds step.edge node step.node) (are_steps_from ds step.node steps) here (steps_along es ds up_es up_ds more step.node steps parts.1)
