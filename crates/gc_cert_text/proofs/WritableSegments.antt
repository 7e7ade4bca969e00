-- The segments of a search that is written: their walks are of its graph, so their identities are bounded.
use Rattle.std.proofs.Common.{◌≡◌, ℕ, ◌<◌, ◌≤◌, true, not, List, [], ◌∷◌}
use Rattle.std.proofs.lemmas.Bool.{and_parts}
use Rattle.std.specs.List.{AllByRecursion}
use Rattle.gc_automata.specs.Moves.{Segment}
use Rattle.gc_base.specs.Words.{is_word, is_reserved}
use Rattle.gc_base.specs.declared.walk.Step.{Step}
use Rattle.gc_base.specs.declared.walk.Walk.{Walk}
use Rattle.gc_json.proofs.GraphsReadBack.{Bounded, edges_bounded, joined_bound, node_bound}
use Rattle.gc_prod.specs.Segments.{AreSegments}
use Rattle.gc_spec.specs.PropertyGraph.{Edge, IsGraph, PropertyGraph, are_steps_from, is_among, is_joined, is_walk, node_ids}
use Rattle.gc_cert_text.specs.Certificates.{SearchTold}
use Rattle.gc_cert_text.specs.SegmentsOfGraphs.{is_name}
use Rattle.gc_cert_text.specs.WritableSearches.{IsWritable, IsWritableSegment, IsWritableStep, IsWritableWalk}

steps_bounded : (edges : List Edge) (node : ℕ) (steps : List Step) → AllByRecursion Bounded edges → are_steps_from edges node steps ≡ true → AllByRecursion IsWritableStep steps
steps_bounded edges node [] each h = tt
steps_bounded edges node (step ∷ steps) each h =
    let p = and_parts (is_joined edges step.edge node step.node) _ h in
    let bound = joined_bound edges step.edge node step.node each p.0 in
    (record { edge = bound.0; node = bound.1 }, steps_bounded edges step.node steps each p.1)

pub walk_bounded : (g : PropertyGraph) (w : Walk) → IsGraph g → is_walk g.nodes g.edges w ≡ true → IsWritableWalk w
walk_bounded g w h is =
    let p = and_parts (is_among (node_ids g.nodes) w.start) _ is in
    record {
      start = node_bound g.nodes w.start h.nodes p.0;
      steps = steps_bounded g.edges w.start w.steps (edges_bounded g.nodes h.nodes g.edges h.edges) p.1;
    }

-- a segment whose view is a word, with a walk that can be written
pub record IsWholeSegment (s : Segment) : Type 0 where
  pub view : is_word s.view ≡ true
  pub name : is_name s.view ≡ true
  pub walk : IsWritableWalk s.walk
  pub some : 0 < s.cost
  pub cost : s.cost ≤ 9223372036854775807

whole_each : (g : PropertyGraph) → IsGraph g → (segments : List Segment) → AreSegments g segments → AllByRecursion IsWritableSegment segments
    → AllByRecursion IsWholeSegment segments
whole_each g h [] are each = tt
whole_each g h (s ∷ segments) are each = (
  record {
    view = (and_parts (is_word s.view) (not (is_reserved s.view)) each.0.view).0;
    name = each.0.view;
    walk = walk_bounded g s.walk h are.0.walk;
    some = are.0.costs;
    cost = each.0.cost;
  },
  whole_each g h segments are.1 each.1,
)

pub whole_segments : (s : SearchTold) → IsWritable s → AllByRecursion IsWholeSegment s.segments
whole_segments s h = whole_each s.graph h.graph s.segments h.formed.segments h.segments
