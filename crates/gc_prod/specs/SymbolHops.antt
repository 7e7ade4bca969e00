-- The hops along a symbol: between which nodes it leads, at which cost, and by what.
use Rattle.std.specs.Prelude.{ℕ, ◌+◌, Bool, true, List, [], ◌∷◌, map, Option, Some, None, nat_eq, slice_get, if◌then◌else◌}
use Rattle.std.specs.List.{filter}
use Rattle.std.specs.Option.{option_map_or}
use Rattle.std.specs.Cmp.Lexicographic.{pointwise}
use Rattle.gc_base.specs.Ascending.{has}
use Rattle.gc_base.specs.Literals.{text_order}
use Rattle.gc_base.specs.Walks.{end_of}
use Rattle.gc_base.specs.declared.walk.Step.{Step}
use Rattle.gc_spec.specs.PropertyGraph.{Node, Edge}
use Rattle.gc_automata.specs.Moves.{Network, Segment}
use Rattle.gc_automata.specs.declared.transition.On.{On}
use Rattle.gc_automata.specs.declared.transition.On.TheVariants as on
use Rattle.gc_prod.specs.declared.moves.Hop.{Hop}
use Rattle.gc_prod.specs.declared.moves.By.{By}
use Rattle.gc_prod.specs.declared.moves.By.TheVariants as by
use Rattle.gc_prod.specs.declared.hop_lists.Way.{Way}
use Rattle.gc_prod.specs.declared.hop_lists.Way.TheVariants as way

-- along nothing, a hop from a node to itself
abbrev pub still : Node → Hop
still n = record { from = n.id; to = n.id; cost = 0; by = by.Nothing }

-- along an edge, and against it
abbrev pub forward : Edge → Hop
forward e = record { from = e.from; to = e.to; cost = 1; by = by.Edge e.id }

abbrev pub back : Edge → Hop
back e = record { from = e.to; to = e.from; cost = 1; by = by.Edge e.id }

abbrev pub along_edge : Way → Edge → Hop
along_edge way.Forward e = forward e
along_edge way.Back e = back e

-- along a segment of a number
abbrev pub by_segment : ℕ → Segment → Hop
by_segment i s = record { from = s.walk.start; to = end_of s.walk; cost = s.cost; by = by.Segment i }

-- along those of some segments that are of a view, where the first has the number i
abbrev pub by_segments : List ℕ → ℕ → List Segment → List Hop
by_segments view i [] = []
by_segments view i (s ∷ segments) =
    if pointwise nat_eq s.view view then by_segment i s ∷ by_segments view (i + 1) segments else by_segments view (i + 1) segments

-- whether a set of labels has a label that is asked for, if one is
abbrev pub fits : Option (List ℕ) → List (List ℕ) → Bool
fits None labels = true
fits (Some label) labels = has text_order labels label

-- the hops at the nodes that fit, and along the edges that fit
abbrev pub at_nodes : Option (List ℕ) → List Node → List Hop
at_nodes label nodes = map still (filter (λ n. fits label n.labels) nodes)

abbrev pub along_edges : Way → Option (List ℕ) → List Edge → List Hop
along_edges w label edges = map (along_edge w) (filter (λ e. fits label e.labels) edges)

-- all hops along a symbol, in the order of the nodes, the edges or the segments
unfoldable pub hops : Network → On → List Hop
hops network on.Empty = at_nodes None network.graph.nodes
hops network (on.Label l) = along_edges way.Forward (Some l) network.graph.edges
hops network (on.Back l) = along_edges way.Back (Some l) network.graph.edges
hops network on.Any = along_edges way.Forward None network.graph.edges
hops network on.AnyBack = along_edges way.Back None network.graph.edges
hops network (on.Test l) = at_nodes (Some l) network.graph.nodes
hops network (on.View v) = by_segments v 0 network.segments

-- the steps of the segment of a number
abbrev pub segment_steps : List Segment → ℕ → List Step
segment_steps segments i = option_map_or (λ s. s.walk.steps) (slice_get segments i) []

-- the steps that a walk takes by a hop to a node: none where it stays, one by an edge, those of a segment
abbrev pub steps_by : Network → By → ℕ → List Step
steps_by network by.Nothing to = []
steps_by network (by.Edge e) to = record { edge = e; node = to } ∷ []
steps_by network (by.Segment i) to = segment_steps network.segments i
