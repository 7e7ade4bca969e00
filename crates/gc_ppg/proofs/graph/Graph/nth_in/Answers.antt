use Rattle.std.proofs.Common.{◌==◌, List, Option, ap, ◌∙◌}
use Rattle.std.specs.List.{filter, slice_get}
use Rattle.std.specs.Option.{option_and_then}
use Rattle.gc_spec.specs.PropertyGraph.{Edge, PropertyGraph}
use Rattle.gc_ppg.proofs.EndPlaces.{read_at}
use Rattle.gc_ppg.proofs.LabelReads.{index_of}
use Rattle.gc_ppg.proofs.graph.Graph.nth_in.Goals as goal
use Rattle.gc_ppg.specs.NodeSides.{far_of}
use Rattle.gc_ppg.specs.declared.node_edges.Side.TheVariants.{Coming}

pub returns-in-Some : goal.returns-in-Some
returns-in-Some c =
    let g = c.args.self.now in
    let index = c.in-Some.index in
    let is_index = index_of _ g c.self.inside.index index c.self.invariant.1 c.in-Some.is c.self.view_is in
    c.edge_at.ensures
    ∙ (ap (option_and_then (slice_get g.edges)) c.coming.ensures ∙ read_at (λ e. e.to) (far_of Coming) c.args.node g.edges index.coming c.args.i is_index.coming)

pub returns-in-None : goal.returns-in-None
returns-in-None c =
    let read : List Edge → Option Edge = λ edges. slice_get (filter (λ e. e.to == c.args.node) edges) c.args.i in
    c.nth_coming.ensures ∙ (ap read c.deref.ensures.value ∙ ap (λ (h : PropertyGraph). read h.edges) c.self.view_is)
