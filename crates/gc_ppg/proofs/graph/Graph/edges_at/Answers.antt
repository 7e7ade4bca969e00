use Rattle.std.proofs.Common.{sym, ap, ◌∙◌, subst}
use Rattle.gc_spec.specs.PropertyGraph.{PropertyGraph}
use Rattle.gc_ppg.specs.NodeSides.{ArePlacesAt}
use Rattle.gc_ppg.proofs.LabelReads.{index_of}
use Rattle.gc_ppg.proofs.NodeSides.{places_tell}
use Rattle.gc_ppg.proofs.graph.Graph.edges_at.Goals as goal

pub placed-requires : goal.placed-requires
placed-requires c =
    let g = c.args.self.now in
    let index = c.in-Some.index in
    let is_index = index_of _ g c.self.inside.index index c.self.invariant.1 c.in-Some.is c.self.view_is in
    subst (λ es. ArePlacesAt c.args.side c.args.node es c.places_at.result.now) (sym (c.deref.ensures.value ∙ ap (λ (h : PropertyGraph). h.edges) c.self.view_is))
    (places_tell g index c.args.side c.args.node c.places_at.result.now is_index c.places_at.ensures)
