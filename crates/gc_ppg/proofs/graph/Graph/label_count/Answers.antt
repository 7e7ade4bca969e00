use Rattle.std.proofs.Common.{ap, ◌∙◌, length}
use Rattle.gc_ppg.proofs.LabelReads.{count_of_kind, places_of_kind, index_of}
use Rattle.gc_ppg.proofs.graph.Graph.label_count.Goals as goal

pub returns-in-Some : goal.returns-in-Some
returns-in-Some c =
    let g = c.args.self.now in
    let index = c.in-Some.index in
    let is_index = index_of _ g c.self.inside.index index c.self.invariant.1 c.in-Some.is c.self.view_is in
    ap length (c.labelled.ensures ∙ places_of_kind g index c.args.kind c.args.label.now is_index) ∙ count_of_kind g c.args.kind c.args.label.now
