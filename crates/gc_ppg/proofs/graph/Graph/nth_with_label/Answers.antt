use Rattle.std.proofs.Common.{◌≡◌, Some, None, ap, sym, ◌∙◌}
use Rattle.std.specs.List.{slice_get}
use Rattle.std.specs.Option.{option_and_then}
use Rattle.gc_ppg.specs.LabelReads.{kind_ids, labelled_places}
use Rattle.gc_ppg.proofs.LabelReads.{read_of_kind, places_of_kind, index_of}
use Rattle.gc_ppg.proofs.graph.Graph.nth_with_label.Goals as goal

pub returns-in-Some-nth_place : goal.returns-in-Some-nth_place
returns-in-Some-nth_place c =
    let g = c.args.self.now in
    let index = c.in-Some.index in
    let is_index = index_of _ g c.self.inside.index index c.self.invariant.1 c.in-Some.is c.self.view_is in
    let places = c.labelled.ensures ∙ places_of_kind g index c.args.kind c.args.label.now is_index in
    let got : Some c.in-Some-nth_place.place ≡ slice_get (labelled_places g c.args.kind c.args.label.now) c.args.i =
    sym c.in-Some-nth_place.is ∙ (c.nth_place.ensures ∙ ap (λ ps. slice_get ps c.args.i) places) in
    c.id_at.ensures ∙ (ap (option_and_then (slice_get (kind_ids g c.args.kind))) got ∙ read_of_kind g c.args.kind c.args.label.now c.args.i)

pub returns-in-None-nth_place : goal.returns-in-None-nth_place
returns-in-None-nth_place c =
    let g = c.args.self.now in
    let index = c.in-Some.index in
    let is_index = index_of _ g c.self.inside.index index c.self.invariant.1 c.in-Some.is c.self.view_is in
    let places = c.labelled.ensures ∙ places_of_kind g index c.args.kind c.args.label.now is_index in
    let missing : None ≡ slice_get (labelled_places g c.args.kind c.args.label.now) c.args.i =
    sym c.in-None-nth_place.is ∙ (c.nth_place.ensures ∙ ap (λ ps. slice_get ps c.args.i) places) in
    ap (option_and_then (slice_get (kind_ids g c.args.kind))) missing ∙ read_of_kind g c.args.kind c.args.label.now c.args.i
