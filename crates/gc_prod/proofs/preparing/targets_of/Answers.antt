use Rattle.std.proofs.Common.{◌∙◌, ℕ, List, map, length, ap}
use Rattle.std.proofs.lemmas.List.{length-map}
use Rattle.std.proofs.lemmas.Result.{IfOk-weaker}
use Rattle.gc_prod.specs.declared.moves.Hop.{Hop}
use Rattle.gc_prod.specs.Groups.{Grouped, row_of}
use Rattle.gc_prod.specs.Places.{place_in}
use Rattle.gc_prod.proofs.GroupLaws.{row-map}
use Rattle.gc_prod.proofs.preparing.targets_of.Goals as goal

pub beside-requires : goal.beside-requires
beside-requires c =
    let f : Hop → ℕ = λ h. place_in c.args.nodes.now h.to in
    ap length (c.in_ok-places.ensures ∙ ap (map f) c.as_slice.ensures) ∙ length-map c.args.hops.now.items f

pub returns : goal.returns
returns c =
    let f : Hop → ℕ = λ h. place_in c.args.nodes.now h.to in
    let places = c.in_ok-places.ensures ∙ ap (map f) c.as_slice.ensures in
    IfOk-weaker c.beside.result _ _ (λ targets is place.
    ap (λ (g : Grouped ℕ). row_of g place) is
    ∙ (ap (λ (l : List ℕ). let g : Grouped ℕ = record { items = l; starts = c.args.hops.now.starts } in row_of g place) places
    ∙ row-map f c.args.hops.now.items c.args.hops.now.starts place))
    c.beside.ensures
