use Rattle.std.proofs.Common.{Some, ap, sym, ◌∙◌}
use Rattle.std.specs.List.{filter}
use Rattle.std.specs.Option.{option_copied, option_map}
use Rattle.gc_base.specs.Ascending.{has}
use Rattle.gc_base.specs.Literals.{text_order}
use Rattle.gc_ppg.proofs.Finds.{get_map}
use Rattle.gc_ppg.proofs.graph.nth_with.Goals as goal

pub returns-in-Some : goal.returns-in-Some
returns-in-Some g c =
    let key = g.T.Element.id_of in
    let kept = filter (λ x. has text_order (g.T.Labelled.labels_of x) c.args.label.now) c.args.elements.now in
    ap Some c.id.ensures ∙ (ap (λ o. option_map key (option_copied o)) (sym c.in-Some.is) ∙ (ap (option_map key) c.labelled.ensures ∙ get_map key kept c.args.i))

pub returns-in-None : goal.returns-in-None
returns-in-None g c =
    let key = g.T.Element.id_of in
    let kept = filter (λ x. has text_order (g.T.Labelled.labels_of x) c.args.label.now) c.args.elements.now in
    ap (λ o. option_map key (option_copied o)) (sym c.in-None.is) ∙ (ap (option_map key) c.labelled.ensures ∙ get_map key kept c.args.i)
