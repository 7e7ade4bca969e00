use Rattle.std.proofs.Common.{◌≡◌, true, nat_lt, sym, ◌∙◌}
use Rattle.gc_ppg.proofs.Collecting.{below_last, less_by}
use Rattle.gc_ppg.proofs.by_id.is_above.Goals as goal

pub returns-in-Some : goal.returns-in-Some
returns-in-Some g c = λ low.
    let key = g.T.Element.id_of in
    let last = c.in-Some.last.now in
    let below : nat_lt (key last) c.args.id ≡ true = (λ j. nat_lt (sym (c.get.ensures.number ∙ c.id.ensures) j) (sym c.get-in-Some.ensures.number j)) ∙ low in
    below_last key c.args.id last c.args.elements.now c.requires (less_by (key last) c.args.id below) c.in-Some.ensures.item.1
