use Rattle.std.proofs.Common.{◌≡◌, ◌+◌, ◌∷◌, ◌++◌, [], drop, ap, ◌∙◌, rules}
use Rattle.gc_build_numbers.specs.WholeRows.{element_alone, row_elements, row_key}
use Rattle.gc_build_numbers.proofs.RowTurns.{turn}
use Rattle.gc_build_numbers.proofs.whole_rows.row_elements.Goals as goal

pub loop-place-preserved : goal.loop-place-preserved
loop-place-preserved c =
    let schema = c.args.schema.now in
    let rows = c.args.rows.now.rows in
    let i = c.loop-place.place in
    let number = c.loop-place.number in
    let row = c.row.result in
    let element = element_alone number i (row_key schema row) in
    let later : number + 1 ≡ c.in_ok-number.number = search rules in
    turn (row_elements schema number i) (row_elements schema c.in_ok-number.number (i + 1)) rows i row (element ∷ []) c.loop-place.elements.items
    c.push.new.self.items (row_elements schema c.args.next 0 rows) c.row.ensures (ap (λ n. element ∷ row_elements schema n (i + 1) (drop (i + 1) rows)) later)
    (c.in_ok-push.ensures.items ∙ ap (λ e. c.loop-place.elements.items ++ e ∷ []) c.in_ok-element_of.ensures) c.loop-place.invariant
