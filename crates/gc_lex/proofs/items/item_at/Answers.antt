use Rattle.std.proofs.Common.{arith, drop, get_or}
use Rattle.gc_lex.specs.Items.{item_of}
use Rattle.gc_lex.proofs.ItemBounds.{item_bounds, bounds_if_ok}
use Rattle.gc_lex.proofs.items.item_at.Goals as goal

pub returns-clause-within : goal.returns-clause-within
returns-clause-within c =
    let text = c.args.text.now in
    let at = c.args.at in
    bounds_if_ok (drop at text) (item_of (get_or text at 0) (drop at text)) c.item_from.result
    (item_bounds text at (omega arith)) (rw c.as_bytes.ensures.value at c.item_from.ensures)
