use Rattle.std.proofs.Common.{ap, ◌∙◌, arith, get_or}
use Rattle.gc_print.proofs.PartTexts.{cat_text, alt_text, parts_turn}
use Rattle.gc_print.proofs.regexes.+regexes.Goals as goal

pub write_parts-loop-i-preserved : goal.write_parts-loop-i-preserved
write_parts-loop-i-preserved t c =
    let l = c.loop-i in
    let read = c.part-item.is ∙ ap (λ parts. get_or parts l.i c.part-item.result) c.deref-part-items.ensures.value in
    parts_turn c.args.parts.now.items l.i c.args.most c.args.between c.part-item.result l.text.items _ _ (omega arith) read c.in_ok-write_between.ensures c.in_ok-write_part.ensures
    ∙ l.invariant

pub write_regex-returns-in-Cat : goal.write_regex-returns-in-Cat
write_regex-returns-in-Cat t c = rw (c.in-Cat.is, ← cat_text c.in-Cat.parts) c.write_parts.ensures

pub write_regex-returns-in-Alt : goal.write_regex-returns-in-Alt
write_regex-returns-in-Alt t c = rw (c.in-Alt.is, ← alt_text c.in-Alt.parts) c.write_parts-in-Alt.ensures
