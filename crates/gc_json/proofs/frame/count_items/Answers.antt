use Rattle.std.proofs.Common.{◌≡◌, ◌+◌, ◌<◌, None, length, ap, ◌∙◌, arith}
use Rattle.json.specs.Json.{parse_map, after_end_array}
use Rattle.serde_json.specs.Events.{items_len}
use Rattle.gc_json.specs.Tokens.{value_data, items_data}
use Rattle.gc_json.proofs.Framing.{next_item, all_items}
use Rattle.gc_json.proofs.Passing.{not_json}
use Rattle.gc_json.proofs.TokenTurns.{items_end, items_more, items_refused, some_of}
use Rattle.gc_json.proofs.frame.count_items.Goals as goal

pub returns-in_err-check_value-clause-value : goal.returns-in_err-check_value-clause-value
returns-in_err-check_value-clause-value c =
    let l = c.items in
    let going : (after_end_array l.reader ≡ None) × (c.take_end_array.new.self ≡ l.reader) = grind arith in
    not_json _ (parse_map items_len (items_data c.args.depth c.args.reader.now)) _ _ c.from_residual.ensures.1
    (l.invariant.0 ∙ ap (parse_map (λ ds. l.count + items_len ds)) (items_refused c.args.depth l.reader going.0 (rw (← going.1) c.in_err-check_value.ensures.value)))

pub items-preserved : goal.items-preserved
items-preserved c =
    let l = c.items in
    let r = c.check_value.new.reader in
    let going : (after_end_array l.reader ≡ None) × (c.take_end_array.new.self ≡ l.reader) = grind arith in
    let done = c.in_ok-check_value.ensures in
    let read = some_of (value_data c.args.depth l.reader) r (rw (← going.1) done.value) in
    let less : length r < length l.reader = rw (← going.1) done.shorter in
    let more : l.count + 1 ≡ c.in_ok-count.count = grind arith in (
      l.invariant.0 ∙ ap (parse_map (λ ds. l.count + items_len ds)) (items_more c.args.depth l.reader r read.0 going.0 read.1) ∙ next_item l.count read.0 _
          ∙ ap (λ n. parse_map (λ ds. n + items_len ds) (items_data c.args.depth r)) more,
      omega (arith, l.invariant.1),
    )

pub returns-clause-value : goal.returns-clause-value
returns-clause-value c =
    let l = c.items in
    let r = c.take_end_array.new.self in
    l.invariant.0 ∙ ap (parse_map (λ ds. l.count + items_len ds)) (items_end c.args.depth l.reader r (grind arith)) ∙ all_items l.count r
