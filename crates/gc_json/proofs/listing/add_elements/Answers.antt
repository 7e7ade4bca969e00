use Rattle.std.proofs.Common.{◌≡◌, ◌+◌, ◌<◌, None, length, refl, ap, ◌∙◌, arith}
use Rattle.json.specs.Json.{parse_map, after_end_array}
use Rattle.serde_json.specs.Events.{items_len}
use Rattle.gc_json.proofs.Framing.{all_items}
use Rattle.gc_json.proofs.ListTurns.{next_added, next_refused, all_added, next_read}
use Rattle.gc_json.proofs.TokenTurns.{items_end}
use Rattle.gc_json.proofs.listing.add_elements.Goals as goal

pub returns-in_err-add_next-clause-added : goal.returns-in_err-add_next-clause-added
returns-in_err-add_next-clause-added c =
    let l = c.items in
    let going : (after_end_array l.reader ≡ None) × (c.take_end_array.new.self ≡ l.reader) = grind arith in
    next_refused c.args.seen.now c.args.kind _ c.args.depth l.index l.builder c.add_next.new.builder c.in_err-add_next.field-0.0 l.reader c.take_end_array.new.self c.add_next.new.reader _ _ l.invariant.0 going.1 going.0
    c.from_residual.ensures.1 c.in_err-add_next.ensures.value

pub items-preserved : goal.items-preserved
items-preserved c =
    let l = c.items in
    let r = c.add_next.new.reader in
    let going : (after_end_array l.reader ≡ None) × (c.take_end_array.new.self ≡ l.reader) = grind arith in
    let less : length r < length l.reader = rw (← going.1) c.in_ok-add_next.ensures.shorter in (
      l.invariant.0 ∙ next_added c.args.seen.now c.args.kind c.args.depth l.index (l.index + 1) l.builder c.add_next.new.builder l.reader c.take_end_array.new.self r going.1 going.0 c.in_ok-add_next.ensures.value refl,
      l.invariant.1 ∙ next_read c.args.seen.now c.args.kind c.args.depth l.index (l.index + 1) l.builder c.add_next.new.builder l.reader c.take_end_array.new.self r going.1 going.0 c.in_ok-add_next.ensures.value refl,
      omega (arith, l.invariant.2),
    )

pub returns-clause-added : goal.returns-clause-added
returns-clause-added c =
    let l = c.items in
    all_added c.args.seen.now c.args.kind _ _ c.args.depth l.index l.builder l.reader c.take_end_array.new.self _ l.invariant.0 (grind arith) (λ i. l.builder)

pub returns-clause-read : goal.returns-clause-read
returns-clause-read c =
    let l = c.items in
    let r = c.take_end_array.new.self in
    l.invariant.1 ∙ ap (parse_map (λ ds. l.index + items_len ds)) (items_end c.args.depth l.reader r (grind arith)) ∙ all_items l.index r
