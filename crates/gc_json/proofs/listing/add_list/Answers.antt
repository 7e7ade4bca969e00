use Rattle.std.proofs.Common.{◌≡◌, true, false, ap, ◌∙◌, arith}
use Rattle.gc_json.specs.Entries.{object_entries}
use Rattle.gc_json.specs.Frames.{is_zero}
use Rattle.gc_json.proofs.ListTurns.{empty_place, comes}
use Rattle.gc_json.proofs.listing.add_list.Goals as goal

pub returns-then-is_empty : goal.returns-then-is_empty
returns-then-is_empty c = λ es whole is.
    let none : is_zero c.place-place.result.len ≡ true = grind arith in
    empty_place c.args.seen.now c.args.kind c.args.builder.now es c.place-place.result (c.place-place.ensures es is) none

pub returns-in-Ok : goal.returns-in-Ok
returns-in-Ok c = λ es whole is.
    let some : is_zero c.place-place.result.len ≡ false = grind arith in
    let place = comes c.args.kind es c.place-place.result (c.place-place.ensures es is) some in
    c.add_found.ensures es (ap object_entries c.in-Ok.ensures.ok ∙ whole) place.0 place.1
