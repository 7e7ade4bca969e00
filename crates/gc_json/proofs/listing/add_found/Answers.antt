use Rattle.std.proofs.Common.{◌≡◌, ◌∷◌, arith}
use Rattle.json.specs.Token.{Token}
use Rattle.gc_json.proofs.ListTurns.{found_there, not_there}
use Rattle.gc_json.proofs.listing.add_found.Goals as goal

pub returns-in-Ok-true : goal.returns-in-Ok-true
returns-in-Ok-true c = λ es whole count some.
    let is : c.args.reader.now ≡ Token.begin_object ∷ c.takes_object.new.reader = grind arith in
    found_there _ c.list_key.result.now c.args.times c.args.reader.now c.takes_object.new.reader c.find.new.reader es c.list_key.ensures is whole count some c.args.seen.now c.args.kind _ c.args.builder.now _ _ c.in-Ok-true.field-0-test
    c.in-Ok-true.ensures c.add_array.ensures

pub returns-in-Ok-false : goal.returns-in-Ok-false
returns-in-Ok-false c = λ es whole count some.
    let is : c.args.reader.now ≡ Token.begin_object ∷ c.takes_object.new.reader = grind arith in
    not_there _ c.list_key.result.now c.args.times c.args.reader.now c.takes_object.new.reader c.find.new.reader es c.list_key.ensures is whole count some c.args.seen.now c.args.kind c.args.builder.now _ c.in-Ok-false.field-0-test
    c.in-Ok-false.ensures
