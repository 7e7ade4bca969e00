use Rattle.std.proofs.Common.{◌≡◌, ◌∷◌, false, refl, arith}
use Rattle.json.specs.Token.{Token}
use Rattle.gc_json.specs.Tokens.{begins_with, opens_array}
use Rattle.gc_json.proofs.ListTurns.{no_list, a_list, uncounted, uncounted_failure}
use Rattle.gc_json.proofs.listing.add_array.Goals as goal

pub returns-then-not-takes_array : goal.returns-then-not-takes_array
returns-then-not-takes_array c =
    let is : begins_with opens_array c.args.reader.now ≡ false = grind arith in
    no_list c.args.seen.now c.args.kind _ _ c.args.builder.now c.args.reader.now is refl

pub returns-in_err-add_elements : goal.returns-in_err-add_elements
returns-in_err-add_elements c =
    let is : c.args.reader.now ≡ Token.begin_array ∷ c.takes_array.new.reader = grind arith in
    a_list c.args.seen.now c.args.kind _ _ c.args.builder.now c.args.reader.now c.takes_array.new.reader is
    (uncounted_failure c.add_elements.new.builder _ c.in_err-add_elements.field-0.0 _ c.from_residual.ensures.1 c.in_err-add_elements.ensures.added)

pub returns : goal.returns
returns c =
    let is : c.args.reader.now ≡ Token.begin_array ∷ c.takes_array.new.reader = grind arith in
    a_list c.args.seen.now c.args.kind _ _ c.args.builder.now c.args.reader.now c.takes_array.new.reader is
    (uncounted c.add_elements.new.builder _ c.in_ok-add_elements.field-0 _ c.in_ok-add_elements.ensures.added)
