use Rattle.std.proofs.Common.{◌≡◌, ◌∷◌, true, arith}
use Rattle.json.specs.Token.{Token}
use Rattle.gc_json.specs.OnePass.{may_come}
use Rattle.gc_json.proofs.OnePass.{list_read_if}
use Rattle.gc_json.proofs.one_pass.add_listed.Goals as goal

pub returns-in-Ok-clause-value : goal.returns-in-Ok-clause-value
returns-in-Ok-clause-value c = λ es are.
    let is : c.args.reader.now ≡ Token.begin_array ∷ c.takes_array.new.reader = grind arith in
    let come : may_come c.args.frame c.args.kind ≡ true = grind arith in
    list_read_if c.args.seen.now es c.args.kind c.args.frame c.frame_with.result c.args.builder.now c.add_elements.new.builder c.args.reader.now c.takes_array.new.reader c.add_elements.new.reader c.in-Ok.count are is c.in-Ok.ensures.read
    c.in-Ok.ensures.added come c.frame_with.ensures
