use Rattle.std.proofs.Common.{◌≡◌, [], ◌∷◌, arith}
use Rattle.json.specs.Token.{Token}
use Rattle.gc_json.proofs.OnePass.{whole_read}
use Rattle.gc_json.proofs.one_pass.graph_in_one_pass.Goals as goal

pub returns : goal.returns
returns c =
    let all = c.in-Ok-new.reader in
    let ts = c.takes_object.new.reader in
    let rest = c.add_members.new.reader in
    let is : all ≡ Token.begin_object ∷ ts = grind arith in
    let end : rest ≡ [] = grind arith in
    whole_read c.args.seen.now c.args.text.now all ts rest c.in_ok-frame.frame c.add_members.new.builder c.count.result c.in_ok-count.count c.in-Ok-new.ensures.ok is c.in_ok-frame.ensures end c.count.ensures c.in_ok-count.was
    (λ many. omega (arith, c.if-count-gt-MOST_ELEMENTS.false))
