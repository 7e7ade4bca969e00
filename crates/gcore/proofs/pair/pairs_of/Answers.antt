use Rattle.std.proofs.Common.{◌≡◌, ◌+◌, ◌++◌, drop, map, string_bytes, Some, sym, ap, ◌∙◌, arith}
use Rattle.std.specs.Option.{option_map}
use Rattle.gcore.specs.Pairs.{pair_of, pairs_of}
use Rattle.gcore.proofs.CommandLaws.{drop_item, pair_gained}
use Rattle.gcore.proofs.pair.pairs_of.Goals as goal

pub loop-word-preserved : goal.loop-word-preserved
loop-word-preserved c =
    let split = drop_item c.args.words.now c.loop-word.word-index c.word-item.result (omega arith) c.word-item.is in
    let read : pair_of (string_bytes c.word-item.result) ≡ Some c.in_ok-of.field-0 = ap pair_of (sym c.as_str.ensures.value) ∙ c.in_ok-of.ensures in
    pair_gained (string_bytes c.word-item.result) (map string_bytes (drop (c.loop-word.word-index + 1) c.args.words.now)) c.in_ok-of.field-0 c.loop-word.pairs c.push.new.self _ read c.in_ok-push.ensures.ok
    (ap (λ ws. option_map (λ rest. c.loop-word.pairs ++ rest) (pairs_of (map string_bytes ws))) (sym split) ∙ c.loop-word.invariant)
