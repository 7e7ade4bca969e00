use Rattle.std.proofs.Common.{◌≡◌, ◌++◌, drop}
use Rattle.gc_json.proofs.Rest.{rest_of_array}
use Rattle.gc_cert_text.proofs.written.write_array.Given as goal

-- the tokens so far with the rest are the tokens of all
abbrev pub invariant-loop-item : goal.invariant-loop-item
invariant-loop-item g l =
    (l.writer.before ≡ l.initial.writer.before)
    × (l.writer.tokens ++ rest_of_array g.T.Written.data_of (drop l.item-index l.items) ≡ l.initial.writer.tokens ++ rest_of_array g.T.Written.data_of l.items)
