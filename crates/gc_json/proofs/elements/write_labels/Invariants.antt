use Rattle.std.proofs.Common.{◌≡◌, ◌++◌, drop}
use Rattle.serde_json.specs.Data.{string}
use Rattle.gc_json.proofs.Rest.{rest_of_array}
use Rattle.gc_json.proofs.elements.write_labels.Given as goal

-- the tokens so far with the rest are the tokens of all
abbrev pub invariant-loop-label : goal.invariant-loop-label
invariant-loop-label l =
    (l.writer.before ≡ l.initial.writer.before)
    × (l.writer.tokens ++ rest_of_array string (drop l.label-index l.label-items) ≡ l.initial.writer.tokens ++ rest_of_array string l.label-items)
