use Rattle.std.proofs.Common.{◌≡◌, ◌++◌, drop}
use Rattle.gc_json.specs.CanonicalText.{literal_data}
use Rattle.gc_json.proofs.Rest.{rest_of_array}
use Rattle.gc_json.proofs.elements.write_values.Given as goal

-- the tokens so far with the rest are the tokens of all
abbrev pub invariant-loop-literal : goal.invariant-loop-literal
invariant-loop-literal l =
    (l.writer.before ≡ l.initial.writer.before)
    × (l.writer.tokens ++ rest_of_array literal_data (drop l.literal-index l.literal-items) ≡ l.initial.writer.tokens ++ rest_of_array literal_data l.literal-items)
