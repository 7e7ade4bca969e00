use Rattle.std.proofs.Common.{◌≡◌, ◌++◌, drop}
use Rattle.gc_json.proofs.Rest.{rest_of_properties}
use Rattle.gc_json.proofs.elements.write_properties.Given as goal

-- the tokens so far with the rest are the tokens of all
abbrev pub invariant-loop-property : goal.invariant-loop-property
invariant-loop-property l =
    (l.writer.before ≡ l.initial.writer.before)
    × (l.writer.tokens ++ rest_of_properties (drop l.property-index l.property-items) ≡ l.initial.writer.tokens ++ rest_of_properties l.property-items)
