use Rattle.std.proofs.Common.{◌≡◌, drop}
use Rattle.gc_sets.specs.Descriptions.{united_properties}
use Rattle.gc_sets.proofs.descriptions.unite_properties.Given as goal

-- the properties so far with the rest are the properties of both
abbrev pub invariant-loop-property : goal.invariant-loop-property
invariant-loop-property l = united_properties l.properties (drop l.property-index l.property-items) ≡ united_properties l.fn.properties l.more
