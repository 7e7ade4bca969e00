use Rattle.std.proofs.Common.{◌≡◌}
use Rattle.serde_json.specs.View.{members_view}
use Rattle.gc_json.specs.PropertyMembers.{properties_among}
use Rattle.gc_json.proofs.GatheredProperties.{properties_with}
use Rattle.gc_json.proofs.properties.properties_in.Given as goal

-- the properties so far with the rest are the properties of all
abbrev pub invariant-loop-key : goal.invariant-loop-key
invariant-loop-key l = properties_with l.properties (members_view l.key-iterator) ≡ properties_among (members_view l.members.entries)
