use Rattle.std.proofs.Common.{◌≡◌, ◌≤◌, length}
use Rattle.serde_json.specs.Data.{Members, no_members}
use Rattle.gc_json.specs.ElementSeen.{element_seen}
use Rattle.gc_json.specs.ElementValues.{values_at}
use Rattle.gc_json.specs.Tokens.{members_data}
use Rattle.gc_json.proofs.element.element_of_members.Given as goal

-- the element has the values of the members so far
abbrev pub invariant-members : goal.invariant-members
invariant-members l =
    (found : Members) × (members_data l.depth no_members l.initial.reader ≡ members_data l.depth found l.reader) × (values_at l.kind found ≡ element_seen l.element)
    × (length l.reader ≤ length l.initial.reader)

abbrev pub decreases-members : goal.decreases-members
decreases-members l = length l.reader
