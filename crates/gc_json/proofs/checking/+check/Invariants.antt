use Rattle.std.proofs.Common.{◌≡◌, ◌+◌, ◌*◌, ◌≤◌, length}
use Rattle.serde_json.specs.Data.{Members, no_members}
use Rattle.gc_json.specs.Tokens.{items_data, members_data, rest_of}
use Rattle.gc_json.proofs.checking.+check.Given as goal

abbrev pub decreases-check_value : goal.decreases-check_value
decreases-check_value l = 3 * l.depth + 1

abbrev pub decreases-check_items : goal.decreases-check_items
decreases-check_items l = 3 * l.depth + 2

abbrev pub decreases-check_members : goal.decreases-check_members
decreases-check_members l = 3 * l.depth + 2

abbrev pub invariant-check_items-items : goal.invariant-check_items-items
invariant-check_items-items l =
    (rest_of (items_data l.depth l.initial.reader) ≡ rest_of (items_data l.depth l.reader)) × (length l.reader ≤ length l.initial.reader)

abbrev pub decreases-check_items-items : goal.decreases-check_items-items
decreases-check_items-items l = length l.reader

abbrev pub invariant-check_members-members : goal.invariant-check_members-members
invariant-check_members-members l =
    (found : Members) × (rest_of (members_data l.depth no_members l.initial.reader) ≡ rest_of (members_data l.depth found l.reader)) × (length l.reader ≤ length l.initial.reader)

abbrev pub decreases-check_members-members : goal.decreases-check_members-members
decreases-check_members-members l = length l.reader

abbrev pub decreases-check_token : goal.decreases-check_token
decreases-check_token l = 3 * l.depth
