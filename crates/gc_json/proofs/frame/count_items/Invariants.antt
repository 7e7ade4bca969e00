use Rattle.std.proofs.Common.{◌≡◌, ◌+◌, ◌≤◌, length}
use Rattle.json.specs.Json.{parse_map}
use Rattle.serde_json.specs.Events.{items_len}
use Rattle.gc_json.specs.Tokens.{items_data}
use Rattle.gc_json.proofs.frame.count_items.Given as goal

-- the count so far with the rest is the length of all
abbrev pub invariant-items : goal.invariant-items
invariant-items l =
    (parse_map items_len (items_data l.depth l.initial.reader) ≡ parse_map (λ ds. l.count + items_len ds) (items_data l.depth l.reader)) × (length l.reader ≤ length l.initial.reader)

abbrev pub decreases-items : goal.decreases-items
decreases-items l = length l.reader
