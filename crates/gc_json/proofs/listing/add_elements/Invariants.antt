use Rattle.std.proofs.Common.{◌≡◌, ◌+◌, ◌≤◌, option_map, length}
use Rattle.json.specs.Json.{parse_map}
use Rattle.serde_json.specs.Events.{items_len}
use Rattle.gc_json.specs.GraphFiles.{add_elements_of}
use Rattle.gc_json.specs.Tokens.{items_data}
use Rattle.gc_json.proofs.listing.add_elements.Given as goal

-- the elements so far with the rest give what all give, and their count with the rest is the count of all
abbrev pub invariant-items : goal.invariant-items
invariant-items l =
    (option_map (λ p. add_elements_of l.seen l.kind 0 l.initial.builder p.0) (items_data l.depth l.initial.reader)
    ≡ option_map (λ p. add_elements_of l.seen l.kind l.index l.builder p.0) (items_data l.depth l.reader))
    × (parse_map items_len (items_data l.depth l.initial.reader) ≡ parse_map (λ ds. l.index + items_len ds) (items_data l.depth l.reader))
    × (length l.reader ≤ length l.initial.reader)

abbrev pub decreases-items : goal.decreases-items
decreases-items l = length l.reader
