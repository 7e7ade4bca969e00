use Rattle.std.proofs.Common.{◌≡◌, ◌++◌, length}
use Rattle.json.specs.Json.{parse_map}
use Rattle.gc_json.specs.Entries.{Entries, entries_data}
use Rattle.gc_json.specs.Frames.{frame_of}
use Rattle.gc_json.proofs.frame.frame_of_tokens.Given as goal

-- the frame is that of the members so far, which with the rest are all
abbrev pub invariant-members : goal.invariant-members
invariant-members l =
    (before : Entries) × (entries_data l.depth l.initial.reader ≡ parse_map (λ es. before ++ es) (entries_data l.depth l.reader)) × (l.frame ≡ frame_of before)

abbrev pub decreases-members : goal.decreases-members
decreases-members l = length l.reader
