use Rattle.std.proofs.Common.{◌≡◌, ◌++◌, length}
use Rattle.json.specs.Json.{parse_map}
use Rattle.gc_json.specs.Entries.{Entries, entries_data}
use Rattle.gc_json.specs.OnePass.{AreOf}
use Rattle.gc_json.proofs.one_pass.add_members.Given as goal

-- the frame and the graph are those of the members so far, which with the rest are all
abbrev pub invariant-members : goal.invariant-members
invariant-members l =
    (before : Entries) × (entries_data 126 l.initial.reader ≡ parse_map (λ es. before ++ es) (entries_data 126 l.reader)) × AreOf l.seen before l.frame l.builder

abbrev pub decreases-members : goal.decreases-members
decreases-members l = length l.reader
