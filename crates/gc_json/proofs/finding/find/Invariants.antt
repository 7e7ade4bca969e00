use Rattle.std.proofs.Common.{◌≡◌, option_map, length}
use Rattle.gc_json.specs.Entries.{entries_data, nth_at}
use Rattle.gc_json.proofs.finding.find.Given as goal

abbrev pub invariant-members : goal.invariant-members
invariant-members l =
    option_map (λ p. nth_at l.key l.times p.0) (entries_data l.depth l.initial.reader) ≡ option_map (λ p. nth_at l.key l.left p.0) (entries_data l.depth l.reader)

abbrev pub decreases-members : goal.decreases-members
decreases-members l = length l.reader
