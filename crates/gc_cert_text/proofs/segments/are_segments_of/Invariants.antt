use Rattle.std.proofs.Common.{◌≡◌, drop}
use Rattle.gc_cert_text.specs.SegmentsOfGraphs.{are_segments_of}
use Rattle.gc_cert_text.proofs.segments.are_segments_of.Given as goal

-- the rest are segments just where all are
abbrev pub invariant-loop-segment : goal.invariant-loop-segment
invariant-loop-segment g l = are_segments_of l.graph (drop l.segment-index l.segments) ≡ are_segments_of l.graph l.segments
