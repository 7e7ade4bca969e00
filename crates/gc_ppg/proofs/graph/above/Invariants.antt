use Rattle.std.proofs.Common.{◌≡◌, map, drop}
use Rattle.gc_ppg.proofs.FreeIds.{above}
use Rattle.gc_ppg.proofs.graph.above.Given as goal

-- what is above those so far, and above the rest, is above all
abbrev pub invariant-loop-element : goal.invariant-loop-element
invariant-loop-element g l = above l.free (map g.T.Element.id_of (drop l.element-index l.elements)) ≡ above l.start (map g.T.Element.id_of l.elements)
