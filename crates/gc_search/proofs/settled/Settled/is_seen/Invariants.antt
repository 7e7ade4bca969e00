use Rattle.std.proofs.Common.{drop}
use Rattle.gc_search.specs.Arrivals.{arrivals_at, IsSeen}
use Rattle.gc_search.specs.Links.{walk_of}
use Rattle.gc_search.proofs.LoopLaws.{HasEdges}
use Rattle.gc_search.proofs.settled.Settled.is_seen.Given as goal

abbrev pub invariant-loop-i : goal.invariant-loop-i
invariant-loop-i l =
    IsSeen l.self.walks (walk_of l.self.setting l.self.walks l.next)
    → HasEdges (drop l.i (arrivals_at l.self.walks l.next.at)) (walk_of l.self.setting l.self.walks l.next)
