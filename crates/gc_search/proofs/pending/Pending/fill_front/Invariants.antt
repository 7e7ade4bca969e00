use Rattle.std.proofs.Common.{length}
use Rattle.gc_search.specs.Places.{tree_of}
use Rattle.gc_search.specs.Waiting.{links_of, IsQueue, IsSifted}
use Rattle.gc_search.proofs.pending.Pending.fill_front.Given as goal

abbrev pub invariant-groups : goal.invariant-groups
invariant-groups l = record {
  sifted : IsSifted (tree_of l.settled) l.k (links_of l.initial.self) (links_of l.self);
  queue : IsQueue (tree_of l.settled) l.self;
}

abbrev pub decreases-groups : goal.decreases-groups
decreases-groups l = length l.self.later
