use Rattle.std.proofs.Common.{◌≡◌, ◌+◌, ◌-◌, ◌*◌, ◌≤◌, [], length}
use Rattle.gc_search.specs.Counting.{asked, most_moves}
use Rattle.gc_search.specs.Waiting.{links_of}
use Rattle.gc_search.proofs.ReadyLaws.{IsReady}
use Rattle.gc_search.proofs.settling.settle.Given as goal

abbrev pub invariant-turns : goal.invariant-turns
invariant-turns g l = record {
  same : l.settled.setting ≡ l.p;
  ready : IsReady l.fn.source l.k l.settled l.pending;
  none : l.more.items ≡ [];
  few : l.steps ≤ l.initial.steps + asked l.settled.setting l.settled.walks;
}

-- the moves that may still be asked for, and the walks that are pending
abbrev pub decreases-turns : goal.decreases-turns
decreases-turns g l = (l.k * most_moves l.settled.setting - asked l.settled.setting l.settled.walks) + length (links_of l.pending)
