use Rattle.std.proofs.Common.{◌++◌, drop}
use Rattle.std.specs.List.{AllByRecursion}
use Rattle.std.specs.List.Sorted.{IsPermutation}
use Rattle.gc_search.specs.Links.{Walks}
use Rattle.gc_search.specs.Waiting.{links_of, IsLed, IsBehind}
use Rattle.gc_search.proofs.pending.Pending.add_all.Given as goal

abbrev pub invariant-loop-next : goal.invariant-loop-next
invariant-loop-next l = record {
  added : IsPermutation (links_of l.initial.self ++ l.more) (links_of l.self ++ drop l.next-index l.more);
  led : (tree : Walks) → IsLed tree l.last l.initial.self → AllByRecursion (IsBehind tree l.last) l.more → IsLed tree l.last l.self;
}
