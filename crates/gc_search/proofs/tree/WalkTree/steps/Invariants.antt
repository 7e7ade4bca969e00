use Rattle.std.proofs.Common.{◌≡◌, ◌≤◌, ◌++◌, length, reverse, Some}
use Rattle.std.specs.List.{slice_get}
use Rattle.gc_search.specs.Arrivals.{FoundWalk}
use Rattle.gc_search.specs.Links.{walk_of}
use Rattle.gc_search.proofs.tree.WalkTree.steps.Given as goal

abbrev pub invariant-loop-link : goal.invariant-loop-link
invariant-loop-link l = record {
  within : l.link.before ≤ length l.self.walks;
  back : (a : FoundWalk) → slice_get l.self.walks l.place ≡ Some a → (walk_of l.self.setting l.self.walks l.link).steps ++ reverse l.steps.items ≡ a.steps;
}

abbrev pub decreases-loop-link : goal.decreases-loop-link
decreases-loop-link l = l.link.before
