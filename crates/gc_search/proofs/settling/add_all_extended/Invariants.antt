use Rattle.std.proofs.Common.{◌≡◌, ◌+◌, ◌≤◌, List, length, Some}
use Rattle.std.specs.List.{slice_get}
use Rattle.gc_prod.specs.Products.{bundles, moves}
use Rattle.gc_search.specs.Arrivals.{FoundWalk}
use Rattle.gc_search.specs.Links.{Link}
use Rattle.gc_search.specs.Places.{tree_of}
use Rattle.gc_search.specs.Waiting.{IsGrown}
use Rattle.gc_search.proofs.BundleLaws.{moves_from}
use Rattle.gc_search.proofs.settling.add_all_extended.Given as goal

-- what is grown by the bundles that are left is grown by all
abbrev pub invariant-loop-j : goal.invariant-loop-j
invariant-loop-j g l = record {
  grown : (a : FoundWalk) → slice_get l.settled.walks l.place ≡ Some a → (after : List Link)
      → IsGrown (tree_of l.settled) l.k a (moves_from (bundles l.settled.setting a.at.node a.at.state) l.j) l.more.items after
      → IsGrown (tree_of l.settled) l.k a (moves l.settled.setting a.at.node a.at.state) l.initial.more.items after;
  few : (a : FoundWalk) → slice_get l.settled.walks l.place ≡ Some a
      → l.steps + length (moves_from (bundles l.settled.setting a.at.node a.at.state) l.j) ≤ l.initial.steps + length (moves l.settled.setting a.at.node a.at.state);
}
