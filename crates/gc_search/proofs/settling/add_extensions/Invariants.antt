use Rattle.std.proofs.Common.{◌≡◌, List, map, drop, Some}
use Rattle.std.specs.List.{slice_get}
use Rattle.gc_prod.specs.Products.{moved, moves_by}
use Rattle.gc_search.specs.Arrivals.{FoundWalk}
use Rattle.gc_search.specs.Links.{Link}
use Rattle.gc_search.specs.Places.{tree_of}
use Rattle.gc_search.specs.Waiting.{IsGrown}
use Rattle.gc_search.proofs.settling.add_extensions.Given as goal

-- what is grown by the hops that are left is grown by all
abbrev pub invariant-loop-i : goal.invariant-loop-i
invariant-loop-i l = (a : FoundWalk) → slice_get l.settled.walks l.place ≡ Some a → (after : List Link)
    → IsGrown (tree_of l.settled) l.k a (map (moved l.bundle.state) (drop l.i l.bundle.hops)) l.more.items after
    → IsGrown (tree_of l.settled) l.k a (moves_by l.bundle) l.initial.more.items after
