use Rattle.std.proofs.Common.{◌≡◌, [], fold, drop}
use Rattle.std.specs.List.{filter}
use Rattle.gc_base.specs.Ascending.{has, with_item}
use Rattle.gc_sets.proofs.common.common_items.Given as goal

-- those so far with those of the rest are all that are common
abbrev pub invariant-loop-item : goal.invariant-loop-item
invariant-loop-item g l =
    fold (with_item g.T.Ord.cmp) l.kept (filter (has g.T.Ord.cmp l.others) (drop l.item-index l.item-items)) ≡ fold (with_item g.T.Ord.cmp) [] (filter (has g.T.Ord.cmp l.others) l.set)
