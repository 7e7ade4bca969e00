use Rattle.std.proofs.Common.{◌≡◌, fold, drop}
use Rattle.gc_base.specs.Ascending.{with_item}
use Rattle.gc_sets.proofs.descriptions.unite.Given as goal

-- the set so far with the rest is the set with all
abbrev pub invariant-loop-item : goal.invariant-loop-item
invariant-loop-item g l = fold (with_item g.T.Ord.cmp) l.set (drop l.item-index l.item-items) ≡ fold (with_item g.T.Ord.cmp) l.fn.set l.more
