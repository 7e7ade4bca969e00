use Rattle.std.proofs.Common.{◌≡◌, drop, fold}
use Rattle.gc_query.specs.UsedViews.{each_use_once, with_use}
use Rattle.gc_query.proofs.used_views.each_once.Given as goal

-- what is kept, and what is left, make the whole
abbrev pub invariant-loop-one : goal.invariant-loop-one
invariant-loop-one l = fold with_use l.uses.items (drop l.one-index l.all) ≡ each_use_once l.all
