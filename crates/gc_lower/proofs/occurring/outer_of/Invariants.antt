use Rattle.std.proofs.Common.{◌≡◌, ◌++◌, drop, filter}
use Rattle.gc_alg.specs.Views.{block_tree}
use Rattle.gc_lower.specs.Blocks.{occurs_in}
use Rattle.gc_lower.proofs.occurring.outer_of.Given as goal

-- those so far and those of the rest are all
abbrev pub invariant-loop-var : goal.invariant-loop-var
invariant-loop-var l =
    l.outer.items ++ filter (occurs_in (block_tree l.block)) (drop l.var-index l.var-items) ≡ filter (occurs_in (block_tree l.block)) l.var-items
