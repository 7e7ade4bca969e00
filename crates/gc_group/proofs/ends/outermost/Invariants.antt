use Rattle.std.proofs.Common.{◌≡◌, None, fold, drop}
use Rattle.std.specs.Option.{option_copied}
use Rattle.gc_group.specs.Folds.{test_of, outer, all_literals}
use Rattle.gc_group.proofs.ends.outermost.Given as goal

-- with the literals of the rest of the rows it is what is to be
abbrev pub invariant-loop-value : goal.invariant-loop-value
invariant-loop-value l =
    fold (outer (test_of l.end)) (option_copied l.so_far) (all_literals (drop l.value-index l.values)) ≡ fold (outer (test_of l.end)) None (all_literals l.values)
