use Rattle.std.proofs.Common.{◌≡◌, fold, drop}
use Rattle.std.specs.Option.{option_copied}
use Rattle.gc_group.specs.Folds.{test_of, outer}
use Rattle.gc_group.proofs.ends.outermost_of.Given as goal

-- with the rest of the literals it is what is to be
abbrev pub invariant-loop-literal : goal.invariant-loop-literal
invariant-loop-literal l =
    fold (outer (test_of l.end)) (option_copied l.so_far) (drop l.literal-index l.others) ≡ fold (outer (test_of l.end)) (option_copied l.first) l.others
