use Rattle.std.proofs.Common.{◌≡◌, drop, map}
use Rattle.gc_alg.specs.Trees.{row}
use Rattle.gc_alg.specs.Views.{conjunct_tree}
use Rattle.gc_lower.specs.Blocks.{in_conjuncts}
use Rattle.gc_lower.proofs.occurring.in_conjuncts.Given as goal

-- it occurs in all where it occurs in the rest
abbrev pub invariant-loop-conjunct : goal.invariant-loop-conjunct
invariant-loop-conjunct l =
    in_conjuncts l.var (row (map conjunct_tree (drop l.conjunct-index l.conjuncts))) ≡ in_conjuncts l.var (row (map conjunct_tree l.conjuncts))
