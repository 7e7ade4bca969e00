use Rattle.std.proofs.Common.{◌≡◌, drop, map}
use Rattle.gc_alg.specs.Trees.{row}
use Rattle.gc_alg.specs.Views.{part_tree}
use Rattle.gc_lower.specs.Blocks.{in_parts}
use Rattle.gc_lower.proofs.occurring.in_parts.Given as goal

-- it occurs in all where it occurs in the rest
abbrev pub invariant-loop-part : goal.invariant-loop-part
invariant-loop-part l = in_parts l.var (row (map part_tree (drop l.part-index l.parts))) ≡ in_parts l.var (row (map part_tree l.parts))
