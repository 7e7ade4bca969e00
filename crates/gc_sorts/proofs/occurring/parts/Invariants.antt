use Rattle.std.proofs.Common.{◌≡◌, drop, map}
use Rattle.gc_expr.specs.Views.{Names}
use Rattle.gc_ast.specs.QueryViews.{part_tree}
use Rattle.gc_ast.specs.Trees.{row}
use Rattle.gc_sorts.specs.Collected.{collect}
use Rattle.gc_sorts.specs.Occurrences.{each, in_part}
use Rattle.gc_sorts.proofs.occurring.parts.Given as goal

abbrev pub invariant-loop-one : goal.invariant-loop-one
invariant-loop-one l = (names : Names) →
    collect l.found (each in_part (row (map (part_tree names) (drop l.one-index l.one-items))))
    ≡ collect l.initial.found (each in_part (row (map (part_tree names) l.one-items)))
