use Rattle.std.proofs.Common.{◌≡◌, drop, map}
use Rattle.gc_ast.specs.PatternViews.{pattern_tree}
use Rattle.gc_ast.specs.Trees.{row}
use Rattle.gc_sorts.specs.Collected.{collect}
use Rattle.gc_sorts.specs.Occurrences.{each, in_pattern}
use Rattle.gc_sorts.proofs.occurring.chain.Given as goal

abbrev pub invariant-loop-part : goal.invariant-loop-part
invariant-loop-part l =
    collect l.found (each (in_pattern l.sight.at) (row (map (pattern_tree l.sight.names) (drop l.part-index l.part-items))))
    ≡ collect l.initial.found (each (in_pattern l.sight.at) (row (map (pattern_tree l.sight.names) l.part-items)))
