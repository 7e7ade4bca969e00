use Rattle.std.proofs.Common.{◌≡◌, drop, map}
use Rattle.gc_ast.specs.PatternViews.{pattern_tree}
use Rattle.gc_ast.specs.Trees.{rows}
use Rattle.gc_sorts.specs.Collected.{collect}
use Rattle.gc_sorts.specs.Occurrences.{each, in_pattern}
use Rattle.gc_sorts.proofs.occurring.chains.Given as goal

abbrev pub invariant-loop-one : goal.invariant-loop-one
invariant-loop-one l =
    collect l.found (each (each (in_pattern l.sight.at)) (rows (map (λ c. map (pattern_tree l.sight.names) c.parts) (drop l.one-index l.one-items))))
    ≡ collect l.initial.found (each (each (in_pattern l.sight.at)) (rows (map (λ c. map (pattern_tree l.sight.names) c.parts) l.one-items)))
