use Rattle.std.proofs.Common.{◌≡◌, drop, map}
use Rattle.gc_ast.specs.PatternViews.{located_tree}
use Rattle.gc_ast.specs.Trees.{row}
use Rattle.gc_sorts.specs.Collected.{collect}
use Rattle.gc_sorts.specs.Occurrences.{each, in_located}
use Rattle.gc_sorts.proofs.occurring.patterns.Given as goal

abbrev pub invariant-loop-one : goal.invariant-loop-one
invariant-loop-one l =
    collect l.found (each (in_located l.sight.at) (row (map (located_tree l.sight.names) (drop l.one-index l.one-items))))
    ≡ collect l.initial.found (each (in_located l.sight.at) (row (map (located_tree l.sight.names) l.one-items)))
