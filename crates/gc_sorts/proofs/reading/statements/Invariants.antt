use Rattle.std.proofs.Common.{◌≡◌, drop, map}
use Rattle.gc_ast.specs.QueryViews.{statement_tree}
use Rattle.gc_ast.specs.Trees.{row}
use Rattle.gc_sorts.specs.Collected.{collect}
use Rattle.gc_sorts.specs.Occurrences.{occurrences}
use Rattle.gc_sorts.specs.Scopes.{behind}
use Rattle.gc_sorts.proofs.reading.statements.Given as goal

abbrev pub invariant-loop-one : goal.invariant-loop-one
invariant-loop-one l = record {
  names : l.sight.names ≡ l.initial.sight.names;
  at : behind l.sight.at (row (map (statement_tree l.initial.sight.names) (drop l.one-index l.one-items))) ≡ behind l.initial.sight.at (row (map (statement_tree l.initial.sight.names) l.one-items));
  found : collect l.found (occurrences l.sight.at (row (map (statement_tree l.initial.sight.names) (drop l.one-index l.one-items)))) ≡ collect l.initial.found (occurrences l.initial.sight.at (row (map (statement_tree l.initial.sight.names) l.one-items)));
}
