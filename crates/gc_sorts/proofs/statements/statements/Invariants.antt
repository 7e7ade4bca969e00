use Rattle.std.proofs.Common.{◌≡◌, drop, map}
use Rattle.gc_ast.specs.QueryViews.{statement_tree}
use Rattle.gc_ast.specs.Trees.{row}
use Rattle.gc_sorts.specs.Breaches.{first_among}
use Rattle.gc_sorts.specs.SortRules.{breaches}
use Rattle.gc_sorts.proofs.statements.statements.Given as goal

abbrev pub invariant-loop-one : goal.invariant-loop-one
invariant-loop-one l = record {
  names : l.checker.names ≡ l.initial.checker.names;
  found : first_among l.found (breaches l.checker.at (row (map (statement_tree l.initial.checker.names) (drop l.one-index l.one-items)))) ≡ first_among l.initial.found (breaches l.initial.checker.at (row (map (statement_tree l.initial.checker.names) l.one-items)));
}
