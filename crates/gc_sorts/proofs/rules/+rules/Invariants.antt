use Rattle.std.proofs.Common.{◌≡◌, drop, map}
use Rattle.gc_ast.specs.QueryViews.{query_tree, next_term_tree, head_tree, optional_tree}
use Rattle.gc_ast.specs.Trees.{row}
use Rattle.gc_sorts.specs.Breaches.{first_among}
use Rattle.gc_sorts.specs.SortRules.{breaches, behind_all}
use Rattle.gc_sorts.proofs.rules.+rules.Given as goal

abbrev pub invariant-heads-loop-one : goal.invariant-heads-loop-one
invariant-heads-loop-one l = record {
  names : l.checker.names ≡ l.initial.checker.names;
  at : behind_all l.checker.at (row (map (head_tree l.initial.checker.names) (drop l.one-index l.one-items))) ≡ behind_all l.initial.checker.at (row (map (head_tree l.initial.checker.names) l.one-items));
  found : first_among l.found (breaches l.checker.at (row (map (head_tree l.initial.checker.names) (drop l.one-index l.one-items)))) ≡ first_among l.initial.found (breaches l.initial.checker.at (row (map (head_tree l.initial.checker.names) l.one-items)));
}

abbrev pub invariant-rest-loop-next : goal.invariant-rest-loop-next
invariant-rest-loop-next l = record {
  checker : l.checker ≡ l.initial.checker;
  found : first_among l.found (breaches l.initial.checker.at (row (map (next_term_tree l.initial.checker.names) (drop l.next-index l.next-items)))) ≡ first_among l.initial.found (breaches l.initial.checker.at (row (map (next_term_tree l.initial.checker.names) l.next-items)));
}

abbrev pub invariant-optionals-loop-one : goal.invariant-optionals-loop-one
invariant-optionals-loop-one l = record {
  checker : l.checker ≡ l.initial.checker;
  found : first_among l.found (breaches l.initial.checker.at (row (map (optional_tree l.initial.checker.names) (drop l.one-index l.one-items)))) ≡ first_among l.initial.found (breaches l.initial.checker.at (row (map (optional_tree l.initial.checker.names) l.one-items)));
}

abbrev pub invariant-queries-loop-one : goal.invariant-queries-loop-one
invariant-queries-loop-one l = record {
  checker : l.checker ≡ l.initial.checker;
  found : first_among l.found (breaches l.initial.checker.at (row (map (query_tree l.initial.checker.names) (drop l.one-index l.one-items)))) ≡ first_among l.initial.found (breaches l.initial.checker.at (row (map (query_tree l.initial.checker.names) l.one-items)));
}
