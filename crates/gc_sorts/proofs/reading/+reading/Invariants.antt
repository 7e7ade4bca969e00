use Rattle.std.proofs.Common.{◌≡◌, drop, map}
use Rattle.gc_ast.specs.QueryViews.{head_tree, next_term_tree, optional_tree, query_tree}
use Rattle.gc_ast.specs.Trees.{row}
use Rattle.gc_sorts.specs.Collected.{collect}
use Rattle.gc_sorts.specs.Occurrences.{occurrences}
use Rattle.gc_sorts.specs.Scopes.{behind}
use Rattle.gc_sorts.proofs.reading.+reading.Given as goal

abbrev pub invariant-heads-loop-one : goal.invariant-heads-loop-one
invariant-heads-loop-one l = record {
  names : l.sight.names ≡ l.initial.sight.names;
  at : behind l.sight.at (row (map (head_tree l.initial.sight.names) (drop l.one-index l.one-items))) ≡ behind l.initial.sight.at (row (map (head_tree l.initial.sight.names) l.one-items));
  found : collect l.found (occurrences l.sight.at (row (map (head_tree l.initial.sight.names) (drop l.one-index l.one-items)))) ≡ collect l.initial.found (occurrences l.initial.sight.at (row (map (head_tree l.initial.sight.names) l.one-items)));
}

abbrev pub invariant-rest-loop-next : goal.invariant-rest-loop-next
invariant-rest-loop-next l = record {
  names : l.sight.names ≡ l.initial.sight.names;
  at : behind l.sight.at (row (map (next_term_tree l.initial.sight.names) (drop l.next-index l.next-items))) ≡ behind l.initial.sight.at (row (map (next_term_tree l.initial.sight.names) l.next-items));
  found : collect l.found (occurrences l.sight.at (row (map (next_term_tree l.initial.sight.names) (drop l.next-index l.next-items)))) ≡ collect l.initial.found (occurrences l.initial.sight.at (row (map (next_term_tree l.initial.sight.names) l.next-items)));
}

abbrev pub invariant-optionals-loop-one : goal.invariant-optionals-loop-one
invariant-optionals-loop-one l = record {
  names : l.sight.names ≡ l.initial.sight.names;
  at : behind l.sight.at (row (map (optional_tree l.initial.sight.names) (drop l.one-index l.one-items))) ≡ behind l.initial.sight.at (row (map (optional_tree l.initial.sight.names) l.one-items));
  found : collect l.found (occurrences l.sight.at (row (map (optional_tree l.initial.sight.names) (drop l.one-index l.one-items)))) ≡ collect l.initial.found (occurrences l.initial.sight.at (row (map (optional_tree l.initial.sight.names) l.one-items)));
}

abbrev pub invariant-queries-loop-one : goal.invariant-queries-loop-one
invariant-queries-loop-one l = record {
  names : l.sight.names ≡ l.initial.sight.names;
  at : behind l.sight.at (row (map (query_tree l.initial.sight.names) (drop l.one-index l.one-items))) ≡ behind l.initial.sight.at (row (map (query_tree l.initial.sight.names) l.one-items));
  found : collect l.found (occurrences l.sight.at (row (map (query_tree l.initial.sight.names) (drop l.one-index l.one-items)))) ≡ collect l.initial.found (occurrences l.initial.sight.at (row (map (query_tree l.initial.sight.names) l.one-items)));
}
