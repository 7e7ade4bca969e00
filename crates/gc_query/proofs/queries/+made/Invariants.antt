use Rattle.std.proofs.Common.{◌≡◌, ◌≤◌, ℕ, ◌++◌, List, drop, map, Result}
use Rattle.std.specs.List.{Contains}
use Rattle.gc_ast.specs.QueryViews.{head_tree, next_term_tree}
use Rattle.gc_ast.specs.Trees.{row}
use Rattle.gc_sets.specs.Origins.{ComesFrom}
use Rattle.gc_spec.specs.PropertyGraph.{PropertyGraph}
use Rattle.gc_query.specs.Answered.{IsLonger, names_in, scope_in, standing_at}
use Rattle.gc_query.specs.Built.{IsBuilt}
use Rattle.gc_query.specs.Evaluations.{Evaluation, EvaluatesHeads, EvaluatesLater, names_under_all}
use Rattle.gc_query.specs.Logs.{IsGained}
use Rattle.gc_query.specs.Queries.{Heads, Joined}
use Rattle.gc_query.specs.Standings.{Standing, Made}
use Rattle.gc_query.specs.declared.fault.Fault.{Fault}
use Rattle.gc_query.proofs.queries.+made.Given as goal

-- what stands under the heads that are left stands under all
abbrev pub invariant-heads_stood-loop-head : goal.invariant-heads_stood-loop-head
invariant-heads_stood-loop-head g l = record {
  built : IsBuilt (scope_in l.session) (row (map (head_tree (names_in l.session)) (drop l.head-index l.heads)));
  rises : l.fn.next ≤ l.free;
  later : l.catalog.next ≤ l.free;
  most : l.free ≤ 9007199254740992;
  longer : IsLonger l.initial.catalog l.catalog;
  come : (g : PropertyGraph) → Contains l.catalog.graphs g → ComesFrom l.initial.catalog.graphs l.fn.next l.free g;
  leads : (under : Result Standing Fault) → Heads (scope_in l.session) (standing_at l.catalog l.free) (row (map (head_tree (names_in l.session)) (drop l.head-index l.heads))) under
      → Heads (scope_in l.session) (standing_at l.initial.catalog l.fn.next) (row (map (head_tree (names_in l.session)) l.heads)) under;
  names : names_under_all l.catalog.names (row (map (head_tree (names_in l.session)) (drop l.head-index l.heads)))
      ≡ names_under_all l.initial.catalog.names (row (map (head_tree (names_in l.session)) l.heads));
  so_far : List Evaluation;
  gained : IsGained (scope_in l.session) l.initial.told so_far l.told;
  evaluated : (later : List Evaluation)
      → EvaluatesHeads (scope_in l.session) l.catalog.names (standing_at l.catalog l.free) (row (map (head_tree (names_in l.session)) (drop l.head-index l.heads))) later
      → EvaluatesHeads (scope_in l.session) l.initial.catalog.names (standing_at l.initial.catalog l.fn.next) (row (map (head_tree (names_in l.session)) l.heads)) (so_far ++ later);
}

-- what the terms that are left come to is what all come to
abbrev pub invariant-joined-loop-later : goal.invariant-joined-loop-later
invariant-joined-loop-later g l = record {
  built : IsBuilt (scope_in l.session) (row (map (next_term_tree (names_in l.session)) (drop l.later-index l.rest)));
  later : l.fn.first.next ≤ l.left.next;
  most : l.left.next ≤ 9007199254740992;
  kept : l.catalog ≡ l.initial.catalog;
  comes : ComesFrom l.initial.catalog.graphs l.initial.catalog.next l.left.next l.left.graph;
  along : (next : ℕ) → next ≤ l.fn.first.next → ComesFrom l.initial.catalog.graphs next l.fn.first.next l.fn.first.graph → ComesFrom l.initial.catalog.graphs next l.left.next l.left.graph;
  leads : (outcome : Result Made Fault) → Joined (scope_in l.session) l.initial.catalog.graphs l.left (row (map (next_term_tree (names_in l.session)) (drop l.later-index l.rest))) outcome
      → Joined (scope_in l.session) l.initial.catalog.graphs l.fn.first (row (map (next_term_tree (names_in l.session)) l.rest)) outcome;
  so_far : List Evaluation;
  gained : IsGained (scope_in l.session) l.initial.told so_far l.told;
  evaluated : (later : List Evaluation)
      → EvaluatesLater (scope_in l.session) l.initial.catalog.names l.initial.catalog.graphs l.left (row (map (next_term_tree (names_in l.session)) (drop l.later-index l.rest))) later
      → EvaluatesLater (scope_in l.session) l.initial.catalog.names l.initial.catalog.graphs l.fn.first (row (map (next_term_tree (names_in l.session)) l.rest)) (so_far ++ later);
}
