-- What a query comes to, by its heads and its terms.
use Rattle.std.proofs.Common.{◌≡◌, ℕ, ◌+◌, List, map, drop, Some, Result, Ok, Err, Box, Global, sym, subst, slice_get}
use Rattle.gc_ast.specs.declared.construct.Change.TheViews as term
use Rattle.gc_ast.specs.declared.query.Basic.{Basic}
use Rattle.gc_ast.specs.declared.query.NextTerm.{NextTerm, out-NextTerm}
use Rattle.gc_ast.specs.declared.query.Query.{Query, out-Query}
use Rattle.gc_ast.specs.QueryViews.{basic_tree, head_tree, next_term_tree, query_tree, term_tree}
use Rattle.gc_ast.specs.Trees.{Tree, AHead, ATerm, ANextTerm, RowOf, row}
use Rattle.gc_ast.specs.Trees as tree
use Rattle.gc_expr.specs.Views.{Names}
use Rattle.gc_lower.specs.Scopes.{Scope}
use Rattle.gc_lower.proofs.TreeParts.{basic_term, query_parts, query_term}
use Rattle.gc_query.specs.Basics.{DenotesBasic}
use Rattle.gc_query.specs.Queries.{Combines, Denotes, DenotesTerm, Heads, Joined, Terms}
use Rattle.gc_query.specs.Outcomes.{Then}
use Rattle.gc_query.specs.Standings.{Standing, Made}
use Rattle.gc_query.specs.declared.fault.Fault.{Fault}
use Rattle.gc_spec.specs.PropertyGraph.{PropertyGraph}
use Rattle.gc_query.proofs.BuiltRests.{next_row}
use Rattle.gc_query.proofs.Joining.{one_more, right_fails}

module _ (s : Scope) where
  -- terms, by the first and those behind it
  pub terms_come : (at : Standing) (first : Tree ATerm) (rest : Tree (RowOf ANextTerm)) (left outcome : Result Made Fault) → DenotesTerm s at first left
      → Then left (λ made. Joined s at.graphs made rest) outcome → Terms s at first rest outcome
  unfolding Denotes
  terms_come at first rest left outcome d t = (left, d, t)

  whole : (at : Standing) (heads : Tree (RowOf AHead)) (first : Tree ATerm) (rest : Tree (RowOf ANextTerm)) (under : Result Standing Fault) (outcome : Result Made Fault)
      → Heads s at heads under → Then under (λ now. Terms s now first rest) outcome → Denotes s at (tree.Query heads first rest) outcome
  unfolding Denotes
  whole at heads first rest under outcome h t = (under, h, t)

  module _ (names : Names) where
    -- a query, by its heads and its terms
    pub query_comes : (at : Standing) (q : Query) (under : Result Standing Fault) (outcome : Result Made Fault) → Heads s at (row (map (head_tree names) (out-Query q).heads.items)) under
        → Then under (λ now. Terms s now (term_tree names (out-Query q).first) (row (map (next_term_tree names) (out-Query q).rest.items))) outcome → Denotes s at (query_tree names q) outcome
    query_comes at q under outcome h t = subst (λ x. Denotes s at x outcome) (sym (query_parts names q)) (whole at _ _ _ under outcome h t)

    -- a basic query and a query in parentheses are what is inside
    pub basic_comes : (at : Standing) (b : Box Basic Global) (outcome : Result Made Fault) → DenotesBasic s at (basic_tree names b.value) outcome → DenotesTerm s at (term_tree names (term.Basic b)) outcome
    unfolding Denotes
    basic_comes at b outcome d = subst (λ x. DenotesTerm s at x outcome) (sym (basic_term names b)) d

    pub inner_comes : (at : Standing) (q : Box Query Global) (outcome : Result Made Fault) → Denotes s at (query_tree names q.value) outcome → DenotesTerm s at (term_tree names (term.Query q)) outcome
    unfolding Denotes
    inner_comes at q outcome d = subst (λ x. DenotesTerm s at x outcome) (sym (query_term names q)) d

    module _ (graphs : List PropertyGraph) (rest : List NextTerm) (i : ℕ) (x : NextTerm) (at : slice_get rest i ≡ Some x) (left : Made) where
      -- what is left, by the term that is next
      abbrev pub LeftComes : Result Made Fault → Type 0
      LeftComes outcome = Joined s graphs left (row (map (next_term_tree names) (drop i rest))) outcome

      abbrev pub NextComes : Result Made Fault → Type 0
      NextComes right = DenotesTerm s (record { graphs = graphs; next = left.next }) (term_tree names (out-NextTerm x).term) right

      by_row : (outcome : Result Made Fault)
          → Joined s graphs left (tree.more (tree.NextTerm (out-NextTerm x).op (term_tree names (out-NextTerm x).term)) (row (map (next_term_tree names) (drop (i + 1) rest)))) outcome → LeftComes outcome
      by_row outcome j = subst (λ rows. Joined s graphs left rows outcome) (sym (next_row s names rest i x at)) j

      -- a term with a fault, and one that is combined with what stands at its left
      pub term_fails : (fault : Fault) → NextComes (Err fault) → LeftComes (Err fault)
      term_fails fault d = by_row (Err fault) (right_fails s graphs left (out-NextTerm x).op _ _ fault d)

      pub joins : (made : Made) → NextComes (Ok made) → (both : Made) → Combines (out-NextTerm x).op left.graph made both → (outcome : Result Made Fault)
          → Joined s graphs both (row (map (next_term_tree names) (drop (i + 1) rest))) outcome → LeftComes outcome
      joins made d both c outcome j = by_row outcome (one_more s graphs left (out-NextTerm x).op _ _ made d both outcome c j)
