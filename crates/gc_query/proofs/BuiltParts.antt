-- Which trees are built, by their parts.
use Rattle.std.proofs.Common.{map, subst, Box, Global}
use Rattle.gc_ast.specs.declared.construct.Change.TheViews as term
use Rattle.gc_ast.specs.declared.query.Basic.{Basic}
use Rattle.gc_ast.specs.declared.query.NextTerm.{NextTerm, out-NextTerm}
use Rattle.gc_ast.specs.declared.query.Query.{Query, out-Query}
use Rattle.gc_ast.specs.QueryViews.{basic_tree, head_tree, next_term_tree, query_tree, term_tree}
use Rattle.gc_ast.specs.Trees.{row}
use Rattle.gc_expr.specs.Views.{Names}
use Rattle.gc_lower.specs.Scopes.{Scope}
use Rattle.gc_lower.proofs.TreeParts.{basic_term, query_parts, query_term}
use Rattle.gc_query.specs.Built.{IsBasicBuilt, IsBuilt}
use Rattle.gc_query.proofs.QueryParts.{next_parts}

module _ (s : Scope) (names : Names) where
  pub of_query : (q : Query) → IsBuilt s (query_tree names q)
      → IsBuilt s (row (map (head_tree names) (out-Query q).heads.items)) × IsBuilt s (term_tree names (out-Query q).first) × IsBuilt s (row (map (next_term_tree names) (out-Query q).rest.items))
  unfolding IsBuilt
  of_query q h = subst (IsBuilt s) (query_parts names q) h

  pub of_basic : (b : Box Basic Global) → IsBuilt s (term_tree names (term.Basic b)) → IsBasicBuilt s (basic_tree names b.value)
  unfolding IsBuilt
  of_basic b h = subst (IsBuilt s) (basic_term names b) h

  pub of_inner : (q : Box Query Global) → IsBuilt s (term_tree names (term.Query q)) → IsBuilt s (query_tree names q.value)
  unfolding IsBuilt
  of_inner q h = subst (IsBuilt s) (query_term names q) h

  pub of_next : (n : NextTerm) → IsBuilt s (next_term_tree names n) → IsBuilt s (term_tree names (out-NextTerm n).term)
  unfolding IsBuilt
  of_next n h = subst (IsBuilt s) (next_parts names n) h
