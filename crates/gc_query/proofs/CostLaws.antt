-- The variables behind COST of a MATCH, block by block.
use Rattle.std.proofs.Common.{◌≡◌, ℕ, ◌+◌, List, [], ◌++◌, map, drop, Some, append_assoc, sym, ap, ◌∙◌, slice_get}
use Rattle.gc_ast.specs.declared.pattern.Located.{Located}
use Rattle.gc_ast.specs.declared.query.Basic.{Basic, out-Basic}
use Rattle.gc_ast.specs.declared.query.MatchBlock.{out-MatchBlock}
use Rattle.gc_ast.specs.declared.query.OptionalBlock.{OptionalBlock, out-OptionalBlock}
use Rattle.gc_ast.specs.PatternViews.{located_tree}
use Rattle.gc_ast.specs.QueryViews.{basic_tree, optional_tree}
use Rattle.gc_ast.specs.Trees as tree
use Rattle.gc_ast.specs.Trees.{Tree, ABlock, AnOptional, row}
use Rattle.gc_expr.specs.Views.{Names}
use Rattle.gc_lower.specs.Scopes.{Scope}
use Rattle.gc_lower.proofs.TreeParts.{basic_parts, block_parts, optional_parts}
use Rattle.gc_query.specs.Costs.{block_costs, costs_of, located_costs, optional_costs}
use Rattle.gc_query.specs.declared.costs.CostAt.{CostAt}
use Rattle.gc_query.proofs.AllOf.{drop_at}

module _ (s : Scope) (names : Names) where
  abbrev of_patterns : List Located → List CostAt
  of_patterns patterns = located_costs s (row (map (located_tree names) patterns))

  abbrev of_optionals : List OptionalBlock → List CostAt
  of_optionals blocks = optional_costs s (row (map (optional_tree names) blocks))

  -- those of the mandatory block are pushed first
  pub main_first : (b : Basic) (patterns : List Located) (optionals : List OptionalBlock) (none pushed : List CostAt)
      → patterns ≡ (out-MatchBlock (out-Basic b).main).patterns → optionals ≡ (out-Basic b).optionals.items → none ≡ [] → pushed ≡ none ++ of_patterns patterns
      → pushed ++ of_optionals (out-Basic b).optionals.items ≡ costs_of s (basic_tree names b)
  main_first b patterns optionals none pushed p o n h =
      ap (λ cs. cs ++ of_optionals (out-Basic b).optionals.items) (h ∙ (ap (λ cs. cs ++ of_patterns patterns) n ∙ ap of_patterns p))
      ∙ sym (ap (costs_of s) (basic_parts names b) ∙ ap (λ (t : Tree ABlock). block_costs s t ++ of_optionals (out-Basic b).optionals.items) (block_parts names (out-Basic b).main))

  -- those of the next OPTIONAL block, and of those behind it
  next_optional : (blocks : List OptionalBlock) (i : ℕ) (o : OptionalBlock) → slice_get blocks i ≡ Some o
      → of_optionals (drop i blocks) ≡ of_patterns (out-MatchBlock (out-OptionalBlock o).block).patterns ++ of_optionals (drop (i + 1) blocks)
  next_optional blocks i o at =
      ap of_optionals (drop_at blocks i o at)
      ∙ (ap (λ (t : Tree AnOptional). optional_costs s (tree.more t (row (map (optional_tree names) (drop (i + 1) blocks))))) (optional_parts names o)
      ∙ ap (λ (t : Tree ABlock). block_costs s t ++ of_optionals (drop (i + 1) blocks)) (block_parts names (out-OptionalBlock o).block))

  pub one_more : (blocks : List OptionalBlock) (i : ℕ) (o : OptionalBlock) (patterns : List Located) (before after whole : List CostAt) → slice_get blocks i ≡ Some o
      → patterns ≡ (out-MatchBlock (out-OptionalBlock o).block).patterns → after ≡ before ++ of_patterns patterns → before ++ of_optionals (drop i blocks) ≡ whole
      → after ++ of_optionals (drop (i + 1) blocks) ≡ whole
  one_more blocks i o patterns before after whole at p h inv =
      ap (λ cs. cs ++ of_optionals (drop (i + 1) blocks)) (h ∙ ap (λ ps. before ++ of_patterns ps) p)
      ∙ (append_assoc before (of_patterns (out-MatchBlock (out-OptionalBlock o).block).patterns) (of_optionals (drop (i + 1) blocks))
      ∙ (ap (λ cs. before ++ cs) (sym (next_optional blocks i o at)) ∙ inv))
