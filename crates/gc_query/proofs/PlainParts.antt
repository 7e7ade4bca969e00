-- A view of nodes and edges without EXISTS, by its parts.
use Rattle.std.proofs.Common.{◌≡◌, ℕ, suc, ◌==◌, ◌&&◌, Bool, false, List, [], ◌∷◌, length, map, Some, Option, refl, sym, ap, ◌∙◌, arith}
use Rattle.std.proofs.lemmas.Bool.Decides.{nat_tests}
use Rattle.std.specs.List.{list_all}
use Rattle.std.specs.Option.{option_map}
use Rattle.gc_ast.specs.PatternViews.{pattern_tree}
use Rattle.gc_ast.specs.QueryViews.{formula_tree, query_tree}
use Rattle.gc_ast.specs.Trees as tree
use Rattle.gc_ast.specs.Trees.{Tree, AFormula, maybe, row, rows}
use Rattle.gc_ast.specs.declared.pattern.Chain.{Chain}
use Rattle.gc_ast.specs.declared.pattern.Pattern.{Pattern}
use Rattle.gc_ast.specs.declared.pattern.Pattern.TheVariants as pattern
use Rattle.gc_ast.specs.declared.query.Formula.{Formula, out-Formula}
use Rattle.gc_ast.specs.declared.query.Query.{Query}
use Rattle.gc_expr.specs.Trees.{TreeOf, AnExpr, renamed}
use Rattle.gc_expr.specs.Views.{Names, name_of, numbered_expr}
use Rattle.gc_lower.proofs.TreeParts.{formula_parts}
use Rattle.gc_query.specs.Answered.{plain_pattern}
use Rattle.gc_query.specs.Segments.{are_plain, are_plain_chains, has_no_query, is_plain}

module _ (names : Names) where
  pattern_plain : (p : Pattern) → plain_pattern p ≡ is_plain (pattern_tree names p)
  pattern_plain (pattern.Node e) = refl
  pattern_plain (pattern.Edge way e) = refl
  pattern_plain (pattern.Path token regex_at body) = refl

  parts_plain : (ps : List Pattern) → list_all plain_pattern ps ≡ are_plain (row (map (pattern_tree names) ps))
  parts_plain [] = refl
  parts_plain (p ∷ ps) = ap (λ b. b && list_all plain_pattern ps) (pattern_plain p) ∙ ap (λ b. is_plain (pattern_tree names p) && b) (parts_plain ps)

  pub chains_plain : (chains : List Chain) → list_all (λ c. list_all plain_pattern c.parts) chains ≡ are_plain_chains (rows (map (λ c. map (pattern_tree names) c.parts) chains))
  chains_plain [] = refl
  chains_plain (chain ∷ chains) =
      ap (λ b. b && list_all (λ (c : Chain). list_all plain_pattern c.parts) chains) (parts_plain chain.parts)
      ∙ ap (λ b. are_plain (row (map (pattern_tree names) chain.parts)) && b) (chains_plain chains)

  not_none : (n : ℕ) → (suc n == 0) ≡ false
  not_none n = grind (arith, nat_tests)

  no_items : (e : TreeOf (List ℕ) AnExpr) (queries : List Query) → (length queries == 0) ≡ has_no_query (tree.more (tree.Formula e (row (map (query_tree names) queries))) tree.none)
  no_items e [] = refl
  no_items e (query ∷ queries) = not_none (length queries)

  -- a WHERE without EXISTS
  pub nothing_asked : (filter : Option Formula) (f : Formula) (queries : List Query) (told : Bool) → filter ≡ Some f → queries ≡ (out-Formula f).exists.items → told ≡ (length queries == 0)
      → told ≡ has_no_query (maybe (option_map (formula_tree names) filter))
  nothing_asked filter f queries told is e h =
      h ∙ (ap (λ (qs : List Query). length qs == 0) e ∙ (no_items (renamed (name_of names) (numbered_expr (out-Formula f).expr)) (out-Formula f).exists.items
      ∙ (ap (λ (t : Tree AFormula). has_no_query (tree.more t tree.none)) (sym (formula_parts names f)) ∙ ap (λ o. has_no_query (maybe (option_map (formula_tree names) o))) (sym is))))
