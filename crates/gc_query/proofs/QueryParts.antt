-- The trees of queries by their parts.
use Rattle.std.proofs.Common.{◌≡◌, List, map, Option, rules}
use Rattle.std.specs.Option.{option_map}
use Rattle.gc_ast.specs.declared.construct.Change.{the_lemmas}
use Rattle.gc_ast.specs.declared.construct.Change.TheViews.{Path}
use Rattle.gc_ast.specs.declared.pattern.Chain as pattern
use Rattle.gc_ast.specs.declared.query.Formula.{Formula}
use Rattle.gc_ast.specs.declared.query.NextTerm.{NextTerm, out-NextTerm}
use Rattle.gc_ast.specs.Trees as tree
use Rattle.gc_ast.specs.Trees.{maybe, rows}
use Rattle.gc_ast.specs.PatternViews.{named, pattern_tree}
use Rattle.gc_ast.specs.QueryViews.{formula_by, formula_tree, head_by, head_tree, next_term_by, term_by, next_term_tree, term_tree}
use Rattle.gc_base.specs.declared.place.NameAt.{NameAt}
use Rattle.gc_expr.specs.Views.{Names}

pub next_parts : (names : Names) (n : NextTerm) → next_term_tree names n ≡ tree.NextTerm (out-NextTerm n).op (term_tree names (out-NextTerm n).term)
unfolding next_term_by term_by
next_parts names n = search (rules, the_lemmas)

pub path_head : (names : Names) (name : NameAt) (chains : List pattern.Chain) (filter cost : Option Formula)
    → head_tree names (Path name chains filter cost)
    ≡ tree.PathHead (named names name) (rows (map (λ c. map (pattern_tree names) c.parts) chains)) (maybe (option_map (formula_tree names) filter)) (maybe (option_map (formula_tree names) cost))
unfolding head_by formula_by
path_head names name chains filter cost = search (rules, the_lemmas)
