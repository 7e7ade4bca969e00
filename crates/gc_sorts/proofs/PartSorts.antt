-- The places of variables in OPTIONAL blocks and in the MATCH of a CONSTRUCT, by what these are made of.
use Rattle.std.proofs.Common.{◌≡◌, ◌++◌, ℕ, List, map, ap, sym, rules}
use Rattle.gc_expr.specs.Views.{Names}
use Rattle.gc_ast.specs.declared.construct.Change.{the_lemmas}
use Rattle.gc_ast.specs.declared.query.Basic.{Basic, out-Basic}
use Rattle.gc_ast.specs.declared.query.OptionalBlock.{OptionalBlock, out-OptionalBlock}
use Rattle.gc_ast.specs.QueryViews.{basic_tree, block_by, block_tree, optional_by, optional_tree}
use Rattle.gc_ast.specs.Trees as tree
use Rattle.gc_ast.specs.Trees.{row}
use Rattle.gc_sorts.specs.Blocks.{MatchBlock, own_uses}
use Rattle.gc_sorts.specs.Uses.{all_of, block_uses, optional_uses}
use Rattle.gc_sorts.specs.Variables.{first_sort}
use Rattle.gc_sorts.proofs.RuleTrees.{basic_of}

optional_of : (names : Names) (o : OptionalBlock) → optional_tree names o ≡ tree.Optional (out-OptionalBlock o).token (block_tree names (out-OptionalBlock o).block)
unfolding optional_by block_by
optional_of names o = search (rules, the_lemmas)

pub optional_is : (names : Names) (o : OptionalBlock) (name : List ℕ) → first_sort (block_uses (block_tree names (out-OptionalBlock o).block)) name ≡ first_sort (optional_uses (optional_tree names o)) name
optional_is names o name = sym (ap (λ t. first_sort (optional_uses t) name) (optional_of names o))

pub match_is : (names : Names) (b : Basic)
    → own_uses (MatchBlock (basic_tree names b)) ≡ block_uses (block_tree names (out-Basic b).main) ++ all_of optional_uses (row (map (optional_tree names) (out-Basic b).optionals.items))
match_is names b = ap (λ t. own_uses (MatchBlock t)) (basic_of names b)
