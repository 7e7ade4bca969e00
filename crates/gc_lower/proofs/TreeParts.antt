-- The trees of blocks, their conditions and their EXISTS queries, by their parts.
use Rattle.std.proofs.Common.{◌≡◌, map, rules, Box, Global}
use Rattle.std.specs.Option.{option_map}
use Rattle.gc_expr.specs.Trees.{renamed}
use Rattle.gc_expr.specs.Trees.{renamed}
use Rattle.gc_expr.specs.Views.{Names, name_of, numbered_expr}
use Rattle.gc_ast.specs.declared.construct.Change.{the_lemmas}
use Rattle.gc_ast.specs.declared.query.Basic.{Basic, out-Basic}
use Rattle.gc_ast.specs.declared.query.Formula.{Formula, out-Formula}
use Rattle.gc_ast.specs.declared.query.MatchBlock.{MatchBlock, out-MatchBlock}
use Rattle.gc_ast.specs.declared.query.OptionalBlock.{OptionalBlock, out-OptionalBlock}
use Rattle.gc_ast.specs.declared.query.Query.{Query, out-Query}
use Rattle.gc_ast.specs.declared.construct.Change.TheViews as term
use Rattle.gc_ast.specs.Trees as tree
use Rattle.gc_ast.specs.Trees.{row, maybe}
use Rattle.gc_ast.specs.PatternViews.{located_tree}
use Rattle.gc_ast.specs.QueryViews.{basic_by, block_by, formula_by, head_by, item_by, next_term_by, optional_by, query_by, term_by, basic_tree, block_tree, formula_tree, head_tree, item_tree, next_term_tree, optional_tree, query_tree, term_tree}

pub basic_parts : (names : Names) (b : Basic)
    → basic_tree names b
    ≡ tree.Basic (out-Basic b).token (row (map (item_tree names) (out-Basic b).items.items))
    (block_tree names (out-Basic b).main) (row (map (optional_tree names) (out-Basic b).optionals.items))
unfolding basic_by block_by item_by optional_by
basic_parts names b = search (rules, the_lemmas)

pub optional_parts : (names : Names) (o : OptionalBlock) → optional_tree names o ≡ tree.Optional (out-OptionalBlock o).token (block_tree names (out-OptionalBlock o).block)
unfolding optional_by block_by
optional_parts names o = search (rules, the_lemmas)

pub block_parts : (names : Names) (b : MatchBlock)
    → block_tree names b ≡ tree.Block (row (map (located_tree names) (out-MatchBlock b).patterns)) (maybe (option_map (formula_tree names) (out-MatchBlock b).filter))
unfolding block_by formula_by
block_parts names b = search (rules, the_lemmas)

pub formula_parts : (names : Names) (f : Formula)
    → formula_tree names f ≡ tree.Formula (renamed (name_of names) (numbered_expr (out-Formula f).expr)) (row (map (query_tree names) (out-Formula f).exists.items))
unfolding formula_by query_by
formula_parts names f = search (rules, the_lemmas)

pub query_parts : (names : Names) (q : Query)
    → query_tree names q
    ≡ tree.Query (row (map (head_tree names) (out-Query q).heads.items)) (term_tree names (out-Query q).first) (row (map (next_term_tree names) (out-Query q).rest.items))
unfolding query_by head_by term_by next_term_by
query_parts names q = search (rules, the_lemmas)

pub basic_term : (names : Names) (b : Box Basic Global) → term_tree names (term.Basic b) ≡ tree.BasicTerm (basic_tree names b.value)
unfolding term_by basic_by
basic_term names b = search (rules, the_lemmas)

pub query_term : (names : Names) (q : Box Query Global) → term_tree names (term.Query q) ≡ tree.QueryTerm (query_tree names q.value)
unfolding term_by query_by
query_term names q = search (rules, the_lemmas)
