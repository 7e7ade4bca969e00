-- Blocks by their parts: those of one OPTIONAL block and of the ones behind it, those of all, and the conjuncts of a WHERE.
use Rattle.std.proofs.Common.{◌≡◌, sym, ap, ◌∙◌, ℕ, ◌+◌, ◌<◌, ◌≤◌, List, [], ◌∷◌, ◌++◌, length, get_or, drop, map, Option, Some}
use Rattle.std.proofs.lemmas.List.{append_assoc, append-nil, drop_all, map-append}
use Rattle.std.specs.Option.{option_map}
use Rattle.gc_values.specs.declared.reads.ReadUse.{ReadUse}
use Rattle.gc_expr.specs.Trees.{renamed}
use Rattle.gc_expr.specs.Views.{Names, name_of, numbered_expr}
use Rattle.gc_ast.specs.QueryViews.{basic_tree, block_tree as match_tree, formula_tree, optional_tree, query_tree, term_tree}
use Rattle.gc_ast.specs.Trees as tree
use Rattle.gc_ast.specs.declared.query.Basic.{Basic, out-Basic}
use Rattle.gc_ast.specs.declared.query.Formula.{Formula, out-Formula}
use Rattle.gc_ast.specs.declared.query.Query.{Query, out-Query}
use Rattle.gc_ast.specs.declared.query.OptionalBlock.{OptionalBlock, out-OptionalBlock}
use Rattle.gc_alg.specs.Trees.{Tree, AnExists, BlockOf, row}
use Rattle.gc_alg.specs.Views.{part_tree}
use Rattle.gc_alg.specs.declared.block.Part.{Part}
use Rattle.gc_lower.specs.Blocks.{block_atoms, block_of, optional_parts, optional_reads, part_of, queries_of, query_block, term_block, where_conjuncts}
use Rattle.gc_lower.specs.Conditions.{and_parts, dealt}
use Rattle.gc_lower.specs.Reads.{reads_of}
use Rattle.gc_lower.specs.Scopes.{Scope, variable_of}
use Rattle.gc_lower.proofs.Dealings.{one_and_rest}
use Rattle.gc_lower.proofs.Renamings.{renamed_twice}
use Rattle.gc_lower.proofs.TreeParts as parts

-- those of the OPTIONAL blocks from a place on
abbrev from : Names → List OptionalBlock → tree.Tree (tree.RowOf tree.AnOptional)
from names os = tree.row (map (optional_tree names) os)

-- the first of some OPTIONAL blocks and the others
one_optional : (names : Names) (os : List OptionalBlock) (i : ℕ) (o : OptionalBlock) → i < length os → o ≡ get_or os i o
    → from names (drop i os) ≡ tree.more (tree.Optional (out-OptionalBlock o).token (match_tree names (out-OptionalBlock o).block)) (from names (drop (i + 1) os))
one_optional names os i o h at = ap (from names) (one_and_rest os i o h at) ∙ ap (λ t. tree.more t (from names (drop (i + 1) os))) (parts.optional_parts names o)

module _ (names : Names) (s : Scope) (around before after : List ReadUse) (os : List OptionalBlock) (i : ℕ) (o : OptionalBlock) where
  pub next_parts : (done made : List Part) (p : Part) → i < length os → o ≡ get_or os i o
      → part_tree p ≡ part_of s around before (match_tree names (out-OptionalBlock o).block)
      → after ≡ before ++ reads_of (block_atoms s (match_tree names (out-OptionalBlock o).block))
      → made ≡ done ++ p ∷ []
      → map part_tree made ++ optional_parts s around after (from names (drop (i + 1) os)) ≡ map part_tree done ++ optional_parts s around before (from names (drop i os))
  unfolding block_of
  next_parts done made p h at part_is after_is made_is =
      let made_trees : map part_tree made ≡ map part_tree done ++ part_tree p ∷ [] = ap (map part_tree) made_is ∙ map-append part_tree done (p ∷ []) in
      (λ j. made_trees j ++ optional_parts s around (after_is j) (from names (drop (i + 1) os)))
      ∙ append_assoc (map part_tree done) (part_tree p ∷ [])
      (optional_parts s around (before ++ reads_of (block_atoms s (match_tree names (out-OptionalBlock o).block))) (from names (drop (i + 1) os)))
      ∙ ap (λ t. map part_tree done ++ (t ∷ optional_parts s around (before ++ reads_of (block_atoms s (match_tree names (out-OptionalBlock o).block)))
      (from names (drop (i + 1) os)))) part_is
      ∙ ap (λ t. map part_tree done ++ optional_parts s around before t) (sym (one_optional names os i o h at))

  pub next_reads : i < length os → o ≡ get_or os i o
      → after ≡ before ++ reads_of (block_atoms s (match_tree names (out-OptionalBlock o).block))
      → after ++ optional_reads s (from names (drop (i + 1) os)) ≡ before ++ optional_reads s (from names (drop i os))
  next_reads h at after_is =
      ap (λ rs. rs ++ optional_reads s (from names (drop (i + 1) os))) after_is
      ∙ append_assoc before (reads_of (block_atoms s (match_tree names (out-OptionalBlock o).block))) (optional_reads s (from names (drop (i + 1) os)))
      ∙ ap (λ t. before ++ optional_reads s t) (sym (one_optional names os i o h at))

-- what is made of a block with all its OPTIONAL blocks
pub whole_block : (names : Names) (s : Scope) (around start first reads : List ReadUse) (b : Basic) (os : List OptionalBlock) (i : ℕ) (begun made : List Part) (p : Part)
    → os ≡ (out-Basic b).optionals.items → length os ≤ i
    → start ≡ around
    → part_tree p ≡ part_of s around start (match_tree names (out-Basic b).main)
    → first ≡ start ++ reads_of (block_atoms s (match_tree names (out-Basic b).main))
    → begun ≡ p ∷ []
    → map part_tree made ++ optional_parts s around reads (from names (drop i os)) ≡ map part_tree begun ++ optional_parts s around first (from names os)
    → reads ++ optional_reads s (from names (drop i os)) ≡ first ++ optional_reads s (from names os)
    → BlockOf (row (map part_tree made)) reads ≡ block_of s around (basic_tree names b)
unfolding block_of
whole_block names s around start first reads b os i begun made p os_is past start_is part_is first_is begun_is parts_so_far reads_so_far =
    let main = match_tree names (out-Basic b).main in
    let own = reads_of (block_atoms s main) in
    let nothing : drop i os ≡ [] = drop_all i os past in
    let first_whole : first ≡ around ++ own = first_is ∙ ap (λ r. r ++ own) start_is in
    let main_part : part_tree p ≡ part_of s around around main = part_is ∙ ap (λ r. part_of s around r main) start_is in
    let parts_whole : map part_tree made ≡ part_of s around around main ∷ optional_parts s around (around ++ own) (from names (out-Basic b).optionals.items) =
    sym (append-nil (map part_tree made))
    ∙ ap (λ ds. map part_tree made ++ optional_parts s around reads (from names ds)) (sym nothing)
    ∙ parts_so_far
    ∙ (λ j. map part_tree (begun_is j) ++ optional_parts s around (first_whole j) (from names (os_is j)))
    ∙ ap (λ t. t ∷ optional_parts s around (around ++ own) (from names (out-Basic b).optionals.items)) main_part in
    let reads_whole : reads ≡ (around ++ own) ++ optional_reads s (from names (out-Basic b).optionals.items) =
    sym (append-nil reads)
    ∙ ap (λ ds. reads ++ optional_reads s (from names ds)) (sym nothing)
    ∙ reads_so_far
    ∙ (λ j. first_whole j ++ optional_reads s (from names (os_is j))) in
    (λ j. BlockOf (row (parts_whole j)) (reads_whole j)) ∙ ap (block_of s around) (sym (parts.basic_parts names b))

-- the conjuncts of a WHERE, by its condition and what is made of its EXISTS queries
pub conjuncts_of_where : (names : Names) (s : Scope) (around : List ReadUse) (filter : Option Formula) (f : Formula) (queries : List Query) (made : List (Tree AnExists))
    → filter ≡ Some f → queries ≡ (out-Formula f).exists.items
    → made ≡ queries_of s around (tree.row (map (query_tree names) queries))
    → dealt 0 (and_parts (renamed (λ sym. variable_of s (name_of names sym)) (numbered_expr (out-Formula f).expr))) made ≡ where_conjuncts s around (tree.maybe (option_map (formula_tree names) filter))
unfolding block_of
conjuncts_of_where names s around filter f queries made filter_is queries_is made_is =
    let e = numbered_expr (out-Formula f).expr in
    ap (dealt 0 (and_parts (renamed (λ sym. variable_of s (name_of names sym)) e))) (made_is ∙ ap (λ qs. queries_of s around (tree.row (map (query_tree names) qs))) queries_is)
    ∙ ap (λ t. dealt 0 (and_parts t) (queries_of s around (tree.row (map (query_tree names) (out-Formula f).exists.items)))) (sym (renamed_twice (variable_of s) (name_of names) e))
    ∙ ap (λ t. where_conjuncts s around (tree.more t tree.none)) (sym (parts.formula_parts names f))
    ∙ ap (λ o. where_conjuncts s around (tree.maybe (option_map (formula_tree names) o))) (sym filter_is)

-- the block of a query by its first term
pub block_of_term : (names : Names) (s : Scope) (around : List ReadUse) (q : Query) (t : tree.Tree tree.ATerm) → term_tree names (out-Query q).first ≡ t
    → term_block s around t ≡ query_block s around (query_tree names q)
unfolding block_of
block_of_term names s around q t first_is = ap (term_block s around) (sym first_is) ∙ ap (query_block s around) (sym (parts.query_parts names q))
