-- The pieces of queries and their parts, list by list.
use Rattle.std.proofs.Common.{◌≡◌, ℕ, ◌+◌, List, [], ◌∷◌, ◌++◌, map, Option, refl, ap, ◌∙◌, rules, Vec, Global, codes}
use Rattle.std.specs.List.{flat_map}
use Rattle.std.specs.Option.{option_map}
use Rattle.gc_base.specs.declared.place.NameAt.{NameAt}
use Rattle.gc_expr.specs.Trees.{renamed}
use Rattle.gc_expr.specs.Views.{Names, name_of, numbered_expr}
use Rattle.gc_ast.specs.declared.construct.Change.{the_lemmas, Change}
use Rattle.gc_ast.specs.declared.construct.Change.TheViews.{Path, Stored, Chain}
use Rattle.gc_ast.specs.declared.query.OptionalBlock.{OptionalBlock, out-OptionalBlock}
use Rattle.gc_ast.specs.declared.construct.Assign.{Assign}
use Rattle.gc_ast.specs.declared.construct.GroupTerm.{GroupTerm}
use Rattle.gc_lex.specs.declared.token.Mark.TheVariants as mark
use Rattle.gc_ast.specs.declared.construct.ConstructPart.{ConstructPart}
use Rattle.gc_ast.specs.declared.construct.NewElement.{NewElement, out-NewElement}
use Rattle.gc_ast.specs.declared.pattern.Chain as pattern
use Rattle.gc_ast.specs.declared.query.Formula.{Formula, out-Formula}
use Rattle.gc_ast.specs.declared.query.Query.{Query, out-Query}
use Rattle.gc_ast.specs.declared.query.Basic.{Basic, out-Basic}
use Rattle.gc_ast.specs.declared.query.MatchBlock.{MatchBlock, out-MatchBlock}
use Rattle.gc_ast.specs.Trees as tree
use Rattle.gc_ast.specs.Trees.{Kind, Tree, RowOf, APattern, ALocated, row, rows, maybe}
use Rattle.gc_ast.specs.PatternViews.{named, named_if, pattern_tree, located_tree, group_term_tree}
use Rattle.gc_ast.specs.QueryViews.{query_by, head_by, term_by, next_term_by, basic_by, item_by, block_by, optional_by, formula_by, part_by, change_by, new_element_by, assign_by, query_tree, head_tree, term_tree, next_term_tree, basic_tree, item_tree, block_tree, optional_tree, formula_tree, part_tree, change_tree, new_element_tree, assign_tree}
use Rattle.gc_print_query.specs.Pieces.{Piece, Blank, Line}
use Rattle.gc_print_query.specs.ExpressionPieces.{word, mark_piece, parts_of}
use Rattle.gc_print_query.specs.QueryPieces.{pieces_of, lined, clause, enclosed, name_if, copy_if, grouped, label, braced, path}
use Rattle.gc_print_query.proofs.PatternPieces.{list_pieces, flat_pieces, located_same, chains_same}

-- ---- queries

query_of : (names : Names) (q : Query)
    → query_tree names q ≡ tree.Query (row (map (head_tree names) (out-Query q).heads.items)) (term_tree names (out-Query q).first) (row (map (next_term_tree names) (out-Query q).rest.items))
unfolding query_by head_by term_by next_term_by
query_of names q = search (rules, the_lemmas)

pub query_pieces : (n : ℕ) (names : Names) (q : Query)
    → pieces_of n (query_tree names q)
    ≡ flat_map (λ h. pieces_of n (head_tree names h)) (out-Query q).heads.items ++ (pieces_of n (term_tree names (out-Query q).first) ++ flat_map (λ t. pieces_of n (next_term_tree names t)) (out-Query q).rest.items)
unfolding pieces_of
query_pieces n names q =
    ap (pieces_of n) (query_of names q)
    ∙ (λ i. flat_pieces n (head_tree names) (λ h. h) (out-Query q).heads.items i ++ (pieces_of n (term_tree names (out-Query q).first) ++ flat_pieces n (next_term_tree names) (λ t. t) (out-Query q).rest.items i))

basic_of : (names : Names) (b : Basic)
    → basic_tree names b ≡ tree.Basic (out-Basic b).token (row (map (item_tree names) (out-Basic b).items.items)) (block_tree names (out-Basic b).main) (row (map (optional_tree names) (out-Basic b).optionals.items))
unfolding basic_by item_by block_by optional_by
basic_of names b = search (rules, the_lemmas)

pub basic_pieces : (n : ℕ) (names : Names) (b : Basic)
    → pieces_of n (basic_tree names b)
    ≡ (word (codes "CONSTRUCT") ∷ Blank ∷ []) ++ (lined (n + 1) (map (λ x. pieces_of n (item_tree names x)) (out-Basic b).items.items)
    ++ ((Line n ∷ word (codes "MATCH") ∷ Blank ∷ []) ++ (pieces_of n (block_tree names (out-Basic b).main) ++ flat_map (λ o. Line n ∷ pieces_of n (optional_tree names o)) (out-Basic b).optionals.items)))
unfolding pieces_of
basic_pieces n names b =
    ap (pieces_of n) (basic_of names b)
    ∙ (λ i. word (codes "CONSTRUCT") ∷ Blank ∷ (lined (n + 1) (list_pieces n (item_tree names) (out-Basic b).items.items i)
    ++ Line n ∷ word (codes "MATCH") ∷ Blank ∷ (pieces_of n (block_tree names (out-Basic b).main) ++ flat_pieces n (optional_tree names) (λ o. Line n ∷ o) (out-Basic b).optionals.items i)))

block_of : (names : Names) (b : MatchBlock)
    → block_tree names b ≡ tree.Block (row (map (located_tree names) (out-MatchBlock b).patterns)) (maybe (option_map (formula_tree names) (out-MatchBlock b).filter))
unfolding block_by formula_by
block_of names b = search (rules, the_lemmas)

map_same : {X : Type 0} (f g : X → List Piece) → ((x : X) → f x ≡ g x) → (xs : List X) → map f xs ≡ map g xs
map_same f g same [] = refl
map_same f g same (x ∷ xs) = λ i. same x i ∷ map_same f g same xs i

pub block_pieces : (n : ℕ) (names : Names) (b : MatchBlock)
    → pieces_of n (block_tree names b)
    ≡ lined (n + 1) (map (λ l. pieces_of 0 (located_tree names l)) (out-MatchBlock b).patterns) ++ clause n (codes "WHERE") (pieces_of n (maybe (option_map (formula_tree names) (out-MatchBlock b).filter)))
unfolding pieces_of
block_pieces n names b =
    ap (pieces_of n) (block_of names b)
    ∙ ap (λ lists. lined (n + 1) lists ++ clause n (codes "WHERE") (pieces_of n (maybe (option_map (formula_tree names) (out-MatchBlock b).filter))))
    (list_pieces n (located_tree names) (out-MatchBlock b).patterns ∙ map_same _ _ (λ l. located_same n (located_tree names l)) (out-MatchBlock b).patterns)

path_of : (names : Names) (name : NameAt) (chains : List pattern.Chain) (filter cost : Option Formula)
    → head_tree names (Path name chains filter cost)
    ≡ tree.PathHead (named names name) (rows (map (λ c. map (pattern_tree names) c.parts) chains)) (maybe (option_map (formula_tree names) filter)) (maybe (option_map (formula_tree names) cost))
unfolding head_by formula_by
path_of names name chains filter cost = search (rules, the_lemmas)

rows_pieces : {X : Type 0} (f : X → List (Tree APattern)) (xs : List X) → map (flat_map (λ part. part)) (pieces_of 0 (rows (map f xs))) ≡ map (λ x. flat_map (pieces_of 0) (f x)) xs
unfolding pieces_of
rows_pieces f [] = refl
rows_pieces f (x ∷ xs) = λ i. chain_flat (f x) i ∷ rows_pieces f xs i
  where
    chain_flat : (ts : List (Tree APattern)) → flat_map (λ part. part) (pieces_of 0 (row ts)) ≡ flat_map (pieces_of 0) ts
    chain_flat [] = refl
    chain_flat (t ∷ ts) = ap (λ ps. pieces_of 0 t ++ ps) (chain_flat ts)

flat_mapped : {X Y : Type 0} (f : Y → List Piece) (g : X → Y) (xs : List X) → flat_map f (map g xs) ≡ flat_map (λ x. f (g x)) xs
flat_mapped f g [] = refl
flat_mapped f g (x ∷ xs) = ap (λ ps. f (g x) ++ ps) (flat_mapped f g xs)

-- the chains of a view
pub chains_pieces : (n : ℕ) (names : Names) (chains : List pattern.Chain)
    → map (flat_map (λ part. part)) (pieces_of n (rows (map (λ c. map (pattern_tree names) c.parts) chains))) ≡ map (λ c. flat_map (λ p. pieces_of 0 (pattern_tree names p)) c.parts) chains
chains_pieces n names chains =
    ap (map (flat_map (λ part. part))) (chains_same n (rows (map (λ c. map (pattern_tree names) c.parts) chains)))
    ∙ rows_pieces (λ c. map (pattern_tree names) c.parts) chains
    ∙ map_same _ _ (λ (c : pattern.Chain). flat_mapped (pieces_of 0) (pattern_tree names) c.parts) chains

formula_of : (names : Names) (f : Formula) → formula_tree names f ≡ tree.Formula (renamed (name_of names) (numbered_expr (out-Formula f).expr)) (row (map (query_tree names) (out-Formula f).exists.items))
unfolding formula_by query_by
formula_of names f = search (rules, the_lemmas)

map_map : {X Y Z : Type 0} (f : Y → Z) (g : X → Y) (xs : List X) → map f (map g xs) ≡ map (λ x. f (g x)) xs
map_map f g [] = refl
map_map f g (x ∷ xs) = ap (λ ys. f (g x) ∷ ys) (map_map f g xs)

pub formula_pieces : (n : ℕ) (names : Names) (f : Formula)
    → pieces_of n (formula_tree names f)
    ≡ (parts_of (map (λ query. enclosed n (pieces_of (n + 1) (query_tree names query))) (out-Formula f).exists.items) (renamed (name_of names) (numbered_expr (out-Formula f).expr))).pieces
unfolding pieces_of
formula_pieces n names f =
    ap (pieces_of n) (formula_of names f)
    ∙ ap (λ lists. (parts_of lists (renamed (name_of names) (numbered_expr (out-Formula f).expr))).pieces)
    (ap (map (enclosed n)) (list_pieces (n + 1) (query_tree names) (out-Formula f).exists.items) ∙ map_map (enclosed n) (λ query. pieces_of (n + 1) (query_tree names query)) (out-Formula f).exists.items)

pub path_pieces : (n : ℕ) (names : Names) (name : NameAt) (chains : List pattern.Chain) (filter cost : Option Formula)
    → pieces_of n (head_tree names (Path name chains filter cost))
    ≡ ((word (codes "PATH") ∷ Blank ∷ word (name_of names name.sym) ∷ Blank ∷ mark_piece mark.Equals ∷ Blank ∷ []) ++ lined (n + 1) (map (λ c. flat_map (λ p. pieces_of 0 (pattern_tree names p)) c.parts) chains))
    ++ (clause (n + 1) (codes "WHERE") (pieces_of n (maybe (option_map (formula_tree names) filter)))
    ++ (clause (n + 1) (codes "COST") (pieces_of n (maybe (option_map (formula_tree names) cost))) ++ Line n ∷ []))
unfolding pieces_of
path_pieces n names name chains filter cost =
    ap (pieces_of n) (path_of names name chains filter cost)
    ∙ ap (λ lists. word (codes "PATH") ∷ Blank ∷ word (name_of names name.sym) ∷ Blank ∷ mark_piece mark.Equals ∷ Blank
    ∷ (lined (n + 1) lists ++ (clause (n + 1) (codes "WHERE") (pieces_of n (maybe (option_map (formula_tree names) filter)))
    ++ (clause (n + 1) (codes "COST") (pieces_of n (maybe (option_map (formula_tree names) cost))) ++ Line n ∷ [])))) (chains_pieces n names chains)

chain_of : (names : Names) (parts : Vec ConstructPart Global) (changes : Vec Change Global) (condition : Option Formula)
    → item_tree names (Chain parts changes condition)
    ≡ tree.ChainItem (row (map (part_tree names) parts.items)) (row (map (change_tree names) changes.items)) (maybe (option_map (formula_tree names) condition))
unfolding item_by part_by change_by formula_by
chain_of names parts changes condition = search (rules, the_lemmas)

pub chain_pieces : (n : ℕ) (names : Names) (parts : Vec ConstructPart Global) (changes : Vec Change Global) (condition : Option Formula)
    → pieces_of n (item_tree names (Chain parts changes condition))
    ≡ flat_map (λ p. pieces_of n (part_tree names p)) parts.items
    ++ (flat_map (λ c. Line (n + 1) ∷ pieces_of n (change_tree names c)) changes.items ++ clause (n + 1) (codes "WHEN") (pieces_of n (maybe (option_map (formula_tree names) condition))))
unfolding pieces_of
chain_pieces n names parts changes condition =
    ap (pieces_of n) (chain_of names parts changes condition)
    ∙ (λ i. flat_pieces n (part_tree names) (λ p. p) parts.items i
    ++ (flat_pieces n (change_tree names) (λ c. Line (n + 1) ∷ c) changes.items i ++ clause (n + 1) (codes "WHEN") (pieces_of n (maybe (option_map (formula_tree names) condition)))))

stored_of : (names : Names) (token : ℕ) (name : NameAt) (labels : List (List ℕ)) (assigns : Vec Assign Global)
    → part_tree names (Stored token name labels assigns) ≡ tree.NewStored token (named names name) labels (row (map (assign_tree names) assigns.items))
unfolding part_by assign_by
stored_of names token name labels assigns = search (rules, the_lemmas)

pub stored_pieces : (n : ℕ) (names : Names) (token : ℕ) (name : NameAt) (labels : List (List ℕ)) (assigns : Vec Assign Global)
    → pieces_of n (part_tree names (Stored token name labels assigns))
    ≡ path (mark_piece mark.AtSign ∷ word (name_of names name.sym) ∷ (flat_map label labels ++ braced (map (λ a. pieces_of n (assign_tree names a)) assigns.items)))
unfolding pieces_of
stored_pieces n names token name labels assigns =
    ap (pieces_of n) (stored_of names token name labels assigns)
    ∙ ap (λ lists. path (mark_piece mark.AtSign ∷ word (name_of names name.sym) ∷ (flat_map label labels ++ braced lists))) (list_pieces n (assign_tree names) assigns.items)

element_of : (names : Names) (e : NewElement)
    → new_element_tree names e
    ≡ tree.NewElement (out-NewElement e).token (named_if names (out-NewElement e).name) (named_if names (out-NewElement e).copy) (row (map (group_term_tree names) (out-NewElement e).group)) (out-NewElement e).labels
    (row (map (assign_tree names) (out-NewElement e).assigns.items))
unfolding new_element_by assign_by
element_of names e = search (rules, the_lemmas)

group_same : (n : ℕ) (names : Names) (terms : List GroupTerm) → map (λ t. pieces_of n (group_term_tree names t)) terms ≡ map (λ t. pieces_of 0 (group_term_tree names t)) terms
unfolding pieces_of
group_same n names [] = refl
group_same n names (t ∷ ts) = ap (λ ps. pieces_of 0 (group_term_tree names t) ∷ ps) (group_same n names ts)

pub element_pieces : (n : ℕ) (names : Names) (e : NewElement)
    → pieces_of n (new_element_tree names e)
    ≡ name_if (named_if names (out-NewElement e).name) ++ (copy_if (named_if names (out-NewElement e).copy) ++ (grouped (map (λ t. pieces_of 0 (group_term_tree names t)) (out-NewElement e).group)
    ++ (flat_map label (out-NewElement e).labels ++ braced (map (λ a. pieces_of n (assign_tree names a)) (out-NewElement e).assigns.items))))
unfolding pieces_of
element_pieces n names e =
    ap (pieces_of n) (element_of names e)
    ∙ (λ i. name_if (named_if names (out-NewElement e).name) ++ (copy_if (named_if names (out-NewElement e).copy) ++ (grouped ((list_pieces n (group_term_tree names) (out-NewElement e).group ∙ group_same n names (out-NewElement e).group) i)
    ++ (flat_map label (out-NewElement e).labels ++ braced (list_pieces n (assign_tree names) (out-NewElement e).assigns.items i)))))

optional_of : (names : Names) (o : OptionalBlock) → optional_tree names o ≡ tree.Optional (out-OptionalBlock o).token (block_tree names (out-OptionalBlock o).block)
unfolding optional_by block_by
optional_of names o = search (rules, the_lemmas)

pub optional_pieces : (n : ℕ) (names : Names) (o : OptionalBlock)
    → Line n ∷ pieces_of n (optional_tree names o) ≡ (Line n ∷ word (codes "OPTIONAL") ∷ Blank ∷ []) ++ pieces_of n (block_tree names (out-OptionalBlock o).block)
unfolding pieces_of
optional_pieces n names o = ap (λ t. Line n ∷ pieces_of n t) (optional_of names o)
