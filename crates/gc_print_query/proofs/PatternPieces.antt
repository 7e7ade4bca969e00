-- The pieces of patterns, which are the same at each depth of lines.
use Rattle.std.proofs.Common.{◌≡◌, ℕ, List, [], ◌∷◌, ◌++◌, map, refl, ap, ◌∙◌, codes}
use Rattle.std.specs.List.{flat_map}
use Rattle.gc_ast.specs.Trees as tree
use Rattle.gc_ast.specs.Trees.{Kind, RowOf, Tree, AnElement, APropertyUse, APattern, APathBody, ALocated, none, more, row, rows}
use Rattle.gc_print_query.specs.Pieces.{Piece}
use Rattle.gc_print_query.specs.ExpressionPieces.{parenthesized}
use Rattle.gc_print_query.specs.QueryPieces.{pieces_of, PiecesOf, name_if, label_group, braced, edge, path, named_if}
use Rattle.gc_print_query.proofs.PatternsRead.{row_pieces}

-- ---- rows

map_map : {X Y Z : Type 0} (f : Y → Z) (g : X → Y) (xs : List X) → map f (map g xs) ≡ map (λ x. f (g x)) xs
map_map f g [] = refl
map_map f g (x ∷ xs) = ap (λ ys. f (g x) ∷ ys) (map_map f g xs)

-- the pieces of a list of trees
pub list_pieces : {X : Type 0} {k : Kind} (n : ℕ) (g : X → Tree k) (xs : List X) → pieces_of n (row (map g xs)) ≡ map (λ x. pieces_of n (g x)) xs
list_pieces n g xs = row_pieces n (map g xs) ∙ map_map (pieces_of n) g xs

pub flat_pieces : {X : Type 0} {k : Kind} (n : ℕ) (g : X → Tree k) (f : PiecesOf k → List Piece) (xs : List X) → flat_map f (pieces_of n (row (map g xs))) ≡ flat_map (λ x. f (pieces_of n (g x))) xs
unfolding pieces_of
flat_pieces n g f [] = refl
flat_pieces n g f (x ∷ xs) = ap (λ ps. f (pieces_of n (g x)) ++ ps) (flat_pieces n g f xs)

pub chain_pieces : {X : Type 0} (g : X → Tree APattern) (xs : List X) → flat_map (λ part. part) (pieces_of 0 (row (map g xs))) ≡ flat_map (λ x. pieces_of 0 (g x)) xs
chain_pieces g xs = flat_pieces 0 g (λ part. part) xs

-- ---- depths

property_row : (n : ℕ) (ps : Tree (RowOf APropertyUse)) → pieces_of n ps ≡ pieces_of 0 ps
unfolding pieces_of
property_row n none = refl
property_row n (more (tree.PropertyUse token k v) ps) = ap (λ rest. pieces_of 0 (tree.PropertyUse token k v) ∷ rest) (property_row n ps)

element_same : (n : ℕ) (e : Tree AnElement) → pieces_of n e ≡ pieces_of 0 e
unfolding pieces_of
element_same n (tree.Element token name labels ps) = ap (λ lists. name_if name ++ (flat_map label_group labels ++ braced lists)) (property_row n ps)

body_same : (n : ℕ) (b : Tree APathBody) → pieces_of n b ≡ pieces_of 0 b
unfolding pieces_of
body_same n (tree.Reach regex views) = refl
body_same n (tree.Found k name regex views cost) = refl
body_same n (tree.All name regex views) = refl
body_same n (tree.Stored name labels) = refl

pattern_same : (n : ℕ) (p : Tree APattern) → pieces_of n p ≡ pieces_of 0 p
unfolding pieces_of
pattern_same n (tree.Node e) = ap parenthesized (element_same n e)
pattern_same n (tree.Edge way e) = ap (edge way) (element_same n e)
pattern_same n (tree.Path token regex_at b) = ap path (body_same n b)

chain_same : (n : ℕ) (ps : Tree (RowOf APattern)) → pieces_of n ps ≡ pieces_of 0 ps
unfolding pieces_of
chain_same n none = refl
chain_same n (more p ps) = λ i. pattern_same n p i ∷ chain_same n ps i

pub located_same : (n : ℕ) (l : Tree ALocated) → pieces_of n l ≡ pieces_of 0 l
unfolding pieces_of
located_same n (tree.Located chain on) = ap (λ lists. flat_map (λ part. part) lists ++ named_if (codes "ON") on) (chain_same n chain)

pub chains_same : (n : ℕ) (cs : Tree (RowOf (RowOf APattern))) → pieces_of n cs ≡ pieces_of 0 cs
unfolding pieces_of
chains_same n none = refl
chains_same n (more c cs) = λ i. chain_same n c i ∷ chains_same n cs i
