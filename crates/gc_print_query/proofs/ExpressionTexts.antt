-- The pieces of expressions that have lists, and the texts of EXISTS queries.
use Rattle.std.proofs.Common.{◌<◌, ◌≤◌, arith, length, get_or}
use Rattle.std.proofs.Common.{◌≡◌, ℕ, zero, suc, Bool, true, false, ◌&&◌, ◌||◌, ◌==◌, List, [], ◌∷◌, ◌++◌, map, refl, sym, ap, ◌∙◌, rules, Vec, Box, Global, codes}
use Rattle.std.specs.Prelude.{slice_index_or}
use Rattle.std.specs.List.{flat_map}
use Rattle.gc_base.specs.Words.{is_word_part}
use Rattle.gc_expr.specs.declared.expr.Expr.{Expr}
use Rattle.gc_expr.specs.declared.expr.SumPart.{SumPart}
use Rattle.gc_expr.specs.declared.expr.ProductPart.{ProductPart}
use Rattle.gc_expr.specs.declared.expr.ExprNode.{the_lemmas}
use Rattle.gc_expr.specs.declared.expr.ExprNode.TheViews.{And, Or, Sum, Product, Compare}
use Rattle.gc_expr.specs.declared.expr.Comparison.{Comparison}
use Rattle.gc_expr.specs.Trees as tree
use Rattle.gc_expr.specs.Trees.{Kind, TreeOf, ExprTree, AnExpr, row, renamed}
use Rattle.gc_base.specs.declared.place.Sym.{Sym}
use Rattle.gc_expr.specs.Views.{Names, name_of, numbered_expr, numbered_node, numbered_sum_part, numbered_product_part}
use Rattle.gc_expr.proofs.Renaming.{renamed_row}
use Rattle.gc_print_query.specs.Pieces.{Piece, Blank, joined, run_together, last_behind, written}
use Rattle.gc_print_query.specs.ExpressionPieces.{between, closed, comparison_piece, parts_of, product_piece, sign_piece}
use Rattle.gc_print_query.specs.QueryPieces.{enclosed}
use Rattle.gc_print_query.specs.TokenTexts.{spelled}
use Rattle.gc_print_query.proofs.LexedPieces.{spaced, written_spaced}
use Rattle.gc_print_query.proofs.Operators.{row_parts}

-- ---- rows

map_map : {X Y Z : Type 0} (f : Y → Z) (g : X → Y) (xs : List X) → map f (map g xs) ≡ map (λ x. f (g x)) xs
map_map f g [] = refl
map_map f g (x ∷ xs) = ap (λ ys. f (g x) ∷ ys) (map_map f g xs)

list_parts : {X : Type 0} {k : Kind} (x : List (List Piece)) (names : Names) (g : X → TreeOf Sym k) (xs : List X)
    → parts_of x (renamed (name_of names) (row (map g xs))) ≡ map (λ y. parts_of x (renamed (name_of names) (g y))) xs
list_parts x names g xs =
    ap (parts_of x) (renamed_row (name_of names) g xs ∙ refl) ∙ row_parts x (map (λ y. renamed (name_of names) (g y)) xs) ∙ map_map (parts_of x) (λ y. renamed (name_of names) (g y)) xs

flat_lists : {X : Type 0} (f : X → List Piece) (xs : List X) → flat_map (λ part. part) (map f xs) ≡ flat_map f xs
flat_lists f [] = refl
flat_lists f (x ∷ xs) = ap (λ ps. f x ++ ps) (flat_lists f xs)

-- ---- expressions that have lists

expr_node : (e : Expr) → numbered_expr e ≡ tree.At e.token (numbered_node e.node)
unfolding numbered_expr numbered_node
expr_node e = search (rules, the_lemmas)

-- an expression is what it is
pub expr_parts : (x : List (List Piece)) (names : Names) (e : Expr) → parts_of x (renamed (name_of names) (numbered_expr e)) ≡ parts_of x (renamed (name_of names) (numbered_node e.node))
unfolding parts_of renamed
expr_parts x names e = ap (λ t. parts_of x (renamed (name_of names) t)) (expr_node e)

and_node : (parts : Vec Expr Global) → numbered_node (And parts) ≡ tree.And (row (map numbered_expr parts.items))
unfolding numbered_node numbered_expr
and_node parts = search (rules, the_lemmas)

or_node : (parts : Vec Expr Global) → numbered_node (Or parts) ≡ tree.Or (row (map numbered_expr parts.items))
unfolding numbered_node numbered_expr
or_node parts = search (rules, the_lemmas)

sum_node : (first : Box Expr Global) (rest : Vec SumPart Global) → numbered_node (Sum first rest) ≡ tree.Sum (numbered_expr first.value) (row (map numbered_sum_part rest.items))
unfolding numbered_node numbered_expr numbered_sum_part
sum_node first rest = search (rules, the_lemmas)

product_node : (first : Box Expr Global) (rest : Vec ProductPart Global) → numbered_node (Product first rest) ≡ tree.Product (numbered_expr first.value) (row (map numbered_product_part rest.items))
unfolding numbered_node numbered_expr numbered_product_part
product_node first rest = search (rules, the_lemmas)

pub and_pieces : (x : List (List Piece)) (names : Names) (parts : Vec Expr Global)
    → (parts_of x (renamed (name_of names) (numbered_node (And parts)))).pieces ≡ joined (between (codes "AND")) (map (λ part. closed 6 (parts_of x (renamed (name_of names) (numbered_expr part)))) parts.items)
unfolding parts_of renamed
and_pieces x names parts =
    ap (λ (node : TreeOf Sym tree.ANode). (parts_of x (renamed (name_of names) node)).pieces) (and_node parts)
    ∙ ap (λ lists. joined (between (codes "AND")) (map (closed 6) lists)) (list_parts x names numbered_expr parts.items)
    ∙ ap (joined (between (codes "AND"))) (map_map (closed 6) (λ part. parts_of x (renamed (name_of names) (numbered_expr part))) parts.items)

pub or_pieces : (x : List (List Piece)) (names : Names) (parts : Vec Expr Global)
    → (parts_of x (renamed (name_of names) (numbered_node (Or parts)))).pieces ≡ joined (between (codes "OR")) (map (λ part. closed 7 (parts_of x (renamed (name_of names) (numbered_expr part)))) parts.items)
unfolding parts_of renamed
or_pieces x names parts =
    ap (λ (node : TreeOf Sym tree.ANode). (parts_of x (renamed (name_of names) node)).pieces) (or_node parts)
    ∙ ap (λ lists. joined (between (codes "OR")) (map (closed 7) lists)) (list_parts x names numbered_expr parts.items)
    ∙ ap (joined (between (codes "OR"))) (map_map (closed 7) (λ part. parts_of x (renamed (name_of names) (numbered_expr part))) parts.items)

pub sum_pieces : (x : List (List Piece)) (names : Names) (first : Box Expr Global) (rest : Vec SumPart Global)
    → (parts_of x (renamed (name_of names) (numbered_node (Sum first rest)))).pieces
    ≡ closed 3 (parts_of x (renamed (name_of names) (numbered_expr first.value))) ++ flat_map (λ part. parts_of x (renamed (name_of names) (numbered_sum_part part))) rest.items
unfolding parts_of renamed
sum_pieces x names first rest =
    ap (λ (node : TreeOf Sym tree.ANode). (parts_of x (renamed (name_of names) node)).pieces) (sum_node first rest)
    ∙ ap (λ lists. closed 3 (parts_of x (renamed (name_of names) (numbered_expr first.value))) ++ flat_map (λ part. part) lists) (list_parts x names numbered_sum_part rest.items)
    ∙ ap (λ ps. closed 3 (parts_of x (renamed (name_of names) (numbered_expr first.value))) ++ ps) (flat_lists (λ part. parts_of x (renamed (name_of names) (numbered_sum_part part))) rest.items)

pub product_pieces : (x : List (List Piece)) (names : Names) (first : Box Expr Global) (rest : Vec ProductPart Global)
    → (parts_of x (renamed (name_of names) (numbered_node (Product first rest)))).pieces
    ≡ closed 2 (parts_of x (renamed (name_of names) (numbered_expr first.value))) ++ flat_map (λ part. parts_of x (renamed (name_of names) (numbered_product_part part))) rest.items
unfolding parts_of renamed
product_pieces x names first rest =
    ap (λ (node : TreeOf Sym tree.ANode). (parts_of x (renamed (name_of names) node)).pieces) (product_node first rest)
    ∙ ap (λ lists. closed 2 (parts_of x (renamed (name_of names) (numbered_expr first.value))) ++ flat_map (λ part. part) lists) (list_parts x names numbered_product_part rest.items)
    ∙ ap (λ ps. closed 2 (parts_of x (renamed (name_of names) (numbered_expr first.value))) ++ ps) (flat_lists (λ part. parts_of x (renamed (name_of names) (numbered_product_part part))) rest.items)

-- ---- the texts of EXISTS queries

-- nothing runs together with a parenthesis
no_space : (last : ℕ) → run_together last 40 ≡ false
no_space last = by (is_word_part last) (last == 58 || last == 60 || last == 62)
  where
    by : (a b : Bool) → ((a && false) || (b && false)) ≡ false
    by true true = refl
    by true false = refl
    by false true = refl
    by false false = refl

enclosed_anywhere : (last n : ℕ) (query : List Piece) → spaced last (enclosed n query) ≡ spaced 0 (enclosed n query)
unfolding spaced spelled
enclosed_anywhere last n query = rw (no_space last) refl

-- the text of a query in parentheses is the same wherever it stands
pub enclosed_written : (text : List ℕ) (n : ℕ) (query : List Piece) → written text (enclosed n query) ≡ text ++ written [] (enclosed n query)
enclosed_written text n query =
    written_spaced text (enclosed n query) ∙ ap (λ t. text ++ t) (enclosed_anywhere (last_behind 0 text) n query ∙ sym (written_spaced [] (enclosed n query)))

-- the text of one of some queries, or none
pub found_text : {X : Type 0} (text : List ℕ) (n : ℕ) (g : X → List Piece) (queries : List X) (i : ℕ) (texts : List (List ℕ)) (found : List ℕ)
    → texts ≡ map (written []) (map (λ query. enclosed n (g query)) queries) → i < length texts → found ≡ get_or texts i found
    → text ++ found ≡ written text (slice_index_or (map (λ query. enclosed n (g query)) queries) i [])
found_text text n g [] i [] found are within is = absurd (omega (arith, within))
found_text text n g [] i (t ∷ texts) found are within is = absurd (cc)
found_text text n g (query ∷ queries) i [] found are within is = absurd (omega (arith, within))
found_text text n g (query ∷ queries) zero (t ∷ texts) found are within is =
    ap (λ b. text ++ b) (is ∙ (let e : t ≡ written [] (enclosed n (g query)) = cc in e)) ∙ sym (enclosed_written text n (g query))
found_text text n g (query ∷ queries) (suc i) (t ∷ texts) found are within is =
    found_text text n g queries i texts found (let e : texts ≡ map (written []) (map (λ query. enclosed n (g query)) queries) = cc in e) (omega (arith, within)) is

pub no_text : {X : Type 0} (text : List ℕ) (n : ℕ) (g : X → List Piece) (queries : List X) (i : ℕ) (texts : List (List ℕ))
    → texts ≡ map (written []) (map (λ query. enclosed n (g query)) queries) → length texts ≤ i → text ≡ written text (slice_index_or (map (λ query. enclosed n (g query)) queries) i [])
no_text text n g [] i texts are beyond = refl
no_text text n g (query ∷ queries) i [] are beyond = absurd (cc)
no_text text n g (query ∷ queries) zero (t ∷ texts) are beyond = absurd (omega (arith, beyond))
no_text text n g (query ∷ queries) (suc i) (t ∷ texts) are beyond =
    no_text text n g queries i texts (let e : texts ≡ map (written []) (map (λ query. enclosed n (g query)) queries) = cc in e) (omega (arith, beyond))

-- ---- later parts

sum_part_of : (p : SumPart) → numbered_sum_part p ≡ tree.SumPart p.minus (numbered_expr p.part)
unfolding numbered_sum_part numbered_expr
sum_part_of p = search (rules, the_lemmas)

product_part_of : (p : ProductPart) → numbered_product_part p ≡ tree.ProductPart p.op (numbered_expr p.part)
unfolding numbered_product_part numbered_expr
product_part_of p = search (rules, the_lemmas)

pub sum_part_pieces : (x : List (List Piece)) (names : Names) (p : SumPart)
    → parts_of x (renamed (name_of names) (numbered_sum_part p)) ≡ Blank ∷ sign_piece p.minus ∷ Blank ∷ closed 3 (parts_of x (renamed (name_of names) (numbered_expr p.part)))
unfolding parts_of renamed
sum_part_pieces x names p = ap (λ (t : TreeOf Sym tree.ASumPart). parts_of x (renamed (name_of names) t)) (sum_part_of p)

pub product_part_pieces : (x : List (List Piece)) (names : Names) (p : ProductPart)
    → parts_of x (renamed (name_of names) (numbered_product_part p)) ≡ Blank ∷ product_piece p.op ∷ Blank ∷ closed 2 (parts_of x (renamed (name_of names) (numbered_expr p.part)))
unfolding parts_of renamed
product_part_pieces x names p = ap (λ (t : TreeOf Sym tree.AProductPart). parts_of x (renamed (name_of names) t)) (product_part_of p)

compare_node : (how : Comparison) (left right : Box Expr Global) → numbered_node (Compare how left right) ≡ tree.Compare how (numbered_expr left.value) (numbered_expr right.value)
unfolding numbered_node numbered_expr
compare_node how left right = search (rules, the_lemmas)

pub compare_pieces : (x : List (List Piece)) (names : Names) (how : Comparison) (left right : Box Expr Global)
    → (parts_of x (renamed (name_of names) (numbered_node (Compare how left right)))).pieces
    ≡ closed 4 (parts_of x (renamed (name_of names) (numbered_expr left.value))) ++ ((Blank ∷ comparison_piece how ∷ Blank ∷ []) ++ closed 4 (parts_of x (renamed (name_of names) (numbered_expr right.value))))
unfolding parts_of renamed
compare_pieces x names how left right = ap (λ (node : TreeOf Sym tree.ANode). (parts_of x (renamed (name_of names) node)).pieces) (compare_node how left right)
