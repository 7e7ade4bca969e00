-- Conjuncts, to which EXISTS queries are dealt out one after another.
use Rattle.std.proofs.Common.{◌≡◌, refl, sym, ap, ◌∙◌, ℕ, suc, ◌+◌, ◌<◌, List, [], ◌∷◌, ◌++◌, length, get_or, take, drop, map, add-one, rules, Vec, Global}
use Rattle.std.proofs.Math.Seq.{drop-cons}
use Rattle.std.proofs.lemmas.List.{append_assoc, map-append, take-map, drop-map}
use Rattle.gc_base.specs.declared.place.Sym.{Sym}
use Rattle.gc_expr.specs.Trees as tree
use Rattle.gc_expr.specs.Trees.{TreeOf, AnExpr, At, renamed, row}
use Rattle.gc_expr.specs.Views.{numbered_expr, numbered_node}
use Rattle.gc_expr.specs.declared.expr.Expr.{Expr}
use Rattle.gc_expr.specs.declared.expr.ExprNode.{the_lemmas}
use Rattle.gc_expr.specs.declared.expr.ExprNode.TheViews.{And}
use Rattle.gc_alg.specs.Trees as alg
use Rattle.gc_alg.specs.Trees.{Tree, AConjunct, AnExists, ConjunctOf}
use Rattle.gc_alg.specs.Views.{conjunct_tree, exists_tree}
use Rattle.gc_alg.specs.declared.block.Conjunct.{Conjunct}
use Rattle.gc_alg.specs.declared.block.ExistsBlock.{ExistsBlock}
use Rattle.gc_expr.proofs.Renaming.{renamed_row}
use Rattle.gc_lower.specs.Conditions.{and_parts, counted_from, dealt, exists_count, listed, moved}
use Rattle.gc_lower.proofs.Counts.{exists_renamed}

-- the items from a place on are the one there and those after it
pub one_and_rest : {X : Type 0} (items : List X) (i : ℕ) (x : X) → i < length items → x ≡ get_or items i x → drop i items ≡ x ∷ drop (i + 1) items
one_and_rest items i x h e = rw add-one (drop-cons items i x h ∙ ap (λ y. y ∷ drop (suc i) items) (sym e))

-- one more conjunct, on plain trees
one_more : (done : List (Tree AConjunct)) (start : ℕ) (e : TreeOf Sym AnExpr)
    (es : List (TreeOf Sym AnExpr)) (queries : List (Tree AnExists)) (made : Tree AConjunct)
    → made ≡ ConjunctOf (counted_from start e) (alg.row (take (exists_count e) queries))
    → (done ++ made ∷ []) ++ dealt (start + exists_count e) es (drop (exists_count e) queries) ≡ done ++ dealt start (e ∷ es) queries
one_more done start e es queries made h =
    let rest = dealt (start + exists_count e) es (drop (exists_count e) queries) in
    append_assoc done (made ∷ []) rest ∙ ap (λ c. done ++ (c ∷ rest)) h

-- the same of what is made
pub next_conjunct : (v : Sym → Sym) (before after : List Conjunct) (made : Conjunct)
    (start next count : ℕ) (parts : List Expr) (i : ℕ) (e : Expr) (left own later : List ExistsBlock)
    → i < length parts → e ≡ get_or parts i e
    → count ≡ exists_count (numbered_expr e) → next ≡ start + count
    → own ≡ take count left → later ≡ drop count left
    → conjunct_tree made ≡ ConjunctOf (moved v start (numbered_expr e)) (alg.row (map exists_tree own))
    → after ≡ before ++ made ∷ []
    → map conjunct_tree after ++ dealt next (map (λ e. renamed v (numbered_expr e)) (drop (i + 1) parts)) (map exists_tree later)
    ≡ map conjunct_tree before ++ dealt start (map (λ e. renamed v (numbered_expr e)) (drop i parts)) (map exists_tree left)
next_conjunct v before after made start next count parts i e left own later h at counted sum own_is later_is made_is after_is =
    let done = map conjunct_tree before in
    let es = map (λ e. renamed v (numbered_expr e)) (drop (i + 1) parts) in
    let queries = map exists_tree left in
    let n = exists_count (renamed v (numbered_expr e)) in
    let same_count : exists_count (numbered_expr e) ≡ n = sym (exists_renamed v (numbered_expr e)) in
    let next_is : next ≡ start + n = sum ∙ ap (λ k. start + k) (counted ∙ same_count) in
    let rest_is : map exists_tree later ≡ drop n queries =
    ap (map exists_tree) later_is ∙ sym (drop-map exists_tree count left) ∙ ap (λ k. drop k queries) (counted ∙ same_count) in
    let own_trees : map exists_tree own ≡ take n queries =
    ap (map exists_tree) own_is ∙ sym (take-map exists_tree count left) ∙ ap (λ k. take k queries) (counted ∙ same_count) in
    let after_trees : map conjunct_tree after ≡ done ++ conjunct_tree made ∷ [] =
    ap (map conjunct_tree) after_is ∙ map-append conjunct_tree before (made ∷ []) in
    (λ j. after_trees j ++ dealt (next_is j) es (rest_is j))
    ∙ one_more done start (renamed v (numbered_expr e)) es queries (conjunct_tree made)
    (made_is ∙ ap (λ qs. ConjunctOf (moved v start (numbered_expr e)) (alg.row qs)) own_trees)
    ∙ ap (λ ps. done ++ dealt start (map (λ e. renamed v (numbered_expr e)) ps) queries) (sym (one_and_rest parts i e h at))

listed_row : (trees : List (TreeOf Sym AnExpr)) → listed (row trees) ≡ trees
listed_row [] = refl
listed_row (e ∷ es) = ap (λ rest. e ∷ rest) (listed_row es)

and_tree : (e : Expr) (parts : Vec Expr Global) → e.node ≡ And parts → numbered_expr e ≡ At e.token (tree.And (row (map numbered_expr parts.items)))
unfolding numbered_expr numbered_node
and_tree e parts h = search (rules, the_lemmas)

-- the parts of an AND
pub parts_of_and : (f : Sym → Sym) (e : Expr) (parts : Vec Expr Global) → e.node ≡ And parts → and_parts (renamed f (numbered_expr e)) ≡ map (λ part. renamed f (numbered_expr part)) parts.items
unfolding renamed
parts_of_and f e parts h =
    ap (λ t. and_parts (renamed f t)) (and_tree e parts h)
    ∙ (ap listed (renamed_row f numbered_expr parts.items) ∙ listed_row (map (λ part. renamed f (numbered_expr part)) parts.items))
