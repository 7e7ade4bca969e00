-- Expressions with operators, spelled anew.
use Rattle.std.proofs.Common.{◌≡◌, ℕ, true, false, List, [], ◌∷◌, ◌++◌, map, Option, Some, None, refl, sym, ap, subst, ◌∙◌, codes}
use Rattle.std.specs.List.{flat_map}
use Rattle.gc_lex.specs.declared.token.Token.{Token}
use Rattle.gc_lex.specs.declared.token.Mark.TheVariants as mark
use Rattle.gc_expr.specs.declared.expr.Comparison.{Comparison}
use Rattle.gc_expr.specs.declared.expr.Comparison.TheVariants as compare
use Rattle.gc_expr.specs.declared.expr.ProductOp.TheVariants.{Times, Divided, Remainder}
use Rattle.gc_expr.specs.Trees as tree
use Rattle.gc_expr.specs.Trees.{ExprTree, AnExpr, ANode, ASumPart, AProductPart, Kind, RowOf, At, row}
use Rattle.gc_grammar.specs.Words as words
use Rattle.gc_grammar.specs.Words.{Point, Lang, ◌⋅◌, ◌∣◌, ◌⇒◌, ◌▸◌, ◌◂◌, Both, Made, optional, many, separated, as_value}
use Rattle.gc_grammar.specs.Expressions.{Expr, Suffix, PropertyOf, LabelOf, prim, post, neg, prod, sum, cmp, not, and, suffix, product_op, product_part, sign, sum_part, comparison, suffixed, prefixed, multiplied, summed, compared, chained}
use Rattle.gc_grammar.specs.Queries.{within}
use Rattle.gc_print_query.specs.Pieces.{Piece, Blank, joined}
use Rattle.gc_print_query.specs.ExpressionPieces.{word, mark_piece, between, closed, parts_of, sign_piece, product_piece, comparison_piece}
use Rattle.gc_print_query.specs.Tokens.{AreWritable}
use Rattle.gc_print_query.specs.Unnumbered.{unnumbered_expr}
use Rattle.gc_print_query.proofs.Rereading.{Read, Reads, made, both, past, either, any_times, with_separators, flat_map_map, a_word, front_writable, back_writable}
use Rattle.gc_print_query.proofs.TokensRead.{lone_mark, spaced_mark, spaced_word, word_blank}
use Rattle.gc_print_query.proofs.ExpressionLevels.{Fine, FineRead, operand, operated, carried, behind_none, before_none}

-- ---- rows

pub row_parts : {k : Kind} (x : List (List Piece)) (ts : List (ExprTree k)) → parts_of x (row ts) ≡ map (parts_of x) ts
unfolding parts_of
row_parts x [] = refl
row_parts x (t ∷ ts) = ap (λ parts. parts_of x t ∷ parts) (row_parts x ts)

pub row_unnumbered : {k : Kind} (ts : List (ExprTree k)) → unnumbered_expr (row ts) ≡ row (map unnumbered_expr ts)
unfolding unnumbered_expr
row_unnumbered [] = refl
row_unnumbered (t ∷ ts) = ap (λ r. tree.more (unnumbered_expr t) r) (row_unnumbered ts)

map_map : {X Y Z : Type 0} (f : Y → Z) (g : X → Y) (xs : List X) → map f (map g xs) ≡ map (λ x. f (g x)) xs
map_map f g [] = refl
map_map f g (x ∷ xs) = ap (λ ys. f (g x) ∷ ys) (map_map f g xs)

all_writable : (xs ys : List Token) → AreWritable xs → AreWritable ys → AreWritable (xs ++ ys)
unfolding AreWritable
all_writable [] ys h k = k
all_writable (x ∷ xs) ys h k = (h.0, all_writable xs ys h.1 k)

-- two languages one behind the other
pub pair_read : {A B C E : Type 0} {n D : ℕ} {L : ℕ → Lang A} {M : ℕ → Lang C} {f : List (List Piece) → A → List Piece} {g : List (List Piece) → C → List Piece} {e : A → B} {h : C → E}
    → Reads n D L f e → Reads n D M g h → (p q m : Point) (early late : List Token) (a : A) (c : C) → AreWritable early → AreWritable late → L D p early a m → M D m late c q
    → Read {B = B × E} n D (λ d. L d ⋅ M d) (λ x v. f x v.0 ++ g x v.1) (λ v. (e v.0, h v.1)) p q (a, c)
pair_read first second p q m early late a c w1 w2 s t =
    (both first second).read p q (early ++ late) (a, c) (all_writable early late w1 w2)
    (record { early = early; late = late; between = m; whole = refl; before = s; behind = t })

-- ---- post = prim [ `.` word | `:` word ]

abbrev suffix_pieces : Suffix → List Piece
suffix_pieces (PropertyOf k) = mark_piece mark.Dot ∷ word k ∷ []
suffix_pieces (LabelOf l) = mark_piece mark.Colon ∷ word l ∷ []

suffix_reads : {n D : ℕ} → Reads n D (λ d. suffix) (λ x s. suffix_pieces s) (λ s. s)
suffix_reads =
    either (made (λ m v. PropertyOf v) (λ x s. suffix_pieces s) (λ s. s) PropertyOf (λ x m v. refl) (λ m v. refl) (past (lone_mark mark.Dot) a_word))
    (made (λ m v. LabelOf v) (λ x s. suffix_pieces s) (λ s. s) LabelOf (λ x m v. refl) (λ m v. refl) (past (lone_mark mark.Colon) a_word))

suffixed_unnumbered : (m : ℕ) (e : Expr) (s : Suffix) → unnumbered_expr (suffixed m e (Some s)) ≡ suffixed 0 (unnumbered_expr e) (Some s)
unfolding unnumbered_expr
suffixed_unnumbered m e (PropertyOf k) = refl
suffixed_unnumbered m e (LabelOf l) = refl

suffixed_pieces : (x : List (List Piece)) (m : ℕ) (e : Expr) (s : Suffix) → (parts_of x (suffixed m e (Some s))).pieces ≡ closed 0 (parts_of x e) ++ suffix_pieces s
unfolding parts_of
suffixed_pieces x m e (PropertyOf k) = refl
suffixed_pieces x m e (LabelOf l) = refl

suffixed_rank : (x : List (List Piece)) (m : ℕ) (e : Expr) (s : Suffix) → (parts_of x (suffixed m e (Some s))).rank ≡ 1
unfolding parts_of
suffixed_rank x m e (PropertyOf k) = refl
suffixed_rank x m e (LabelOf l) = refl

post_by : {n D : ℕ} → Fine n D 0 → (p q m : Point) (early late : List Token) (e : Expr) (o : Option Suffix) → AreWritable early → AreWritable late
    → prim (within D) p early e m → optional suffix m late o q → FineRead n D 1 p q (suffixed p.token e o)
post_by fine p q m early late e None w1 w2 s t = carried (behind_none t.1 (fine.read p m early e w1 s))
post_by {n = n} {D = D} fine p q m early late e (Some u) w1 w2 s t =
    operated 1 {L = λ d. prim (within d) ⋅ suffix} (λ k v. suffixed k v.0 (Some v.1)) (λ v. suffixed 0 v.0 (Some v.1))
    (λ d r end ts v b. record { value = (v.0, Some v.1); spelled = record { early = b.early; late = b.late; between = b.between; whole = b.whole; before = b.before; behind = b.behind }; made = refl })
    (λ k v. suffixed_unnumbered k v.0 v.1) (λ x. suffixed_pieces x p.token e u) (λ x. suffixed_rank x p.token e u)
    (pair_read (operand 0 fine) suffix_reads p q m early late e u w1 w2 s t)

pub post_fine : {n D : ℕ} → Fine n D 0 → Fine n D 1
post_fine {n = n} {D = D} fine = record {
  read = λ p q ts v w s.
      let b = s.spelled in
      let writable = subst AreWritable b.whole w in
      subst (λ v. FineRead n D 1 p q v) (sym s.made)
      (post_by fine p q b.between b.early b.late s.value.0 s.value.1 (front_writable b.early b.late writable) (back_writable b.early b.late writable) b.before b.behind);
}

-- ---- neg = [ `-` ] post and not = [ `NOT` ] cmp

negate_by : {n D : ℕ} → Fine n D 1 → (p q m : Point) (early late : List Token) (o : Option (Unit {0})) (e : Expr) → AreWritable early → AreWritable late
    → optional (words.mark mark.Minus) p early o m → post (within D) m late e q → FineRead n D 2 p q (prefixed tree.Negate p.token o e)
unfolding parts_of unnumbered_expr
negate_by fine p q m early late None e w1 w2 s t = carried (before_none s.1 (fine.read m q late e w2 t))
negate_by fine p q m early late (Some u) e w1 w2 s t =
    operated 2 {L = λ d. words.mark mark.Minus ⋅ post (within d)} (λ k v. prefixed tree.Negate k (Some v.0) v.1) (λ v. prefixed tree.Negate 0 (Some v.0) v.1)
    (λ d r end ts v b. record { value = (Some v.0, v.1); spelled = record { early = b.early; late = b.late; between = b.between; whole = b.whole; before = b.before; behind = b.behind }; made = refl })
    (λ k v. refl) (λ x. refl) (λ x. refl)
    (pair_read (lone_mark mark.Minus) (operand 1 fine) p q m early late u e w1 w2 s t)

pub neg_fine : {n D : ℕ} → Fine n D 1 → Fine n D 2
neg_fine {n = n} {D = D} fine = record {
  read = λ p q ts v w s.
      let b = s.spelled in
      let writable = subst AreWritable b.whole w in
      subst (λ v. FineRead n D 2 p q v) (sym s.made)
      (negate_by fine p q b.between b.early b.late s.value.0 s.value.1 (front_writable b.early b.late writable) (back_writable b.early b.late writable) b.before b.behind);
}

not_by : {n D : ℕ} → Fine n D 5 → (p q m : Point) (early late : List Token) (o : Option (Unit {0})) (e : Expr) → AreWritable early → AreWritable late
    → optional (words.the_word (codes "NOT")) p early o m → cmp (within D) m late e q → FineRead n D 6 p q (prefixed tree.Not p.token o e)
unfolding parts_of unnumbered_expr
not_by fine p q m early late None e w1 w2 s t = carried (before_none s.1 (fine.read m q late e w2 t))
not_by fine p q m early late (Some u) e w1 w2 s t =
    operated 6 {L = λ d. words.the_word (codes "NOT") ⋅ cmp (within d)} (λ k v. prefixed tree.Not k (Some v.0) v.1) (λ v. prefixed tree.Not 0 (Some v.0) v.1)
    (λ d r end ts v b. record { value = (Some v.0, v.1); spelled = record { early = b.early; late = b.late; between = b.between; whole = b.whole; before = b.before; behind = b.behind }; made = refl })
    (λ k v. refl) (λ x. refl) (λ x. refl)
    (pair_read (word_blank (codes "NOT") refl) (operand 5 fine) p q m early late u e w1 w2 s t)

pub not_fine : {n D : ℕ} → Fine n D 5 → Fine n D 6
not_fine {n = n} {D = D} fine = record {
  read = λ p q ts v w s.
      let b = s.spelled in
      let writable = subst AreWritable b.whole w in
      subst (λ v. FineRead n D 6 p q v) (sym s.made)
      (not_by fine p q b.between b.early b.late s.value.0 s.value.1 (front_writable b.early b.late writable) (back_writable b.early b.late writable) b.before b.behind);
}

-- ---- prod = neg { (`*` | `/` | `%`) neg }

product_op_reads : {n D : ℕ} → Reads n D (λ d. product_op) (λ x op. Blank ∷ product_piece op ∷ Blank ∷ []) (λ op. op)
product_op_reads =
    either (made (λ m u. Times) (λ x op. Blank ∷ product_piece op ∷ Blank ∷ []) (λ op. op) (λ u. Times) (λ x m u. refl) (λ m u. refl) (spaced_mark mark.Star))
    (either (made (λ m u. Divided) (λ x op. Blank ∷ product_piece op ∷ Blank ∷ []) (λ op. op) (λ u. Divided) (λ x m u. refl) (λ m u. refl) (spaced_mark mark.Slash))
    (made (λ m u. Remainder) (λ x op. Blank ∷ product_piece op ∷ Blank ∷ []) (λ op. op) (λ u. Remainder) (λ x m u. refl) (λ m u. refl) (spaced_mark mark.Percent)))

product_part_reads : {n D : ℕ} → Fine n D 2 → Reads n D (λ d. product_part (within d)) (λ x v. parts_of x v) unnumbered_expr
unfolding parts_of unnumbered_expr
product_part_reads fine =
    made (λ m v. tree.ProductPart v.0 v.1) (λ x v. parts_of x v) unnumbered_expr (λ v. tree.ProductPart v.0 v.1) (λ x m v. refl) (λ m v. refl) (both product_op_reads (operand 2 fine))

multiplied_unnumbered : (m : ℕ) (e : Expr) (parts : List (ExprTree AProductPart)) → unnumbered_expr (multiplied m e parts) ≡ multiplied 0 (unnumbered_expr e) (map unnumbered_expr parts)
unfolding unnumbered_expr
multiplied_unnumbered m e [] = refl
multiplied_unnumbered m e (part ∷ parts) = ap (λ r. At 0 (tree.Product (unnumbered_expr e) r)) (row_unnumbered (part ∷ parts))

multiplied_pieces : (x : List (List Piece)) (m : ℕ) (e : Expr) (part : ExprTree AProductPart) (parts : List (ExprTree AProductPart))
    → (parts_of x (multiplied m e (part ∷ parts))).pieces ≡ closed 2 (parts_of x e) ++ flat_map (parts_of x) (part ∷ parts)
unfolding parts_of
multiplied_pieces x m e part parts =
    ap (λ lists. closed 2 (parts_of x e) ++ flat_map (λ part. part) lists) (row_parts x (part ∷ parts))
    ∙ ap (λ ps. closed 2 (parts_of x e) ++ ps) (flat_map_map (λ part. part) (parts_of x) (part ∷ parts))

product_by : {n D : ℕ} → Fine n D 2 → (p q m : Point) (early late : List Token) (e : Expr) (parts : List (ExprTree AProductPart)) → AreWritable early → AreWritable late
    → neg (within D) p early e m → many (product_part (within D)) m late parts q → FineRead n D 3 p q (multiplied p.token e parts)
unfolding parts_of
product_by fine p q m early late e [] w1 w2 s t = carried (behind_none t.1 (fine.read p m early e w1 s))
product_by fine p q m early late e (part ∷ parts) w1 w2 s t =
    operated 3 {L = λ d. neg (within d) ⋅ many (product_part (within d))} (λ k v. multiplied k v.0 v.1) (λ v. multiplied 0 v.0 v.1)
    (λ d r end ts v b. record { value = v; spelled = b; made = refl })
    (λ k v. multiplied_unnumbered k v.0 v.1) (λ x. multiplied_pieces x p.token e part parts) (λ x. refl)
    (pair_read (operand 2 fine) (any_times (product_part_reads fine)) p q m early late e (part ∷ parts) w1 w2 s t)

pub prod_fine : {n D : ℕ} → Fine n D 2 → Fine n D 3
prod_fine {n = n} {D = D} fine = record {
  read = λ p q ts v w s.
      let b = s.spelled in
      let writable = subst AreWritable b.whole w in
      subst (λ v. FineRead n D 3 p q v) (sym s.made)
      (product_by fine p q b.between b.early b.late s.value.0 s.value.1 (front_writable b.early b.late writable) (back_writable b.early b.late writable) b.before b.behind);
}

-- ---- sum = prod { (`+` | `-`) prod }

sign_reads : {n D : ℕ} → Reads n D (λ d. sign) (λ x minus. Blank ∷ sign_piece minus ∷ Blank ∷ []) (λ minus. minus)
sign_reads =
    either (made (λ m u. false) (λ x minus. Blank ∷ sign_piece minus ∷ Blank ∷ []) (λ minus. minus) (λ u. false) (λ x m u. refl) (λ m u. refl) (spaced_mark mark.Plus))
    (made (λ m u. true) (λ x minus. Blank ∷ sign_piece minus ∷ Blank ∷ []) (λ minus. minus) (λ u. true) (λ x m u. refl) (λ m u. refl) (spaced_mark mark.Minus))

sum_part_reads : {n D : ℕ} → Fine n D 3 → Reads n D (λ d. sum_part (within d)) (λ x v. parts_of x v) unnumbered_expr
unfolding parts_of unnumbered_expr
sum_part_reads fine =
    made (λ m v. tree.SumPart v.0 v.1) (λ x v. parts_of x v) unnumbered_expr (λ v. tree.SumPart v.0 v.1) (λ x m v. refl) (λ m v. refl) (both sign_reads (operand 3 fine))

summed_unnumbered : (m : ℕ) (e : Expr) (parts : List (ExprTree ASumPart)) → unnumbered_expr (summed m e parts) ≡ summed 0 (unnumbered_expr e) (map unnumbered_expr parts)
unfolding unnumbered_expr
summed_unnumbered m e [] = refl
summed_unnumbered m e (part ∷ parts) = ap (λ r. At 0 (tree.Sum (unnumbered_expr e) r)) (row_unnumbered (part ∷ parts))

summed_pieces : (x : List (List Piece)) (m : ℕ) (e : Expr) (part : ExprTree ASumPart) (parts : List (ExprTree ASumPart))
    → (parts_of x (summed m e (part ∷ parts))).pieces ≡ closed 3 (parts_of x e) ++ flat_map (parts_of x) (part ∷ parts)
unfolding parts_of
summed_pieces x m e part parts =
    ap (λ lists. closed 3 (parts_of x e) ++ flat_map (λ part. part) lists) (row_parts x (part ∷ parts))
    ∙ ap (λ ps. closed 3 (parts_of x e) ++ ps) (flat_map_map (λ part. part) (parts_of x) (part ∷ parts))

sum_by : {n D : ℕ} → Fine n D 3 → (p q m : Point) (early late : List Token) (e : Expr) (parts : List (ExprTree ASumPart)) → AreWritable early → AreWritable late
    → prod (within D) p early e m → many (sum_part (within D)) m late parts q → FineRead n D 4 p q (summed p.token e parts)
unfolding parts_of
sum_by fine p q m early late e [] w1 w2 s t = carried (behind_none t.1 (fine.read p m early e w1 s))
sum_by fine p q m early late e (part ∷ parts) w1 w2 s t =
    operated 4 {L = λ d. prod (within d) ⋅ many (sum_part (within d))} (λ k v. summed k v.0 v.1) (λ v. summed 0 v.0 v.1)
    (λ d r end ts v b. record { value = v; spelled = b; made = refl })
    (λ k v. summed_unnumbered k v.0 v.1) (λ x. summed_pieces x p.token e part parts) (λ x. refl)
    (pair_read (operand 3 fine) (any_times (sum_part_reads fine)) p q m early late e (part ∷ parts) w1 w2 s t)

pub sum_fine : {n D : ℕ} → Fine n D 3 → Fine n D 4
sum_fine {n = n} {D = D} fine = record {
  read = λ p q ts v w s.
      let b = s.spelled in
      let writable = subst AreWritable b.whole w in
      subst (λ v. FineRead n D 4 p q v) (sym s.made)
      (sum_by fine p q b.between b.early b.late s.value.0 s.value.1 (front_writable b.early b.late writable) (back_writable b.early b.late writable) b.before b.behind);
}

-- ---- cmp = sum [ (`=` | `<>` | `<` | `<=` | `>` | `>=` | `IN` | `SUBSET`) sum ]

abbrev comparison_pieces : Comparison → List Piece
comparison_pieces how = Blank ∷ comparison_piece how ∷ Blank ∷ []

comparison_reads : {n D : ℕ} → Reads n D (λ d. comparison) (λ x how. comparison_pieces how) (λ how. how)
comparison_reads =
    either (made (λ m u. compare.Equal) (λ x how. comparison_pieces how) (λ how. how) (λ u. compare.Equal) (λ x m u. refl) (λ m u. refl) (spaced_mark mark.Equals))
    (either (made (λ m u. compare.Unequal) (λ x how. comparison_pieces how) (λ how. how) (λ u. compare.Unequal) (λ x m u. refl) (λ m u. refl) (spaced_mark mark.Differs))
    (either (made (λ m u. compare.Less) (λ x how. comparison_pieces how) (λ how. how) (λ u. compare.Less) (λ x m u. refl) (λ m u. refl) (spaced_mark mark.Less))
    (either (made (λ m u. compare.LessEqual) (λ x how. comparison_pieces how) (λ how. how) (λ u. compare.LessEqual) (λ x m u. refl) (λ m u. refl) (spaced_mark mark.AtMost))
    (either (made (λ m u. compare.Greater) (λ x how. comparison_pieces how) (λ how. how) (λ u. compare.Greater) (λ x m u. refl) (λ m u. refl) (spaced_mark mark.Greater))
    (either (made (λ m u. compare.GreaterEqual) (λ x how. comparison_pieces how) (λ how. how) (λ u. compare.GreaterEqual) (λ x m u. refl) (λ m u. refl) (spaced_mark mark.AtLeast))
    (either (made (λ m u. compare.Member) (λ x how. comparison_pieces how) (λ how. how) (λ u. compare.Member) (λ x m u. refl) (λ m u. refl) (spaced_word (codes "IN") refl))
    (made (λ m u. compare.Included) (λ x how. comparison_pieces how) (λ how. how) (λ u. compare.Included) (λ x m u. refl) (λ m u. refl) (spaced_word (codes "SUBSET") refl))))))))

cmp_by : {n D : ℕ} → Fine n D 4 → (p q m : Point) (early late : List Token) (e : Expr) (o : Option (Comparison × Expr)) → AreWritable early → AreWritable late
    → sum (within D) p early e m → optional (comparison ⋅ sum (within D)) m late o q → FineRead n D 5 p q (compared p.token e o)
unfolding parts_of unnumbered_expr
cmp_by fine p q m early late e None w1 w2 s t = carried (behind_none t.1 (fine.read p m early e w1 s))
cmp_by fine p q m early late e (Some right) w1 w2 s t =
    operated 5 {L = λ d. sum (within d) ⋅ (comparison ⋅ sum (within d))} (λ k v. compared k v.0 (Some v.1)) (λ v. compared 0 v.0 (Some v.1))
    (λ d r end ts v b. record { value = (v.0, Some v.1); spelled = record { early = b.early; late = b.late; between = b.between; whole = b.whole; before = b.before; behind = b.behind }; made = refl })
    (λ k v. refl) (λ x. refl) (λ x. refl)
    (pair_read (operand 4 fine) (both comparison_reads (operand 4 fine)) p q m early late e right w1 w2 s t)

pub cmp_fine : {n D : ℕ} → Fine n D 4 → Fine n D 5
cmp_fine {n = n} {D = D} fine = record {
  read = λ p q ts v w s.
      let b = s.spelled in
      let writable = subst AreWritable b.whole w in
      subst (λ v. FineRead n D 5 p q v) (sym s.made)
      (cmp_by fine p q b.between b.early b.late s.value.0 s.value.1 (front_writable b.early b.late writable) (back_writable b.early b.late writable) b.before b.behind);
}

-- ---- and = not { `AND` not } and expr = and { `OR` and }

and_unnumbered : (m : ℕ) (es : List Expr) → unnumbered_expr (chained tree.And m es) ≡ chained tree.And 0 (map unnumbered_expr es)
unfolding unnumbered_expr
and_unnumbered m [] = refl
and_unnumbered m (e ∷ []) = refl
and_unnumbered m (e ∷ f ∷ es) = ap (λ r. At 0 (tree.And r)) (row_unnumbered (e ∷ f ∷ es))

or_unnumbered : (m : ℕ) (es : List Expr) → unnumbered_expr (chained tree.Or m es) ≡ chained tree.Or 0 (map unnumbered_expr es)
unfolding unnumbered_expr
or_unnumbered m [] = refl
or_unnumbered m (e ∷ []) = refl
or_unnumbered m (e ∷ f ∷ es) = ap (λ r. At 0 (tree.Or r)) (row_unnumbered (e ∷ f ∷ es))

chained_pieces : (x : List (List Piece)) (k : ℕ) (ps : List Piece) (es : List Expr) → joined ps (map (closed k) (parts_of x (row es))) ≡ joined ps (map (λ e. closed k (parts_of x e)) es)
chained_pieces x k ps es = ap (λ parts. joined ps (map (closed k) parts)) (row_parts x es) ∙ ap (joined ps) (map_map (closed k) (parts_of x) es)

and_by : {n D : ℕ} → Fine n D 6 → (p q m : Point) (early late : List Token) (e : Expr) (es : List Expr) → AreWritable early → AreWritable late
    → not (within D) p early e m → many (words.the_word (codes "AND") ▸ not (within D)) m late es q → FineRead n D 7 p q (chained tree.And p.token (e ∷ es))
unfolding parts_of
and_by fine p q m early late e [] w1 w2 s t = carried (behind_none t.1 (fine.read p m early e w1 s))
and_by fine p q m early late e (f ∷ es) w1 w2 s t =
    operated 7 {L = λ d. separated (not (within d)) (words.the_word (codes "AND"))} (chained tree.And) (chained tree.And 0)
    (λ d r end ts v b. record { value = v; spelled = b; made = refl })
    and_unnumbered (λ x. chained_pieces x 6 (between (codes "AND")) (e ∷ f ∷ es)) (λ x. refl)
    ((with_separators (operand 6 fine) (spaced_word (codes "AND") refl)).read p q (early ++ late) (e ∷ f ∷ es) (all_writable early late w1 w2)
    (record { value = (e, f ∷ es); spelled = record { early = early; late = late; between = m; whole = refl; before = s; behind = t }; made = refl }))

pub and_fine : {n D : ℕ} → Fine n D 6 → Fine n D 7
and_fine {n = n} {D = D} fine = record {
  read = λ p q ts v w s.
      let b = s.spelled.spelled in
      let writable = subst AreWritable b.whole w in
      subst (λ v. FineRead n D 7 p q v) (sym (s.made ∙ ap (chained tree.And p.token) s.spelled.made))
      (and_by fine p q b.between b.early b.late s.spelled.value.0 s.spelled.value.1 (front_writable b.early b.late writable) (back_writable b.early b.late writable) b.before b.behind);
}

or_by : {n D : ℕ} → Fine n D 7 → (p q m : Point) (early late : List Token) (e : Expr) (es : List Expr) → AreWritable early → AreWritable late
    → and (within D) p early e m → many (words.the_word (codes "OR") ▸ and (within D)) m late es q → FineRead n D 8 p q (chained tree.Or p.token (e ∷ es))
unfolding parts_of
or_by fine p q m early late e [] w1 w2 s t = carried (behind_none t.1 (fine.read p m early e w1 s))
or_by fine p q m early late e (f ∷ es) w1 w2 s t =
    operated 8 {L = λ d. separated (and (within d)) (words.the_word (codes "OR"))} (chained tree.Or) (chained tree.Or 0)
    (λ d r end ts v b. record { value = v; spelled = b; made = refl })
    or_unnumbered (λ x. chained_pieces x 7 (between (codes "OR")) (e ∷ f ∷ es)) (λ x. refl)
    ((with_separators (operand 7 fine) (spaced_word (codes "OR") refl)).read p q (early ++ late) (e ∷ f ∷ es) (all_writable early late w1 w2)
    (record { value = (e, f ∷ es); spelled = record { early = early; late = late; between = m; whole = refl; before = s; behind = t }; made = refl }))

pub expr_fine : {n D : ℕ} → Fine n D 7 → Fine n D 8
expr_fine {n = n} {D = D} fine = record {
  read = λ p q ts v w s.
      let b = s.spelled.spelled in
      let writable = subst AreWritable b.whole w in
      subst (λ v. FineRead n D 8 p q v) (sym (s.made ∙ ap (chained tree.Or p.token) s.spelled.made))
      (or_by fine p q b.between b.early b.late s.spelled.value.0 s.spelled.value.1 (front_writable b.early b.late writable) (back_writable b.early b.late writable) b.before b.behind);
}
