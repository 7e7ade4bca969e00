-- Expressions at each level of the grammar, spelled anew.
use Rattle.std.proofs.Common.{◌≡◌, ℕ, zero, suc, ◌+◌, ◌-◌, ◌<◌, ◌≤◌, Bool, true, false, List, [], ◌∷◌, None, refl, sym, subst, ◌∙◌, arith, cond, nat_lt, codes}
use Rattle.std.proofs.lemmas.Bool.{false≢true}
use Rattle.std.proofs.lemmas.Bool.Decides.{nat_tests}
use Rattle.std.proofs.lemmas.List.{append-nil}
use Rattle.gc_lex.specs.declared.token.Token.{Token}
use Rattle.gc_lex.specs.declared.token.Mark.TheVariants as mark
use Rattle.gc_expr.specs.Trees as tree
use Rattle.gc_expr.specs.Trees.{At}
use Rattle.gc_grammar.specs.Words.{Point, Lang, next, ◌⋅◌, ◌∣◌, ◌⇒◌, ◌▸◌, ◌◂◌, optional, many, separated, the_word}
use Rattle.gc_grammar.specs.Words as words
use Rattle.gc_grammar.specs.Expressions.{Expr, Inside, prim, post, neg, prod, sum, cmp, not, and, expr, suffix, product_part, sum_part, comparison, suffixed, prefixed, multiplied, summed, compared}
use Rattle.gc_grammar.specs.Queries.{within}
use Rattle.gc_grammar.proofs.Chains.{before_nothing, behind_nothing, one_part}
use Rattle.gc_print_query.specs.Pieces.{Piece}
use Rattle.gc_print_query.specs.ExpressionPieces.{Part, parenthesized, closed, parts_of}
use Rattle.gc_print_query.specs.Tokens.{tokens_in, AreWritable}
use Rattle.gc_print_query.specs.Unnumbered.{unnumbered_expr}
use Rattle.gc_print_query.proofs.LexedPieces.{AreSound}
use Rattle.gc_print_query.proofs.Rereading.{Grows, Listed, SameExists, Again, Read, Reads, converted}

-- the expressions up to some rank
abbrev pub level : ℕ → Inside → Lang Expr
level zero inside = prim inside
level (suc zero) inside = post inside
level (suc (suc zero)) inside = neg inside
level (suc (suc (suc zero))) inside = prod inside
level (suc (suc (suc (suc zero)))) inside = sum inside
level (suc (suc (suc (suc (suc zero))))) inside = cmp inside
level (suc (suc (suc (suc (suc (suc zero)))))) inside = not inside
level (suc (suc (suc (suc (suc (suc (suc zero))))))) inside = and inside
level (suc (suc (suc (suc (suc (suc (suc (suc k)))))))) inside = expr inside

-- what holds together tightly is in the next looser language
loosened : (k : ℕ) (inside : Inside) (p q : Point) (ts : List Token) (e : Expr) → level k inside p ts e q → level (suc k) inside p ts e q
loosened zero inside p q ts e s = before_nothing (prim inside) (optional suffix) (λ n v. suffixed n v.0 v.1) p q ts e None (sym (append-nil ts)) s (refl, refl)
loosened (suc zero) inside p q ts e s =
    behind_nothing (optional (words.mark mark.Minus)) (post inside) (λ n v. prefixed tree.Negate n v.0 v.1) p q ts None e (refl, refl) s
loosened (suc (suc zero)) inside p q ts e s =
    before_nothing (neg inside) (many (product_part inside)) (λ n v. multiplied n v.0 v.1) p q ts e [] (sym (append-nil ts)) s (refl, refl)
loosened (suc (suc (suc zero))) inside p q ts e s =
    before_nothing (prod inside) (many (sum_part inside)) (λ n v. summed n v.0 v.1) p q ts e [] (sym (append-nil ts)) s (refl, refl)
loosened (suc (suc (suc (suc zero)))) inside p q ts e s =
    before_nothing (sum inside) (optional (comparison ⋅ sum inside)) (λ n v. compared n v.0 v.1) p q ts e None (sym (append-nil ts)) s (refl, refl)
loosened (suc (suc (suc (suc (suc zero))))) inside p q ts e s =
    behind_nothing (optional (the_word (codes "NOT"))) (cmp inside) (λ n v. prefixed tree.Not n v.0 v.1) p q ts None e (refl, refl) s
loosened (suc (suc (suc (suc (suc (suc zero)))))) inside p q ts e s =
    record { value = e ∷ []; spelled = one_part (not inside) (the_word (codes "AND")) p q ts e (sym (append-nil ts)) s; made = refl }
loosened (suc (suc (suc (suc (suc (suc (suc zero))))))) inside p q ts e s =
    record { value = e ∷ []; spelled = one_part (and inside) (the_word (codes "OR")) p q ts e (sym (append-nil ts)) s; made = refl }
loosened (suc (suc (suc (suc (suc (suc (suc (suc k)))))))) inside p q ts e s = s

loosened_by : (j a b : ℕ) → b ≡ a + j → (inside : Inside) (p q : Point) (ts : List Token) (e : Expr) → level a inside p ts e q → level b inside p ts e q
loosened_by zero a b is inside p q ts e s = subst (λ k. level k inside p ts e q) (let h : a ≡ b = omega (arith, is) in h) s
loosened_by (suc j) a b is inside p q ts e s = loosened_by j (suc a) b (omega (arith, is)) inside p q ts e (loosened a inside p q ts e s)

pub loosened_to : (a b : ℕ) → a ≤ b → (inside : Inside) (p q : Point) (ts : List Token) (e : Expr) → level a inside p ts e q → level b inside p ts e q
loosened_to a b low = loosened_by (b - a) a b (omega (arith, low))

-- ---- expressions in and without parentheses

-- an expression is spelled anew by its own pieces, at its rank; and at some rank by those of a place for that rank
pub record FineRead (n D k : ℕ) (p q : Point) (v : Expr) : Type 0 where
  pub grows : Grows p.exists q.exists
  pub bare : (d : ℕ) → D ≤ d → (x : List (List Piece)) → Listed n q.exists x → (r : Point) → SameExists r p → Again (level (parts_of x v).rank (within d)) unnumbered_expr (parts_of x v).pieces (unnumbered_expr v) r q
  pub placed : (d : ℕ) → D ≤ d → (x : List (List Piece)) → Listed n q.exists x → (r : Point) → SameExists r p → Again (level k (within d)) unnumbered_expr (closed k (parts_of x v)) (unnumbered_expr v) r q

pub record Fine (n D k : ℕ) : Type 0 where
  pub read : (p q : Point) (ts : List Token) (v : Expr) → AreWritable ts → level k (within D) p ts v q → FineRead n D k p q v

-- as an operand
pub operand : {n D : ℕ} (k : ℕ) → Fine n D k → Reads n D (λ d. level k (within d)) (λ x v. closed k (parts_of x v)) unnumbered_expr
operand k fine = record { read = λ p q ts v w s. let r = fine.read p q ts v w s in record { grows = r.grows; again = r.placed } }

-- the same in another language
pub turned : {A B : Type 0} {L : Lang A} (M : Lang A) {e : A → B} {ps : List Piece} (qs : List Piece) {b : B} {p q : Point}
    → ps ≡ qs → ((ts : List Token) (v : A) (end : Point) → L p ts v end → M p ts v end) → Again L e ps b p q → Again M e qs b p q
turned M qs {p = p} is turn a = record {
  value = a.value;
  end = a.end;
  spelled = subst (λ ps. M p (tokens_in ps) a.value a.end) is (turn _ a.value a.end a.spelled);
  same = a.same;
  kept = a.kept;
  sound = subst AreSound is a.sound;
}

passed_by : {A : Type 0} (test : Bool) (a b : A) → test ≡ false → cond test a b ≡ b
passed_by true a b is = absurd (false≢true (sym is))
passed_by false a b is = refl

chosen : {A : Type 0} (test : Bool) (a b : A) → test ≡ true → cond test a b ≡ a
chosen true a b is = refl
chosen false a b is = absurd (false≢true is)

pub closed_within : (k : ℕ) (part : Part) → part.rank ≤ k → closed k part ≡ part.pieces
closed_within k part low = passed_by (nat_lt k part.rank) (parenthesized part.pieces) part.pieces (let h : nat_lt k part.rank ≡ false = grind (arith, nat_tests) in h)

pub closed_over : (k : ℕ) (part : Part) → k < part.rank → closed k part ≡ parenthesized part.pieces
closed_over k part high = chosen (nat_lt k part.rank) (parenthesized part.pieces) part.pieces (let h : nat_lt k part.rank ≡ true = grind (arith, nat_tests) in h)

-- whether a rank is within another
pub data Compared (k rank : ℕ) : Type 0 where
  Within : rank ≤ k → Compared k rank
  Over : k < rank → Compared k rank

pub compare : (k rank : ℕ) → Compared k rank
compare k rank = by (nat_lt k rank) refl
  where
    by : (test : Bool) → nat_lt k rank ≡ test → Compared k rank
    by true h = Over (grind (arith, nat_tests))
    by false h = Within (grind (arith, nat_tests))

-- an expression of just this rank
pub fresh : {n D k : ℕ} {p q : Point} {v : Expr} → ((x : List (List Piece)) → (parts_of x v).rank ≡ k)
    → Read n D (λ d. level k (within d)) (λ x v. (parts_of x v).pieces) unnumbered_expr p q v → FineRead n D k p q v
fresh {k = k} {v = v} rank read = record {
  grows = read.grows;
  bare = λ d deep x listed r same.
      turned (level (parts_of x v).rank (within d)) (parts_of x v).pieces refl (λ ts e end s. subst (λ j. level j (within d) r ts e end) (sym (rank x)) s) (read.again d deep x listed r same);
  placed = λ d deep x listed r same.
      turned (level k (within d)) (closed k (parts_of x v)) (sym (closed_within k (parts_of x v) (omega (arith, rank x)))) (λ ts e end s. s) (read.again d deep x listed r same);
}

-- an expression at a looser place
placed_next : {n D k : ℕ} {p q : Point} {v : Expr} → FineRead n D k p q v → (d : ℕ) → D ≤ d → (x : List (List Piece)) → Listed n q.exists x → (r : Point) → SameExists r p
    → Compared (suc k) (parts_of x v).rank → Again (level (suc k) (within d)) unnumbered_expr (closed (suc k) (parts_of x v)) (unnumbered_expr v) r q
placed_next {k = k} {v = v} fine d deep x listed r same (Within low) =
    turned (level (suc k) (within d)) (closed (suc k) (parts_of x v)) (sym (closed_within (suc k) (parts_of x v) low))
    (λ ts e end s. loosened_to (parts_of x v).rank (suc k) low (within d) r end ts e s) (fine.bare d deep x listed r same)
placed_next {k = k} {v = v} fine d deep x listed r same (Over high) =
    turned (level (suc k) (within d)) (closed (suc k) (parts_of x v))
    (closed_over k (parts_of x v) (omega (arith, high)) ∙ sym (closed_over (suc k) (parts_of x v) high))
    (λ ts e end s. loosened k (within d) r end ts e s) (fine.placed d deep x listed r same)

pub carried : {n D k : ℕ} {p q : Point} {v : Expr} → FineRead n D k p q v → FineRead n D (suc k) p q v
carried {k = k} {v = v} fine = record {
  grows = fine.grows;
  bare = fine.bare;
  placed = λ d deep x listed r same. placed_next fine d deep x listed r same (compare (suc k) (parts_of x v).rank);
}

-- an expression of an operator and its operands
pub operated : {A B : Type 0} {n D : ℕ} (k : ℕ) {L : ℕ → Lang A} {f : List (List Piece) → A → List Piece} {e : A → B} {p q : Point} {a : A}
    (make : ℕ → A → Expr) (c : B → Expr)
    → ((d : ℕ) (r s : Point) (ts : List Token) (b : A) → L d r ts b s → level k (within d) r ts (make r.token b) s)
    → ((m : ℕ) (b : A) → unnumbered_expr (make m b) ≡ c (e b))
    → ((x : List (List Piece)) → (parts_of x (make p.token a)).pieces ≡ f x a) → ((x : List (List Piece)) → (parts_of x (make p.token a)).rank ≡ k)
    → Read n D L f e p q a → FineRead n D k p q (make p.token a)
operated k {p = p} {a = a} make c turn same pieces rank read =
    fresh rank (converted (λ d. level k (within d)) (λ x v. (parts_of x v).pieces) unnumbered_expr make c (make p.token a) turn same refl pieces read)

-- at the same points by other names
pub behind_none : {n D k : ℕ} {p q m : Point} {v : Expr} → q ≡ m → FineRead n D k p m v → FineRead n D k p q v
behind_none {n = n} {D = D} {k = k} {p = p} {v = v} is fine = subst (λ t. FineRead n D k p t v) (sym is) fine

pub before_none : {n D k : ℕ} {p q m : Point} {v : Expr} → m ≡ p → FineRead n D k m q v → FineRead n D k p q v
before_none {n = n} {D = D} {k = k} {q = q} {v = v} is fine = subst (λ t. FineRead n D k t q v) is fine
