-- What the small functions of the search are told by, and the steps of their loops.
use Rattle.std.proofs.Common.{◌≡◌, ℕ, zero, suc, ◌+◌, ◌<◌, ◌≤◌, ◌==◌, false, List, [], ◌∷◌, map, length, drop, Some, refl, sym, ap, ◌∙◌, subst, arith, inl, inr, Ordering, Less, Equal, Greater}
use Rattle.std.specs.Ordering.{MatchOrdering, nat_cmp, is_eq, ordering_then}
use Rattle.std.specs.Cmp.Lexicographic.{slice_cmp}
use Rattle.std.proofs.lemmas.Bool.Decides.{nat_tests}
use Rattle.std.proofs.lemmas.Cmp.{ranked}
use Rattle.std.specs.List.{AllByRecursion, slice_get}
use Rattle.gc_base.proofs.Search.{AllByRecursion-weaker}
use Rattle.gc_prod.proofs.HopLists.{left_at}
use Rattle.gc_search.specs.Arrivals.{FoundWalk, edges_along, entry_of, TakesLeast, Told}
use Rattle.gc_search.specs.Entries.{Entry, LexLess}
use Rattle.gc_search.specs.Passages.{Has}

lex_then : (x y : ℕ) (xs ys : List ℕ) (r o : Ordering) → MatchOrdering r (x < y) (x ≡ y) (y < x) → MatchOrdering o (LexLess xs ys) (xs ≡ ys) (LexLess ys xs)
    → MatchOrdering (ordering_then r o) (LexLess (x ∷ xs) (y ∷ ys)) ((x ∷ xs) ≡ (y ∷ ys)) (LexLess (y ∷ ys) (x ∷ xs))
lex_then x y xs ys Less o e m = inl e
lex_then x y xs ys Greater o e m = inl e
lex_then x y xs ys Equal Less e m = inr (e, m)
lex_then x y xs ys Equal Equal e m = ap (λ v. v ∷ xs) e ∙ ap (λ v. y ∷ v) m
lex_then x y xs ys Equal Greater e m = inr (sym e, m)

pub lex_ranked : (xs ys : List ℕ) → length xs ≡ length ys → MatchOrdering (slice_cmp nat_cmp xs ys) (LexLess xs ys) (xs ≡ ys) (LexLess ys xs)
lex_ranked [] [] n = refl
lex_ranked [] (y ∷ ys) n = let f : ⊥ = omega (arith, n) in elim f [ ]
lex_ranked (x ∷ xs) [] n = let f : ⊥ = omega (arith, n) in elim f [ ]
lex_ranked (x ∷ xs) (y ∷ ys) n = lex_then x y xs ys (nat_cmp x y) (slice_cmp nat_cmp xs ys) (ranked x y (nat_cmp x y) refl) (lex_ranked xs ys (omega (arith, n)))

eq_then : (x y : ℕ) (xs ys : List ℕ) (r o : Ordering) → MatchOrdering r (x < y) (x ≡ y) (y < x) → Told (is_eq o) (xs ≡ ys) (xs ≡ ys → ⊥)
    → Told (is_eq (ordering_then r o)) ((x ∷ xs) ≡ (y ∷ ys)) ((x ∷ xs) ≡ (y ∷ ys) → ⊥)
eq_then x y xs ys Less o e m = λ d. let h : x ≡ y = cc in omega (arith, e, h)
eq_then x y xs ys Greater o e m = λ d. let h : x ≡ y = cc in omega (arith, e, h)
eq_then x y xs ys Equal Less e m = λ d. let h : xs ≡ ys = cc in m h
eq_then x y xs ys Equal Equal e m = ap (λ v. v ∷ xs) e ∙ ap (λ v. y ∷ v) m
eq_then x y xs ys Equal Greater e m = λ d. let h : xs ≡ ys = cc in m h

-- lists are the same exactly where they are level
pub eq_told : (xs ys : List ℕ) → Told (is_eq (slice_cmp nat_cmp xs ys)) (xs ≡ ys) (xs ≡ ys → ⊥)
eq_told [] [] = refl
eq_told [] (y ∷ ys) = λ d. cc
eq_told (x ∷ xs) [] = λ d. cc
eq_told (x ∷ xs) (y ∷ ys) = eq_then x y xs ys (nat_cmp x y) (slice_cmp nat_cmp xs ys) (ranked x y (nat_cmp x y) refl) (eq_told xs ys)

pub differ : (a b : ℕ) → (a ≡ b → ⊥) → (a == b) ≡ false
differ a b h = grind (arith, nat_tests)

-- the walks at a pair that have the edges of a walk
abbrev pub HasEdges : List FoundWalk → FoundWalk → Type 0
HasEdges some a = (x : Entry) × Has (map entry_of some) x × (x.edges ≡ edges_along a.steps)

pub edges_there : (some : List FoundWalk) (j : ℕ) (x a : FoundWalk) → slice_get some j ≡ Some x → edges_along x.steps ≡ edges_along a.steps → HasEdges some a
edges_there [] j x a h d = cc
edges_there (y ∷ some) zero x a h d = let e : y ≡ x = cc in (entry_of x, inl (ap entry_of e), d)
edges_there (y ∷ some) (suc j) x a h d = let s = edges_there some j x a h d in (s.0, inr s.1, s.2)

-- another walk goes by
pub edges_later : (some : List FoundWalk) (j : ℕ) (x a : FoundWalk) → slice_get some j ≡ Some x → (edges_along x.steps ≡ edges_along a.steps → ⊥) → HasEdges (drop j some) a → HasEdges (drop (j + 1) some) a
edges_later some j x a h other s =
    let first : HasEdges (x ∷ drop (j + 1) some) a = subst (λ (l : List FoundWalk). HasEdges l a) (left_at some j x h) s in
    elim first.1 [
      | inl e ↦ elim (other (ap (λ (v : Entry). v.edges) e ∙ first.2)) [ ]
      | inr g ↦ (first.0, g, first.2)
    ]

pub edges_none : (some : List FoundWalk) (j : ℕ) (a : FoundWalk) → length some ≤ j → HasEdges (drop j some) a → ⊥
edges_none [] zero a le s = s.1
edges_none [] (suc j) a le s = s.1
edges_none (y ∷ some) zero a le s = omega (arith, le)
edges_none (y ∷ some) (suc j) a le s = edges_none some j a (omega (arith, le)) s

pub all_has : {X : Type 0} (P : X → Type 0) (xs : List X) (x : X) → AllByRecursion P xs → Has xs x → P x
all_has P [] x all h = elim h [ ]
all_has P (y ∷ xs) x all (inl e) = subst P e all.0
all_has P (y ∷ xs) x all (inr h) = all_has P xs x all.1 h

pub all_of_has : {X : Type 0} (P : X → Type 0) (xs : List X) → ((x : X) → Has xs x → P x) → AllByRecursion P xs
all_of_has P [] each = tt
all_of_has P (x ∷ xs) each = (each x (inl refl), all_of_has P xs (λ y h. each y (inr h)))

-- what holds of those that are pending holds of those that are left
pub all_rest : (P : FoundWalk → Type 0) (cs rest : List FoundWalk) (c : FoundWalk) → TakesLeast cs c rest → AllByRecursion P cs → AllByRecursion P rest
all_rest P cs rest c t all = all_of_has P rest (λ x h. all_has P cs x all (t.from x h))

pub costs_more : (m n : ℕ) (xs : List FoundWalk) → m ≤ n → AllByRecursion (λ a. a.cost ≤ m) xs → AllByRecursion (λ a. a.cost ≤ n) xs
costs_more m n xs le all = AllByRecursion-weaker (λ (a : FoundWalk). a.cost ≤ m) (λ (a : FoundWalk). a.cost ≤ n) (λ a h. omega (arith, h, le)) xs all

pub none_there : {X : Type 0} (xs : List X) → length xs ≡ 0 → xs ≡ []
none_there [] n = refl
none_there (x ∷ xs) n = absurd (omega (arith, n))
