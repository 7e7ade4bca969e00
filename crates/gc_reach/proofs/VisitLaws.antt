-- What becomes of some pairs where others are visited.
use Rattle.std.proofs.Common.{◌≡◌, ℕ, zero, suc, ◌+◌, ◌<◌, Bool, true, false, cond, ◌||◌, ◌&&◌, ◌==◌, List, [], ◌∷◌, ◌++◌, take, length, Some, None, refl, sym, ap, ap₂, subst, ◌∙◌, append_assoc, arith}
use Rattle.std.specs.List.{AllByRecursion, Contains, slice_get}
use Rattle.std.proofs.lemmas.Bool.Decides.{nat_tests}
use Rattle.std.proofs.lemmas.List.{append-nil, take-append-le}
use Rattle.std.proofs.lemmas.List.Folds.{list_any-append}
use Rattle.gc_base.proofs.SetLaws.{AllByRecursion-append}
use Rattle.gc_prod.proofs.Members.{here, there}
use Rattle.gc_prod.specs.declared.moves.Pair.{Pair}
use Rattle.gc_reach.specs.Exploring.{AreApart}
use Rattle.gc_reach.specs.Marking.{same_pair, has_pair, visit, visit_all}
use Rattle.gc_reach.proofs.MarkLaws.{has_more, itself}

-- a list with more behind it
pub record Grown (xs ys : List Pair) : Type 0 where
  pub extra : List Pair
  pub is : ys ≡ xs ++ extra

same : (xs : List Pair) → Grown xs xs
same xs = record { extra = []; is = sym (append-nil xs) }

further : (xs ys zs : List Pair) → Grown xs ys → Grown ys zs → Grown xs zs
further xs ys zs g h = record { extra = g.extra ++ h.extra; is = h.is ∙ (ap (λ l. l ++ h.extra) g.is ∙ append_assoc xs g.extra h.extra) }

visit_grows : (pairs : List Pair) (p : Pair) → Grown pairs (visit pairs p)
visit_grows pairs p = elim (has_pair pairs p) as (λ b. Grown pairs (cond b pairs (pairs ++ p ∷ []))) [ true ↦ same pairs | false ↦ record { extra = p ∷ []; is = refl } ]

pub visit_all_grows : (pairs more : List Pair) → Grown pairs (visit_all pairs more)
visit_all_grows pairs [] = same pairs
visit_all_grows pairs (p ∷ more) = further pairs (visit pairs p) (visit_all (visit pairs p) more) (visit_grows pairs p) (visit_all_grows (visit pairs p) more)

true_or : (a b : Bool) → a ≡ true → (a || b) ≡ true
true_or a b h = ap (λ x. x || b) h

or_true : (b : Bool) → (b || true) ≡ true
or_true true = refl
or_true false = refl

-- a pair that is among some stays among them
pub has_grown : (xs ys : List Pair) (q : Pair) → Grown xs ys → has_pair xs q ≡ true → has_pair ys q ≡ true
has_grown xs ys q g h = ap (λ l. has_pair l q) g.is ∙ (list_any-append (λ r. same_pair r q) xs g.extra ∙ true_or (has_pair xs q) _ h)

has_visit : (pairs : List Pair) (p : Pair) → has_pair (visit pairs p) p ≡ true
has_visit pairs p =
    elim (has_pair pairs p) as (λ b. has_pair pairs p ≡ b → has_pair (cond b pairs (pairs ++ p ∷ [])) p ≡ true) [
      | true ↦ λ e. e
      | false ↦ λ e. has_more pairs p p ∙ (ap (λ b. has_pair pairs p || b) (itself p) ∙ or_true (has_pair pairs p))
    ] refl

pub has_all : (pairs more : List Pair) → AllByRecursion (λ q. has_pair (visit_all pairs more) q ≡ true) more
has_all pairs [] = tt
has_all pairs (p ∷ more) = (
  has_grown (visit pairs p) (visit_all (visit pairs p) more) p (visit_all_grows (visit pairs p) more) (has_visit pairs p),
  has_all (visit pairs p) more,
)

-- what holds of all pairs and of those visited holds of them then
pub all_visited : (P : Pair → Type 0) (pairs more : List Pair) → AllByRecursion P pairs → AllByRecursion P more → AllByRecursion P (visit_all pairs more)
all_visited P pairs [] all new = all
all_visited P pairs (p ∷ more) all new = all_visited P (visit pairs p) more first new.1
  where
    first : AllByRecursion P (visit pairs p)
    first = elim (has_pair pairs p) as (λ b. AllByRecursion P (cond b pairs (pairs ++ p ∷ []))) [
      | true ↦ all
      | false ↦ AllByRecursion-append P pairs (p ∷ []) all (new.0, tt)
    ]

-- pairs stay apart
eqb_turned : (a b : ℕ) → (a == b) ≡ (b == a)
eqb_turned a b = grind (arith, nat_tests)

turned : (p q : Pair) → same_pair p q ≡ same_pair q p
turned p q = ap₂ (λ a b. a && b) (eqb_turned p.node q.node) (eqb_turned p.state q.state)

first_false : (a b : Bool) → (a || b) ≡ false → a ≡ false
first_false true b h = cc
first_false false b h = refl

second_false : (a b : Bool) → (a || b) ≡ false → b ≡ false
second_false true b h = cc
second_false false b h = h

apart_more : (pairs : List Pair) (p : Pair) → AreApart pairs → has_pair pairs p ≡ false → AreApart (pairs ++ p ∷ [])
apart_more [] p apart new = (refl, tt)
apart_more (q ∷ pairs) p apart new = (
  has_more pairs p q ∙ ap₂ (λ a b. a || b) apart.0 (turned p q ∙ first_false (same_pair q p) (has_pair pairs p) new),
  apart_more pairs p apart.1 (second_false (same_pair q p) (has_pair pairs p) new),
)

pub apart_visited : (pairs more : List Pair) → AreApart pairs → AreApart (visit_all pairs more)
apart_visited pairs [] apart = apart
apart_visited pairs (p ∷ more) apart = apart_visited (visit pairs p) more first
  where
    first : AreApart (visit pairs p)
    first = elim (has_pair pairs p) as (λ b. has_pair pairs p ≡ b → AreApart (cond b pairs (pairs ++ p ∷ []))) [
      | true ↦ λ e. apart
      | false ↦ λ e. apart_more pairs p apart e
    ] refl

eqb_same : (a b : ℕ) → (a == b) ≡ true → a ≡ b
eqb_same a b h = grind (arith, nat_tests)

and_both : (a b : Bool) → (a && b) ≡ true → (a ≡ true) × (b ≡ true)
and_both true b h = (refl, h)
and_both false b h = cc

-- a pair that is among some by the test is one of them
pub has_contains : (pairs : List Pair) (p : Pair) → has_pair pairs p ≡ true → Contains pairs p
has_contains [] p h = cc
has_contains (q ∷ pairs) p h = by (has_contains pairs p) (same_pair q p) refl h
  where
    by : (has_pair pairs p ≡ true → Contains pairs p) → (b : Bool) → same_pair q p ≡ b → (b || has_pair pairs p) ≡ true → Contains (q ∷ pairs) p
    by next true e k =
        let both = and_both _ _ e in
        let node = eqb_same q.node p.node both.0 in
        let state = eqb_same q.state p.state both.1 in
        let is : q ≡ p = λ j. record { node = node j; state = state j } in
        subst (λ r. Contains (q ∷ pairs) r) is (here q pairs)
    by next false e k = there q pairs p (next k)

-- one more pair of those that there were is one more of those that there are
pub one_more : (xs : List Pair) (i : ℕ) (x : Pair) → slice_get xs i ≡ Some x → (i < length xs) × (take (i + 1) xs ≡ take i xs ++ x ∷ [])
one_more [] i x at = cc
one_more (y ∷ xs) zero x at = let is : y ≡ x = cc in (omega arith, ap (λ z. z ∷ []) is)
one_more (y ∷ xs) (suc i) x at =
    let r = one_more xs i x at in
    let e : suc i + 1 ≡ suc (i + 1) = omega arith in
    (omega (arith, r.0), ap (λ n. take n (y ∷ xs)) e ∙ ap (λ l. y ∷ l) r.1)

pub taken : (xs ys : List Pair) (i : ℕ) (x : Pair) → Grown xs ys → slice_get xs i ≡ Some x → take (i + 1) ys ≡ take i xs ++ x ∷ []
taken xs ys i x g at =
    let r = one_more xs i x at in
    ap (take (i + 1)) g.is ∙ (take-append-le (i + 1) xs g.extra (omega (arith, r.0)) ∙ r.1)

pub all_taken : (xs : List Pair) (i : ℕ) → slice_get xs i ≡ None → take i xs ≡ xs
all_taken [] zero at = refl
all_taken [] (suc i) at = refl
all_taken (x ∷ xs) zero at = cc
all_taken (x ∷ xs) (suc i) at = ap (λ l. x ∷ l) (all_taken xs i at)

has_taken : (xs : List Pair) (i : ℕ) (p : Pair) → has_pair xs p ≡ false → has_pair (take i xs) p ≡ false
has_taken xs zero p h = refl
has_taken [] (suc i) p h = refl
has_taken (x ∷ xs) (suc i) p h =
    ap₂ (λ a b. a || b) (first_false (same_pair x p) (has_pair xs p) h) (has_taken xs i p (second_false (same_pair x p) (has_pair xs p) h))

pub apart_taken : (xs : List Pair) (i : ℕ) → AreApart xs → AreApart (take i xs)
apart_taken xs zero apart = tt
apart_taken [] (suc i) apart = tt
apart_taken (x ∷ xs) (suc i) apart = (has_taken xs i x apart.0, apart_taken xs i apart.1)
