-- The first token with which brackets are too deep, as it is found and as it is computed.
use Rattle.std.proofs.Common.{◌≡◌, refl, ap, sym, ◌∙◌, subst, ℕ, zero, suc, ◌+◌, ◌<◌, ◌≤◌, Bool, true, false, if◌then◌else◌, nat_lt, List, [], ◌∷◌, length, take, Option, Some, None}
use Rattle.std.proofs.lemmas.Bool.Decides.{nat_tests}
use Rattle.std.specs.List.{filter}
use Rattle.gc_lex.specs.declared.token.Token.{Token}
use Rattle.gc_parse.specs.Depths.{IsTooDeep, IsDepthFault, is_opening, is_closing, is_too_deep, first_from, depth_fault_in}
use native.Mathlib.Omega.{arith}

-- one step of the search for it
first_here : (test : ℕ → Bool) (from count k : ℕ) (later : Option ℕ) (below : Bool) → nat_lt from k ≡ below → from ≤ k → test k ≡ true
    → ((n : ℕ) → from ≤ n → n < k → test n ≡ false) → (from < k → later ≡ Some k) → (if test from then Some from else later) ≡ Some k
first_here test from count k later true below low passes fails goes_on =
    ap (λ b. if b then Some from else later) (fails from (omega arith) (grind (arith, nat_tests, below))) ∙ goes_on (grind (arith, nat_tests, below))
first_here test from count k later false above low passes fails goes_on =
    let here : from ≡ k = grind (arith, nat_tests, above, low) in
    ap (λ b. if b then Some from else later) (subst (λ m. test m ≡ true) (sym here) passes) ∙ ap Some here

-- the first number that passes is found
first_is : (test : ℕ → Bool) (from count k : ℕ) → from ≤ k → k < from + count → test k ≡ true → ((n : ℕ) → from ≤ n → n < k → test n ≡ false)
    → first_from test from count ≡ Some k
first_is test from zero k low high passes fails = absurd (omega (arith, low, high))
first_is test from (suc count) k low high passes fails =
    first_here test from count k (first_from test (suc from) count) (nat_lt from k) refl low passes fails λ below.
    first_is test (suc from) count k (omega (arith, below)) (omega (arith, high)) passes λ n above. fails n (omega (arith, above))

-- where no number passes none is found
first_is_none : (test : ℕ → Bool) (from count : ℕ) → ((n : ℕ) → test n ≡ false) → first_from test from count ≡ None
first_is_none test from zero fails = refl
first_is_none test from (suc count) fails =
    ap (λ b. if b then Some from else first_from test (suc from) count) (fails from) ∙ first_is_none test (suc from) count fails

too_deep : (ts : List Token) → IsTooDeep ts → is_too_deep ts ≡ true
too_deep ts deep = at (length (filter is_closing ts)) (length (filter is_opening ts)) deep
  where
    at : (closed opened : ℕ) → closed + 64 < opened → nat_lt (closed + 64) opened ≡ true
    at closed opened h = grind (arith, nat_tests, h)

not_too_deep : (ts : List Token) → (IsTooDeep ts → ⊥) → is_too_deep ts ≡ false
not_too_deep ts shallow = at (length (filter is_closing ts)) (length (filter is_opening ts)) (nat_lt (length (filter is_closing ts) + 64) (length (filter is_opening ts))) refl shallow
  where
    at : (closed opened : ℕ) (b : Bool) → nat_lt (closed + 64) opened ≡ b → (closed + 64 < opened → ⊥) → nat_lt (closed + 64) opened ≡ false
    at closed opened true is never = absurd (never (grind (arith, nat_tests, is)))
    at closed opened false is never = is

whole_from : (ts : List Token) (k : ℕ) → length ts ≤ k → take (k + 1) ts ≡ take k ts
whole_from [] zero le = refl
whole_from [] (suc k) le = ap (λ n. take n []) {x = suc k + 1} {y = suc (k + 1)} (omega arith)
whole_from (t ∷ ts) zero le = absurd (omega (arith, le))
whole_from (t ∷ ts) (suc k) le =
    ap (λ n. take n (t ∷ ts)) {x = suc k + 1} {y = suc (k + 1)} (omega arith) ∙ ap (λ us. t ∷ us) (whole_from ts k (omega (arith, le)))

-- where a token is too deep for the first time, its number is the one that is computed
pub depth_fault_is : (ts : List Token) (k : ℕ) → IsDepthFault ts (Some k) → depth_fault_in ts ≡ Some k
depth_fault_is ts k fault =
    first_is (λ n. is_too_deep (take (n + 1) ts)) 0 (length ts) k (omega arith) (within (nat_lt k (length ts)) refl) (too_deep (take (k + 1) ts) fault.0)
    λ n low below. not_too_deep (take (n + 1) ts) (fault.1 (n + 1) (omega (arith, below)))
  where
    within : (b : Bool) → nat_lt k (length ts) ≡ b → k < 0 + length ts
    within true is = grind (arith, nat_tests, is)
    within false is =
        absurd (fault.1 k (omega arith) (subst IsTooDeep (whole_from ts k (grind (arith, nat_tests, is))) fault.0))

-- where none is, none is computed
pub depth_fault_is_none : (ts : List Token) → IsDepthFault ts None → depth_fault_in ts ≡ None
depth_fault_is_none ts none =
    first_is_none (λ n. is_too_deep (take (n + 1) ts)) 0 (length ts) λ n. not_too_deep (take (n + 1) ts) (none (n + 1))
