-- What the first token with which brackets are too deep is, where it is computed.
use Rattle.std.proofs.Common.{◌≡◌, refl, ℕ, zero, suc, ◌+◌, ◌<◌, ◌≤◌, Bool, true, false, List, length, take, Some, None, subst, arith, inl, inr}
use Rattle.std.specs.Prelude.{if◌then◌else◌, ◌⊎◌}
use Rattle.std.proofs.lemmas.Bool.Decides.{nat_tests}
use Rattle.std.proofs.lemmas.Option.{same_Some}
use Rattle.std.proofs.Math.Nat.{eq-or-lt_of_le}
use Rattle.gc_lex.specs.declared.token.Token.{Token}
use Rattle.gc_parse.specs.Depths.{IsDepthFault, IsTooDeep, is_too_deep, first_from, depth_fault_in}
use Rattle.gc_parse.proofs.Prefixes.{none_at_all, none_at_first}

-- the first number that passes a test, by what is known of each
abbrev IsFirst : (ℕ → Bool) → ℕ → ℕ → Type 0
IsFirst test from k = (test k ≡ true) × ((n : ℕ) → from ≤ n → n < k → test n ≡ false)

-- the first number fails, and so do those after it up to another
also_first : (test : ℕ → Bool) (from k : ℕ) → test from ≡ false → IsFirst test (suc from) k → IsFirst test from k
also_first test from k fails rest = (rest.0, λ n le less. by n less (eq-or-lt_of_le le))
  where
    by : (n : ℕ) → n < k → (from ≡ n) ⊎ (from < n) → test n ≡ false
    by n less (inl same) = subst (λ m. test m ≡ false) same fails
    by n less (inr after) = rest.1 n (omega (arith, after)) less

first_some : (test : ℕ → Bool) (from count k : ℕ) → first_from test from count ≡ Some k → IsFirst test from k
first_some test from zero k h = absurd (cc)
first_some test from (suc count) k h = by (λ found. first_some test (suc from) count k found) (test from) refl h
  where
    by : (first_from test (suc from) count ≡ Some k → IsFirst test (suc from) k) → (b : Bool) → test from ≡ b → (if b then Some from else first_from test (suc from) count) ≡ Some k → IsFirst test from k
    by later true is found =
        let same = same_Some from k found in
        (subst (λ n. test n ≡ true) same is, λ n le less. absurd (omega (arith, same, le, less)))
    by later false is found = also_first test from k is (later found)

-- where no number is found, each of them fails
none_found : (test : ℕ → Bool) (from count n : ℕ) → first_from test from count ≡ None → from ≤ n → n < from + count → test n ≡ false
none_found test from zero n h le less = absurd (omega (arith, le, less))
none_found test from (suc count) n h le less = by (λ found later. none_found test (suc from) count n found later (omega (arith, less))) (test from) refl h (eq-or-lt_of_le le)
  where
    by : (first_from test (suc from) count ≡ None → suc from ≤ n → test n ≡ false) → (b : Bool) → test from ≡ b → (if b then Some from else first_from test (suc from) count) ≡ None → (from ≡ n) ⊎ (from < n) → test n ≡ false
    by later true is found at = absurd (cc)
    by later false is found (inl same) = subst (λ m. test m ≡ false) same is
    by later false is found (inr after) = later found (omega (arith, after))

-- the test of brackets that are too deep
deep : (ts : List Token) → is_too_deep ts ≡ true → IsTooDeep ts
deep ts h = grind (arith, nat_tests, h)

not_deep : (ts : List Token) → is_too_deep ts ≡ false → IsTooDeep ts → ⊥
not_deep ts h is = grind (arith, nat_tests, h, is)

-- what is computed is the first token with which brackets are too deep
pub fault_in : (ts : List Token) (k : ℕ) → depth_fault_in ts ≡ Some k → IsDepthFault ts (Some k)
fault_in ts k h = (deep (take (k + 1) ts) first.0, earlier)
  where
    first : IsFirst (λ n. is_too_deep (take (n + 1) ts)) 0 k
    first = first_some (λ n. is_too_deep (take (n + 1) ts)) 0 (length ts) k h

    earlier : (n : ℕ) → n ≤ k → IsTooDeep (take n ts) → ⊥
    earlier zero le is = none_at_first ts zero (omega arith) is
    earlier (suc n) le is =
        not_deep (take (suc n) ts) (subst (λ m. is_too_deep (take m ts) ≡ false) {x = n + 1} {y = suc n} (omega arith) (first.1 n (omega arith) (omega (arith, le)))) is

-- where none is computed, none is too deep
pub no_fault_in : (ts : List Token) → depth_fault_in ts ≡ None → IsDepthFault ts None
no_fault_in ts h = none_at_all ts each
  where
    each : (n : ℕ) → n ≤ length ts → IsTooDeep (take n ts) → ⊥
    each zero le is = none_at_first ts zero (omega arith) is
    each (suc n) le is =
        not_deep (take (suc n) ts)
        (subst (λ m. is_too_deep (take m ts) ≡ false) {x = n + 1} {y = suc n} (omega arith) (none_found (λ k. is_too_deep (take (k + 1) ts)) 0 (length ts) n h (omega arith) (omega (arith, le)))) is
