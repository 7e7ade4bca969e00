-- Fronts of token lists that grow by one token: what was counted in them.
use Rattle.std.proofs.Common.{◌≡◌, refl, ap, sym, subst, ◌∙◌, ℕ, zero, suc, ◌+◌, ◌≤◌, Bool, true, false, if◌then◌else◌, ◌==◌, nat_lt, List, [], ◌∷◌, ◌++◌, length, take, slice_get, Some}
use Rattle.std.proofs.lemmas.Bool.{eqb-true}
use Rattle.std.proofs.lemmas.Bool.Decides.{nat_tests}
use Rattle.std.specs.List.{filter}
use Rattle.gc_lex.specs.declared.token.Token.{Token}
use Rattle.gc_parse_source.proofs.Prefixes.{take_snoc}
use Rattle.gc_parse.specs.Depths.{one_if, IsTooDeep}
use native.Mathlib.Omega.{arith}

count_more : (p : Token → Bool) (x t : Token) (ts : List Token) (n : ℕ) (c : Bool) → length (filter p (ts ++ t ∷ [])) ≡ length (filter p ts) + n
    → length (if c then x ∷ filter p (ts ++ t ∷ []) else filter p (ts ++ t ∷ [])) ≡ length (if c then x ∷ filter p ts else filter p ts) + n
count_more p x t ts n true later = omega (arith, later)
count_more p x t ts n false later = later

count_snoc : (p : Token → Bool) (ts : List Token) (t : Token) (b : Bool) → p t ≡ b → length (filter p (ts ++ t ∷ [])) ≡ length (filter p ts) + one_if b
count_snoc p [] t true h = ap (λ b. length (if b then t ∷ [] else [])) h
count_snoc p [] t false h = ap (λ b. length (if b then t ∷ [] else [])) h
count_snoc p (x ∷ ts) t b h = count_more p x t ts (one_if b) (p x) (count_snoc p ts t b h)

-- a count over one token more
pub count_next : (p : Token → Bool) (ts : List Token) (i n new : ℕ) (t : Token) (b : Bool) → slice_get ts i ≡ Some t → b ≡ p t → n ≡ length (filter p (take i ts))
    → new ≡ n + one_if b → new ≡ length (filter p (take (i + 1) ts))
count_next p ts i n new t b at is so_far more =
    more ∙ ap (λ m. m + one_if b) so_far ∙ sym (count_snoc p (take i ts) t b (sym is)) ∙ ap (λ us. length (filter p us)) (sym (take_snoc ts i t at))

-- no front up to so many tokens is too deep
abbrev pub NoneTooDeep : List Token → ℕ → Type 0
NoneTooDeep ts i = (n : ℕ) → n ≤ i → IsTooDeep (take n ts) → ⊥

pub none_at_first : (ts : List Token) → NoneTooDeep ts 0
none_at_first ts zero le deep = absurd (omega (arith, deep))
none_at_first ts (suc n) le deep = absurd (omega (arith, le))

pub none_next : (ts : List Token) (i : ℕ) → NoneTooDeep ts i → (IsTooDeep (take (i + 1) ts) → ⊥) → NoneTooDeep ts (i + 1)
none_next ts i none here n le deep = decide (n == i + 1) refl
  where
    decide : (b : Bool) → (n == i + 1) ≡ b → ⊥
    decide true is = here (subst (λ m. IsTooDeep (take m ts)) (eqb-true n (i + 1) is) deep)
    decide false is = none n (grind (arith, nat_tests, le, is)) deep

take_all : (ts : List Token) (n : ℕ) → length ts ≤ n → take n ts ≡ take (length ts) ts
take_all [] zero le = refl
take_all [] (suc n) le = refl
take_all (t ∷ ts) zero le = absurd (omega (arith, le))
take_all (t ∷ ts) (suc n) le = ap (λ us. t ∷ us) (take_all ts n (omega (arith, le)))

-- where no front is too deep up to the length, none is
pub none_at_all : (ts : List Token) → NoneTooDeep ts (length ts) → (n : ℕ) → IsTooDeep (take n ts) → ⊥
none_at_all ts none n deep = decide (nat_lt (length ts) n) refl
  where
    decide : (b : Bool) → nat_lt (length ts) n ≡ b → ⊥
    decide true is = none (length ts) (omega arith) (subst IsTooDeep (take_all ts n (grind (arith, nat_tests, is))) deep)
    decide false is = none n (grind (arith, nat_tests, is)) deep

pub at_most_one : (b : Bool) → one_if b ≤ 1
at_most_one true = omega arith
at_most_one false = omega arith
