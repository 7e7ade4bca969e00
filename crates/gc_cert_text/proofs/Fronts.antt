-- How far opening brackets are above closing ones in the fronts of token lists.
use Rattle.std.proofs.Common.{◌≡◌, ℕ, zero, suc, ◌+◌, ◌≤◌, Bool, false, cond, List, [], ◌∷◌, ◌++◌, length, take, None, refl, sym, ap, subst, ◌∙◌, arith, inl, inr}
use Rattle.std.proofs.lemmas.List.{length-append}
use Rattle.std.proofs.lemmas.List.Elements.{filter-append}
use Rattle.std.specs.List.{AllByRecursion, filter}
use Rattle.std.specs.Prelude.{◌⊎◌}
use Rattle.gc_lex.specs.declared.token.Token.{Token}
use Rattle.gc_lex.specs.declared.token.Token.TheVariants.{Symbol}
use Rattle.gc_lex.specs.declared.token.Mark.TheVariants as mark
use Rattle.gc_parse.specs.Depths.{IsDepthFault, is_closing, is_opening}

abbrev pub opened : List Token → ℕ
opened ts = length (filter is_opening ts)

abbrev pub closed : List Token → ℕ
closed ts = length (filter is_closing ts)

-- in no front are more than so many open, and as many are closed as are opened
pub record IsWithin (n : ℕ) (ts : List Token) : Type 0 where
  pub fronts : (k : ℕ) → opened (take k ts) ≤ closed (take k ts) + n
  pub even : opened ts ≡ closed ts

pub counts : (p : Token → Bool) (a b : List Token) → length (filter p (a ++ b)) ≡ length (filter p a) + length (filter p b)
counts p a b = ap length (filter-append p a b) ∙ length-append (filter p a) (filter p b)

-- a front of two lists is one of the first, or has the first whole
front_of_two : (k : ℕ) (a b : List Token) → (take k (a ++ b) ≡ take k a) ⊎ ((j : ℕ) × (take k (a ++ b) ≡ a ++ take j b))
front_of_two k [] b = inr (k, refl)
front_of_two zero (t ∷ a) b = inl refl
front_of_two (suc k) (t ∷ a) b = by (front_of_two k a b)
  where
    by : (take k (a ++ b) ≡ take k a) ⊎ ((j : ℕ) × (take k (a ++ b) ≡ a ++ take j b))
        → (take (suc k) ((t ∷ a) ++ b) ≡ take (suc k) (t ∷ a)) ⊎ ((j : ℕ) × (take (suc k) ((t ∷ a) ++ b) ≡ (t ∷ a) ++ take j b))
    by (inl h) = inl (ap (λ l. t ∷ l) h)
    by (inr h) = inr (h.0, ap (λ l. t ∷ l) h.1)

pub within_more : (m n : ℕ) (ts : List Token) → m ≤ n → IsWithin m ts → IsWithin n ts
within_more m n ts le h = record { fronts = λ k. omega (arith, h.fronts k); even = h.even }

pub within_append : (n : ℕ) (a b : List Token) → IsWithin n a → IsWithin n b → IsWithin n (a ++ b)
within_append n a b h g = record {
  fronts = λ k. by k (front_of_two k a b);
  even = omega (arith, counts is_opening a b, counts is_closing a b, h.even, g.even);
}
  where
    by : (k : ℕ) → (take k (a ++ b) ≡ take k a) ⊎ ((j : ℕ) × (take k (a ++ b) ≡ a ++ take j b)) → opened (take k (a ++ b)) ≤ closed (take k (a ++ b)) + n
    by k (inl is) = subst (λ l. opened l ≤ closed l + n) (sym is) (h.fronts k)
    by k (inr is) =
        subst (λ l. opened l ≤ closed l + n) (sym is.1)
        (omega (arith, counts is_opening a (take is.0 b), counts is_closing a (take is.0 b), h.even, g.fronts is.0))

-- a token that is no bracket
pub record IsNoBracket (t : Token) : Type 0 where
  pub opens : is_opening t ≡ false
  pub closes : is_closing t ≡ false

none_counted : (p : Token → Bool) (ts : List Token) → AllByRecursion (λ t. p t ≡ false) ts → (k : ℕ) → length (filter p (take k ts)) ≡ 0
none_counted p [] h zero = refl
none_counted p [] h (suc k) = refl
none_counted p (t ∷ ts) h zero = refl
none_counted p (t ∷ ts) h (suc k) = ap (λ b. length (cond b (t ∷ filter p (take k ts)) (filter p (take k ts)))) h.0 ∙ none_counted p ts h.1 k

all_counted : (p : Token → Bool) (ts : List Token) → AllByRecursion (λ t. p t ≡ false) ts → length (filter p ts) ≡ 0
all_counted p [] h = refl
all_counted p (t ∷ ts) h = ap (λ b. length (cond b (t ∷ filter p ts) (filter p ts))) h.0 ∙ all_counted p ts h.1

pub none_open : (ts : List Token) → AllByRecursion (λ t. is_opening t ≡ false) ts → AllByRecursion (λ t. is_closing t ≡ false) ts → IsWithin 0 ts
none_open ts opens closes = record {
  fronts = λ k. omega (arith, none_counted is_opening ts opens k);
  even = all_counted is_opening ts opens ∙ sym (all_counted is_closing ts closes);
}

-- tokens in parentheses
abbrev pub enclosing : List Token → List Token
enclosing ts = Symbol mark.OpenParenthesis ∷ (ts ++ Symbol mark.CloseParenthesis ∷ [])

pub within_enclosing : (n : ℕ) (ts : List Token) → IsWithin n ts → IsWithin (n + 1) (enclosing ts)
within_enclosing n ts h = record {
  fronts = each;
  even = omega (arith, counts is_opening ts close, counts is_closing ts close, h.even);
}
  where
    close : List Token
    close = Symbol mark.CloseParenthesis ∷ []

    last : (j : ℕ) → opened (take j close) ≡ 0
    last zero = refl
    last (suc zero) = refl
    last (suc (suc j)) = refl

    by : (k : ℕ) → (take k (ts ++ close) ≡ take k ts) ⊎ ((j : ℕ) × (take k (ts ++ close) ≡ ts ++ take j close)) → opened (take k (ts ++ close)) ≤ closed (take k (ts ++ close)) + n
    by k (inl is) = subst (λ l. opened l ≤ closed l + n) (sym is) (h.fronts k)
    by k (inr is) =
        subst (λ l. opened l ≤ closed l + n) (sym is.1)
        (omega (arith, counts is_opening ts (take is.0 close), counts is_closing ts (take is.0 close), h.even, last is.0))

    each : (k : ℕ) → opened (take k (enclosing ts)) ≤ closed (take k (enclosing ts)) + (n + 1)
    each zero = omega arith
    each (suc k) = omega (arith, by k (front_of_two k ts close))

-- within 64, brackets are never too deep
pub no_fault : (n : ℕ) (ts : List Token) → n ≤ 64 → IsWithin n ts → IsDepthFault ts None
no_fault n ts le h = λ k deep. omega (arith, h.fronts k, deep)
