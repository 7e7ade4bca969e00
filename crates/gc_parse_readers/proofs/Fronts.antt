-- What stands first in a list, token by token.
use Rattle.std.proofs.Common.{◌≡◌, refl, ap, sym, ◌∙◌, ℕ, zero, suc, ◌+◌, Bool, true, false, ◌&&◌, List, [], ◌∷◌, drop}
use Rattle.gc_lex.specs.declared.token.Token.{Token}
use Rattle.gc_parse_readers.specs.Kinds.{begins, begins_so, among, kind}
use native.Mathlib.Omega.{arith}

-- where the first token of a list is of the first kinds, what is behind it decides
pub begins_next : (kinds : List ℕ) (others : List (List ℕ)) (at : ℕ) (ts : List Token) (b : Bool) → begins kinds (drop at ts) ≡ true
    → b ≡ begins_so others (drop (at + 1) ts) → b ≡ begins_so (kinds ∷ others) (drop at ts)
begins_next kinds others zero [] b h is = absurd (cc)
begins_next kinds others zero (t ∷ ts) b h is = is ∙ sym (ap (λ c. c && begins_so others ts) h)
begins_next kinds others (suc at) [] b h is = absurd (cc)
begins_next kinds others (suc at) (t ∷ ts) b h is =
    begins_next kinds others at ts b h (is ∙ ap (λ n. begins_so others (drop n (t ∷ ts))) {x = suc at + 1} {y = suc (at + 1)} (omega arith))

-- a list begins with one token of such kinds
pub begins_last : (kinds : List ℕ) (ts : List Token) (b : Bool) → b ≡ begins kinds ts → b ≡ begins_so (kinds ∷ []) ts
begins_last kinds [] b is = is
begins_last kinds (t ∷ ts) b is = is ∙ sym (and_true (among kinds (kind t)))
  where
    and_true : (c : Bool) → (c && true) ≡ c
    and_true true = refl
    and_true false = refl
