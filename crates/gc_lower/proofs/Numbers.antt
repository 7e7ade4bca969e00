-- The number of a name in a table is its place there.
use Rattle.std.proofs.Common.{◌≡◌, ℕ, zero, suc, ◌<◌, ◌≤◌, ◌&&◌, Bool, true, false, [], ◌∷◌, length, Some, None, refl, sym, ap, ◌∙◌, arith, get_or, inl, inr, cond, ltb}
use Rattle.std.specs.List.{IsDistinct, list_all}
use Rattle.std.specs.Option.{unwrap_or}
use Rattle.std.specs.Cmp.Lexicographic.{bytes_decides}
use Rattle.std.proofs.lemmas.Bool.Decides.{nat_tests}
use Rattle.std.proofs.lemmas.List.Sums.{position_or_len_is}
use Rattle.std.proofs.lemmas.Map.Made.{AllPairs-from_IsDistinct}
use Rattle.std.proofs.lemmas.Option.{slice_get_cases, get_or_from_slice_get}
use Rattle.gc_base.specs.declared.place.Sym.{Sym}
use Rattle.gc_base.specs.Words.{is_word}
use Rattle.gc_expr.specs.Views.{Names, name_of, found_name}
use Rattle.gc_ast.specs.Names.{number_in, same_name}
use Rattle.gc_lower.specs.Scopes.{numbered}

-- a place that is found
picked : (i n : ℕ) → i < n → cond (ltb i n) (Some i) None ≡ Some i
picked i n h = let e : ltb i n ≡ true = grind (arith, nat_tests) in rw e refl

nothing_picked : (n : ℕ) → cond (ltb n n) (Some n) None ≡ None
nothing_picked n = let e : ltb n n ≡ false = grind (arith, nat_tests) in rw e refl

-- a table of words has no empty name
no_match : (names : Names) → list_all is_word names ≡ true → (k : ℕ) → k < length names → same_name [] (get_or names k []) ≡ false
no_match [] h k l = absurd (omega (arith, l))
no_match ([] ∷ names) h k l = cc
no_match ((c ∷ cs) ∷ names) h zero l = refl
no_match ((c ∷ cs) ∷ names) h (suc k) l =
    elim (is_word (c ∷ cs)) as (λ t. is_word (c ∷ cs) ≡ t → same_name [] (get_or names k []) ≡ false) [
      | true ↦ λ q. no_match names (behind (is_word (c ∷ cs)) (list_all is_word names) h) k (omega (arith, l))
      | false ↦ λ q. no_match names (behind (is_word (c ∷ cs)) (list_all is_word names) h) k (omega (arith, l))
    ] refl
  where
    behind : (a b : Bool) → (a && b) ≡ true → b ≡ true
    behind true b e = e
    behind false b e = cc

none_empty : (names : Names) → list_all is_word names ≡ true → number_in names [] ≡ None
none_empty names h =
    let at = position_or_len_is (same_name []) names (length names) [] (omega arith) (no_match names h) (λ l. absurd (omega (arith, l))) in
    ap (λ i. cond (ltb i (length names)) (Some i) None) at ∙ nothing_picked (length names)

-- a name of a table is found at its place
own_place : (names : Names) → IsDistinct same_name names → (i : ℕ) → i < length names → number_in names (get_or names i []) ≡ Some i
own_place names distinct i inside =
    let apart = AllPairs-from_IsDistinct bytes_decides names distinct in
    let n = get_or names i [] in
    let at = position_or_len_is (same_name n) names i [] (omega (arith, inside))
    (λ k l. elim (same_name n (get_or names k [])) as (λ t. same_name n (get_or names k []) ≡ t → t ≡ false) [
      | true ↦ λ q. absurd (apart k i [] l inside (sym ((bytes_decides n (get_or names k [])).0 q)))
      | false ↦ λ q. refl
    ] refl)
    (λ l. (bytes_decides n n).1 refl) in
    ap (λ j. cond (ltb j (length names)) (Some j) None) at ∙ picked i (length names) inside

-- a number in the table is its name's
pub own_number : (names : Names) → IsDistinct same_name names → (x : Sym) → x.0 < length names → x ≡ numbered names (name_of names x)
own_number names distinct x inside =
    let named : name_of names x ≡ get_or names x.0 [] =
    elim ((slice_get_cases names x.0).1) [
      | inl h ↦ ap found_name h.2 ∙ sym (get_or_from_slice_get names x.0 h.0 [] h.2)
      | inr h ↦ absurd (omega (arith, h.0, inside))
    ] in
    let place = ap (number_in names) named ∙ own_place names distinct x.0 inside in
    λ i. record { 0 = unwrap_or (sym place i) (length names) }

-- one past it has no name, and the number behind the last
pub no_number : (names : Names) → list_all is_word names ≡ true → (x : Sym) → length names ≤ x.0 → record { 0 = length names } ≡ numbered names (name_of names x)
no_number names words x past =
    let named : name_of names x ≡ [] =
    elim ((slice_get_cases names x.0).1) [
      | inl h ↦ absurd (omega (arith, h.1, past))
      | inr h ↦ ap found_name h.1
    ] in
    let place = ap (number_in names) named ∙ none_empty names words in
    λ i. record { 0 = unwrap_or (sym place i) (length names) }
