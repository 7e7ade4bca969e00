-- The longest front of digits.
use Rattle.std.proofs.Common.{◌≡◌, ℕ, ◌+◌, ◌-◌, ◌<◌, ◌≤◌, Bool, true, false, cond, List, [], ◌∷◌, length, get_or, take, drop, refl, arith, one-add, length-drop, subst}
use Rattle.std.specs.List.{prefix_len}
use Rattle.std.specs.Char.{is_ascii_digit}
use Rattle.std.specs.Str.{IsUtf8, IsCharBoundary, all_ascii_digits}
use Rattle.std.proofs.lemmas.Bool.Decides.{nat_tests}
use Rattle.std.proofs.lemmas.List.{get_or-drop}
use Rattle.std.proofs.lemmas.List.Sums.{prefix_len_passes, prefix_len-le-length, prefix_len-drop_yes}
use Rattle.std.proofs.lemmas.Str.{IsCharBoundary-after_ascii}

digits_step : (x : ℕ) (xs : List ℕ) (passes : Bool) → is_ascii_digit x ≡ passes → all_ascii_digits (take (prefix_len is_ascii_digit xs) xs) ≡ true → all_ascii_digits (take (cond passes (1 + prefix_len is_ascii_digit xs) 0) (x ∷ xs)) ≡ true
digits_step x xs false h rest = refl
digits_step x xs true h rest = rw one-add (rw h rest)

-- it has digits alone
pub digits_front : (xs : List ℕ) → all_ascii_digits (take (prefix_len is_ascii_digit xs) xs) ≡ true
digits_front [] = refl
digits_front (x ∷ xs) = digits_step x xs (is_ascii_digit x) refl (digits_front xs)

digit_ascii : (c : ℕ) → is_ascii_digit c ≡ true → c < 128
digit_ascii c h = grind (arith, nat_tests)

-- where a digit stands first, a character ends with the last
pub digits_cut : (text : List ℕ) (at n : ℕ) → IsUtf8 text → at < length text → is_ascii_digit (get_or text at 0) ≡ true → n ≡ prefix_len is_ascii_digit (drop at text) → IsCharBoundary text (at + n)
digits_cut text at n utf8 inside digit whole =
    let some : 0 < n = omega (arith, prefix_len-drop_yes is_ascii_digit text at 0 inside digit) in
    let within : n ≤ length text - at = omega (arith, length-drop at text, prefix_len-le-length is_ascii_digit (drop at text)) in
    let passes : is_ascii_digit (get_or (drop at text) (n - 1) 0) ≡ true = prefix_len_passes is_ascii_digit (drop at text) (n - 1) 0 (omega arith) in
    let small : get_or (drop at text) (n - 1) 0 < 128 = digit_ascii (get_or (drop at text) (n - 1) 0) passes in
    let last : get_or text (at + (n - 1)) 0 < 128 = rw get_or-drop at small in
    let after : at + (n - 1) + 1 ≡ at + n = omega arith in
    subst (λ i. IsCharBoundary text i) after (IsCharBoundary-after_ascii text (at + (n - 1)) utf8 (omega arith) last)
