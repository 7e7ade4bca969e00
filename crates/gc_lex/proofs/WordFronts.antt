-- The longest front of a text that passes a test.
use Rattle.std.proofs.Common.{◌≡◌, ℕ, ◌+◌, Bool, true, false, cond, List, [], ◌∷◌, get_or, take, refl, one-add, ◌||◌, ◌==◌}
use Rattle.std.proofs.lemmas.Bool.{false≢true}
use Rattle.std.specs.Int.{is_in_range}
use Rattle.std.specs.List.{list_all, prefix_len}
use Rattle.std.specs.Char.{is_ascii_alphabetic}
use Rattle.gc_base.specs.Words.{is_word, is_word_part}
use Rattle.gc_base.proofs.WordLaws.{letter_is_part}

front_step : (p : ℕ → Bool) (x : ℕ) (xs : List ℕ) (passes : Bool) → p x ≡ passes → list_all p (take (prefix_len p xs) xs) ≡ true → list_all p (take (cond passes (1 + prefix_len p xs) 0) (x ∷ xs)) ≡ true
front_step p x xs false h rest = refl
front_step p x xs true h rest = rw one-add (rw h rest)

-- all of it passes
front_passes : (p : ℕ → Bool) (xs : List ℕ) → list_all p (take (prefix_len p xs) xs) ≡ true
front_passes p [] = refl
front_passes p (x ∷ xs) = front_step p x xs (p x) refl (front_passes p xs)

-- where a letter stands first, the longest front of letters, digits and low lines is a word
pub word_front : (text : List ℕ) (n : ℕ) → is_ascii_alphabetic (get_or text 0 0) ≡ true → n ≡ prefix_len is_word_part text → is_word (take n text) ≡ true
word_front [] n letter whole = absurd (false≢true letter)
word_front (c ∷ cs) n letter whole =
    rw (whole, letter_is_part c letter, one-add, letter) (front_passes is_word_part cs)
