-- Letters, digits and low lines: a letter may stand anywhere in a word, and a word is ASCII.
use Rattle.std.proofs.Common.{◌≡◌, ℕ, ◌<◌, Bool, true, false, List, [], ◌∷◌, ◌||◌, ◌==◌, refl, arith}
use Rattle.std.proofs.lemmas.Bool.{and_parts, false≢true}
use Rattle.std.proofs.lemmas.Bool.Decides.{nat_tests}
use Rattle.std.proofs.lemmas.Str.Ascii.{IsAscii-nil, IsAscii-cons}
use Rattle.std.specs.Int.{is_in_range}
use Rattle.std.specs.Char.{is_ascii_alphabetic}
use Rattle.std.specs.List.{list_all}
use Rattle.std.specs.Str.{IsAscii}
use Rattle.gc_base.specs.Words.{is_word, is_word_part}

of_two : (digit upper lower line : Bool) → (upper || lower) ≡ true → (((digit || upper) || lower) || line) ≡ true
of_two true upper lower line h = refl
of_two false true lower line h = refl
of_two false false true line h = refl
of_two false false false line h = absurd (false≢true h)

pub letter_is_part : (c : ℕ) → is_ascii_alphabetic c ≡ true → is_word_part c ≡ true
letter_is_part c h = of_two (is_in_range 48 57 c) (is_in_range 65 90 c) (is_in_range 97 122 c) (c == 95) h

letter_below : (c : ℕ) → is_ascii_alphabetic c ≡ true → c < 128
letter_below c h = grind (arith, nat_tests)

part_below : (c : ℕ) → is_word_part c ≡ true → c < 128
part_below c h = grind (arith, nat_tests)

parts_ascii : (cs : List ℕ) → list_all is_word_part cs ≡ true → IsAscii cs
parts_ascii [] h = IsAscii-nil
parts_ascii (c ∷ cs) h = let both = and_parts (is_word_part c) _ h in IsAscii-cons c cs (part_below c both.0) (parts_ascii cs both.1)

pub word_ascii : (cs : List ℕ) → is_word cs ≡ true → IsAscii cs
word_ascii [] h = IsAscii-nil
word_ascii (c ∷ cs) h = let both = and_parts (is_ascii_alphabetic c) _ h in IsAscii-cons c cs (letter_below c both.0) (parts_ascii cs both.1)
