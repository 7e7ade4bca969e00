use Rattle.std.proofs.Common.{◌≡◌, ℕ, ◌<◌, ◌^◌, Bool, List, [], ◌∷◌, length, true, false, nat_lt, None, Result, Err, arith, refl, sym, ap, ◌∙◌}
use Rattle.std.specs.Str.{all_ascii_digits}
use Rattle.std.specs.Str.Parse.{digits_value, ParsesUnsigned}
use Rattle.std.proofs.lemmas.Bool.Decides.{nat_tests}
use Rattle.std.proofs.lemmas.Str.Parse.{IsNumeralModel, numerals_by_value, tells_all_ascii_digits, parse_gives}
use Rattle.gc_cert_text.specs.Numbers.{cost_of_text, is_unpadded}
use Rattle.gc_cert_text.proofs.numbers.cost_of_text.Goals as goal

decimal : IsNumeralModel (λ digits. all_ascii_digits digits ≡ true) (digits_value 10)
decimal = numerals_by_value (λ digits. all_ascii_digits digits ≡ true) tells_all_ascii_digits

some : (text : List ℕ) → is_unpadded text ≡ true → 0 < length text
some [] h = absurd (cc)
some (c ∷ cs) h = omega arith

-- digits that are not read write no cost
unread : {E : Type 0} (text : List ℕ) (e : E) (r : Result ℕ E) → ParsesUnsigned 128 10 text r → r ≡ Err e → is_unpadded text ≡ true → all_ascii_digits text ≡ true
    → None ≡ cost_of_text text
unread text e r parses is unpadded digits = by (nat_lt (digits_value 10 text) (2 ^ 127)) refl
  where
    by : (b : Bool) → nat_lt (digits_value 10 text) (2 ^ 127) ≡ b → None ≡ cost_of_text text
    by false low = rw (unpadded, digits, low) refl
    by true low =
        let small : digits_value 10 text < 2 ^ 127 = grind (arith, nat_tests) in
        let read = parse_gives decimal 128 text r parses digits (some text unpadded) (omega (arith, small)) in
        absurd (cc)

pub returns-in-Err : goal.returns-in-Err
returns-in-Err c =
    let text = c.as_bytes-digits.ensures.value in
    unread c.args.text.now _ _ c.parse.ensures.value.0 c.in-Err.is (ap is_unpadded (sym text) ∙ (sym c.is_unpadded.ensures ∙ c.if-not-is_unpadded.false))
    (ap all_ascii_digits (sym text) ∙ (sym c.are_digits.ensures ∙ c.if-not-are_digits.false))
