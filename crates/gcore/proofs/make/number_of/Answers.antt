use Rattle.std.proofs.Common.{◌≡◌, ℕ, ◌<◌, ◌≤◌, Bool, ◌&&◌, List, length, true, false, nat_lt, nat_le, Some, Result, Ok, Err, arith, refl, sym, ap, ◌∙◌}
use Rattle.std.specs.Str.{all_ascii_digits}
use Rattle.std.specs.Str.Parse.{digits_value, ParsesUnsigned}
use Rattle.std.proofs.lemmas.Bool.Decides.{nat_tests}
use Rattle.std.proofs.lemmas.Str.Parse.{IsNumeralModel, numerals_by_value, tells_all_ascii_digits, parse_gives, digits_value_short}
use Rattle.gcore.specs.MakeLines.{is_number, number_of}
use Rattle.gcore.proofs.make.number_of.Goals as goal

decimal : IsNumeralModel (λ digits. all_ascii_digits digits ≡ true) (digits_value 10)
decimal = numerals_by_value (λ digits. all_ascii_digits digits ≡ true) tells_all_ascii_digits

three : (a b c : Bool) → ((a && b) && c) ≡ true → (a ≡ true) × (b ≡ true) × (c ≡ true)
three true true c h = (refl, refl, h)
three true false c h = absurd (cc)
three false b c h = absurd (cc)

-- one to ten digits write a number of 64 bits
gives : {E : Type 0} (word : List ℕ) (r : Result ℕ E) → ParsesUnsigned 64 10 word r → is_number word ≡ true → r ≡ Ok (digits_value 10 word)
gives word r parses number =
    let parts = three (nat_lt 0 (length word)) (nat_le (length word) 10) (all_ascii_digits word) number in
    let some : 0 < length word = grind (arith, nat_tests) in
    let few : length word ≤ 10 = grind (arith, nat_tests) in
    parse_gives decimal 64 word r parses parts.2 some (omega (arith, digits_value_short decimal word 10 parts.2 few))

written : (word : List ℕ) → is_number word ≡ true → Some (digits_value 10 word) ≡ number_of word
written word number = rw number refl

pub returns-in-Ok : goal.returns-in-Ok
returns-in-Ok c =
    let same : c.in-Ok.number ≡ digits_value 10 c.args.word.now =
    let told = gives c.args.word.now c.parse.result c.parse.ensures.value.0 (sym c.is_number.ensures ∙ c.if-not-is_number.false) in
    let both : Ok c.in-Ok.number ≡ Ok (digits_value 10 c.args.word.now) = sym c.in-Ok.is ∙ told in
    cc in
    ap Some same ∙ written c.args.word.now (sym c.is_number.ensures ∙ c.if-not-is_number.false)

pub returns-in-Err : goal.returns-in-Err
returns-in-Err c =
    let told = gives c.args.word.now c.parse.result c.parse.ensures.value.0 (sym c.is_number.ensures ∙ c.if-not-is_number.false) in
    let both : Err c.in-Err.field-0 ≡ Ok (digits_value 10 c.args.word.now) = sym c.in-Err.is ∙ told in
    absurd (cc)
