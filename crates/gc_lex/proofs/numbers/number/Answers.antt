use Rattle.std.proofs.Common.{◌≡◌, ℕ, ◌^◌, ◌<◌, List, length, true, arith, w64}
use Rattle.std.specs.Str.{all_ascii_digits}
use Rattle.std.specs.Str.Parse.{digits_value}
use Rattle.std.proofs.lemmas.Bool.Decides.{nat_tests}
use Rattle.std.proofs.lemmas.Str.Parse.{IsNumeralModel, numerals_by_value, tells_all_ascii_digits, parse_signed_digits}
use Rattle.gc_lex.specs.declared.items.Item.TheVariants.{NumberTooLarge}
use Rattle.gc_lex.specs.Items.{number_item}
use Rattle.gc_lex.proofs.numbers.number.Goals as goal

decimal : IsNumeralModel (λ digits. all_ascii_digits digits ≡ true) (digits_value 10)
decimal = numerals_by_value (λ digits. all_ascii_digits digits ≡ true) tells_all_ascii_digits

too_large : (digits : List ℕ) → 0 < length digits → ((0 < length digits) × (digits_value 10 digits < 2 ^ 63) → ⊥) → NumberTooLarge ≡ number_item digits
too_large digits some none =
    let above : digits_value 10 digits < 2 ^ 63 → ⊥ = λ below. none (some, below) in
    grind (arith, nat_tests)

pub returns-in-Err : goal.returns-in-Err
returns-in-Err c =
    let digits = c.args.digits.now in
    let told = parse_signed_digits decimal w64 digits c.parse.result c.parse.ensures.value.0 c.requires.decimal in
    too_large digits c.requires.some (rw c.in-Err.is at told)
