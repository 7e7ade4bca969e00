use Rattle.std.proofs.Common.{◌≡◌, take, drop, ap, ◌∙◌, arith}
use Rattle.std.specs.List.{prefix_len}
use Rattle.std.specs.Char.{is_ascii_digit}
use Rattle.std.proofs.lemmas.Grind.{common_steps}
use Rattle.gc_lex.proofs.Digits.{digits_front, digits_cut}
use Rattle.gc_lex.proofs.numbers.number_at.Goals as goal

pub range-requires-clause-end_boundary : goal.range-requires-clause-end_boundary
range-requires-clause-end_boundary c =
    let rest : c.split_at.result.1.now ≡ drop c.args.at c.args.text.now = grind (arith, common_steps) in
    let whole : c.number_length-length.result ≡ prefix_len is_ascii_digit (drop c.args.at c.args.text.now) =
    c.number_length-length.ensures.length ∙ ap (prefix_len is_ascii_digit) rest in
    digits_cut c.args.text.now c.args.at c.number_length-length.result c.utf8.text c.requires.within c.requires.digit whole

pub number-requires-clause-decimal : goal.number-requires-clause-decimal
number-requires-clause-decimal c =
    let rest : c.split_at.result.1.now ≡ drop c.args.at c.args.text.now = grind (arith, common_steps) in
    let whole : c.number_length-length.result ≡ prefix_len is_ascii_digit (drop c.args.at c.args.text.now) =
    c.number_length-length.ensures.length ∙ ap (prefix_len is_ascii_digit) rest in
    let digits : c.range.result.now ≡ take c.number_length-length.result (drop c.args.at c.args.text.now) = grind (arith, common_steps) in
    rw (digits, whole) (digits_front (drop c.args.at c.args.text.now))
