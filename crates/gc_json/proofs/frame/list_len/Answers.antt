use Rattle.std.proofs.Common.{◌≡◌, ℕ, ◌-◌, [], ◌∷◌, true, false, Some, ap, ◌∙◌, arith}
use Rattle.json.specs.Json.{parse_map}
use Rattle.json.specs.Reads.{token_of}
use Rattle.json.specs.Token.{Token}
use Rattle.serde_json.specs.Events.{items_len}
use Rattle.gc_json.specs.Frames.{len_of}
use Rattle.gc_json.specs.Tokens.{value_data, items_data, opens_array}
use Rattle.gc_json.proofs.Framing.{len_of_array, len_of_other, an_array_opens}
use Rattle.gc_json.proofs.Passing.{handed_on}
use Rattle.gc_json.proofs.TokenTurns.{value_is}
use Rattle.gc_json.proofs.frame.list_len.Goals as goal

pub returns-in_default-clause-value : goal.returns-in_default-clause-value
returns-in_default-clause-value c =
    let empty : c.args.reader.now ≡ [] = grind arith in
    ap (λ ts. parse_map len_of (value_data c.args.depth ts)) empty ∙ ap (parse_map len_of) (value_is c.args.depth [])

pub returns-in_err-count_items-clause-value : goal.returns-in_err-count_items-clause-value
returns-in_err-count_items-clause-value c =
    let s = c.next.new.self in
    let first : c.args.reader.now ≡ token_of c.in-Some.token ∷ s = grind arith in
    let opens : opens_array (token_of c.in-Some.token) ≡ true = grind arith in
    let is : c.args.reader.now ≡ Token.begin_array ∷ s = first ∙ ap (λ t. t ∷ s) (an_array_opens _ opens) in
    handed_on _ (parse_map len_of (value_data c.args.depth c.args.reader.now)) _ (λ (n : ℕ). n) (parse_map items_len (items_data (c.args.depth - 1) s)) _ _ _ c.from_residual.ensures.1 c.in_err-count_items.ensures.value
    (λ none. len_of_array c.args.depth c.args.reader.now s c.requires is ∙ ap (parse_map (λ n. Some n)) none)

pub returns-then-opens_array-clause-value : goal.returns-then-opens_array-clause-value
returns-then-opens_array-clause-value c =
    let s = c.next.new.self in
    let first : c.args.reader.now ≡ token_of c.in-Some.token ∷ s = grind arith in
    let opens : opens_array (token_of c.in-Some.token) ≡ true = grind arith in
    let is : c.args.reader.now ≡ Token.begin_array ∷ s = first ∙ ap (λ t. t ∷ s) (an_array_opens _ opens) in
    len_of_array c.args.depth c.args.reader.now s c.requires is ∙ ap (parse_map (λ n. Some n)) c.in_ok-count_items.ensures.value

pub returns-clause-value : goal.returns-clause-value
returns-clause-value c =
    let s = c.next.new.self in
    let first : c.args.reader.now ≡ token_of c.in-Some.token ∷ s = grind arith in
    let opens : opens_array (token_of c.in-Some.token) ≡ false = grind arith in
    len_of_other c.args.depth c.args.reader.now (token_of c.in-Some.token) s c.check_token.new.reader first opens c.in_ok-check_token.ensures.value
