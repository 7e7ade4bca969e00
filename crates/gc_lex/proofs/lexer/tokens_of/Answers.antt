use Rattle.std.proofs.Common.{◌≡◌, ◌+◌, [], ◌∷◌, ◌++◌, length, drop, sym, ap, ◌∙◌, arith, length-drop, length-append}
use Rattle.gc_lex.specs.declared.items.Item.TheVariants as item
use Rattle.gc_lex.specs.Items.{first_item, IsItemIn}
use Rattle.gc_lex.specs.Places.{place_at}
use Rattle.gc_lex.proofs.Progress.{lexed_gap, lexed_token, lexed_all, lexed_bad, lexed_open, lexed_large}
use Rattle.gc_lex.proofs.lexer.tokens_of.Goals as goal

pub returns-in-End-clause-tokens : goal.returns-in-End-clause-tokens
returns-in-End-clause-tokens c =
    let is : item.End ≡ first_item (drop c.items.at c.args.text.now) = sym c.in-End.is ∙ c.in_ok-item_at.ensures.item in
    lexed_all c.args.text.now c.items.tokens c.items.places c.items.at c.items.place c.items.invariant.here is c.items.invariant.so_far

pub items-preserved-in-Gap : goal.items-preserved-in-Gap
items-preserved-in-Gap c =
    let text = c.args.text.now in
    let at = c.items.at in
    let n = c.in-Gap.n in
    let is : item.Gap n ≡ first_item (drop at text) = sym c.in-Gap.is ∙ c.in_ok-item_at.ensures.item in
    let within : IsItemIn (drop at text) (item.Gap n) = rw c.in-Gap.is at c.in_ok-item_at.ensures.within in
    record {
      within = omega (arith, length-drop at text, within.0, within.1);
      here = c.moved-place.ensures ∙ ap (λ bytes. place_at bytes (at + n)) c.as_bytes-bytes.ensures.value;
      paired = c.items.invariant.paired;
      so_far = lexed_gap text c.items.tokens c.items.places at n is within c.items.invariant.so_far;
    }

pub items-preserved : goal.items-preserved
items-preserved c =
    let text = c.args.text.now in
    let at = c.items.at in
    let token = c.in-Spelled.token in
    let n = c.in-Spelled.n in
    let is : item.Spelled token n ≡ first_item (drop at text) = sym c.in-Spelled.is ∙ c.in_ok-item_at.ensures.item in
    let within : IsItemIn (drop at text) (item.Spelled token n) = rw c.in-Spelled.is at c.in_ok-item_at.ensures.within in
    let tokens : c.push.new.self ≡ c.items.tokens ++ token ∷ [] = c.in_ok-push-in-Spelled.ensures.ok in
    let places : c.push-in-Spelled.new.self ≡ c.items.places ++ c.items.place ∷ [] = c.in_ok-push-in-Spelled-2.ensures.ok in
    let paired : length (c.items.tokens ++ token ∷ []) ≡ length (c.items.places ++ c.items.place ∷ []) =
    omega (arith, c.items.invariant.paired, length-append c.items.tokens (token ∷ []), length-append c.items.places (c.items.place ∷ [])) in
    record {
      within = omega (arith, length-drop at text, within.0, within.1);
      here = c.moved-place-in-Spelled.ensures ∙ ap (λ bytes. place_at bytes (at + n)) c.as_bytes-bytes.ensures.value;
      paired = rw (tokens, places) paired;
      so_far = rw (tokens, places) (lexed_token text c.items.tokens c.items.places at c.items.place token n c.items.invariant.here is within c.items.invariant.so_far);
    }

pub returns-in-BadCharacter-clause-refusal : goal.returns-in-BadCharacter-clause-refusal
returns-in-BadCharacter-clause-refusal c =
    let text = c.args.text.now in
    let at = c.items.at in
    let n = c.in-BadCharacter.n in
    let is : item.BadCharacter n ≡ first_item (drop at text) = sym c.in-BadCharacter.is ∙ c.in_ok-item_at.ensures.item in
    let within : IsItemIn (drop at text) (item.BadCharacter n) = rw c.in-BadCharacter.is at c.in_ok-item_at.ensures.within in
    let there : c.moved.result ≡ place_at text (at + n) = c.moved.ensures ∙ ap (λ bytes. place_at bytes (at + n)) c.as_bytes-bytes.ensures.value in
    lexed_bad text c.items.tokens c.items.places at n c.moved.result there is within c.items.invariant.so_far

pub returns-in-OpenText-clause-refusal : goal.returns-in-OpenText-clause-refusal
returns-in-OpenText-clause-refusal c =
    let text = c.args.text.now in
    let at = c.items.at in
    let is : item.OpenText ≡ first_item (drop at text) = sym c.in-OpenText.is ∙ c.in_ok-item_at.ensures.item in
    let within : IsItemIn (drop at text) item.OpenText = rw c.in-OpenText.is at c.in_ok-item_at.ensures.within in
    lexed_open text c.items.tokens c.items.places at c.items.place c.items.invariant.here is within c.items.invariant.so_far

pub returns-in-NumberTooLarge-clause-refusal : goal.returns-in-NumberTooLarge-clause-refusal
returns-in-NumberTooLarge-clause-refusal c =
    let text = c.args.text.now in
    let at = c.items.at in
    let is : item.NumberTooLarge ≡ first_item (drop at text) = sym c.in-NumberTooLarge.is ∙ c.in_ok-item_at.ensures.item in
    let within : IsItemIn (drop at text) item.NumberTooLarge = rw c.in-NumberTooLarge.is at c.in_ok-item_at.ensures.within in
    lexed_large text c.items.tokens c.items.places at c.items.place c.items.invariant.here is within c.items.invariant.so_far
