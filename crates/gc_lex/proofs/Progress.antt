-- What the tokens so far and the rest of a text make together.
use Rattle.std.proofs.Common.{◌≡◌, ℕ, zero, suc, ◌+◌, ◌-◌, ◌<◌, ◌≤◌, List, [], ◌∷◌, ◌++◌, length, drop, Result, Ok, Err, refl, sym, ap, ◌∙◌, arith, append_assoc, length-drop, Bool, true, false}
use Rattle.std.specs.Str.{IsUtf8, is_utf8}
use Rattle.std.specs.Str.Lossy.{utf8_valid_len}
use Rattle.std.proofs.lemmas.Str.{is_utf8-from_IsUtf8, IsUtf8-from_is_utf8}
use Rattle.std.proofs.lemmas.List.{append-nil}
use Rattle.gc_base.specs.declared.place.Place.{Place}
use Rattle.gc_lex.specs.declared.items.Item.{Item}
use Rattle.gc_lex.specs.declared.items.Item.TheVariants as item
use Rattle.gc_lex.specs.declared.refusal.LexRefusal.{LexRefusal}
use Rattle.gc_lex.specs.declared.refusal.LexRefusal.TheVariants.{NotUtf8, BadCharacter, OpenText, NumberTooLarge}
use Rattle.gc_lex.specs.declared.token.Token.{Token}
use Rattle.gc_lex.specs.Items.{first_item, IsItemIn}
use Rattle.gc_lex.specs.Lexis.{TokenList, the_end, after_tokens, after_item, tokens_within, lexed}
use Rattle.gc_lex.specs.Places.{place_at}

-- these tokens, and those from an offset on, are the tokens of the text
pub record LexedTo (text : List ℕ) (tokens : List Token) (places : List Place) (at : ℕ) : Type 0 where
  -- enough items for the bytes that are left
  pub items : ℕ
  pub enough : length text - at ≤ items
  pub whole : after_tokens tokens places (tokens_within items text at) ≡ tokens_within (length text) text 0

none_before : (outcome : Result TokenList LexRefusal) → after_tokens [] [] outcome ≡ outcome
none_before (Ok list) = refl
none_before (Err refusal) = refl

one_before : (tokens : List Token) (places : List Place) (token : Token) (place : Place) (outcome : Result TokenList LexRefusal)
    → after_tokens tokens places (after_tokens (token ∷ []) (place ∷ []) outcome) ≡ after_tokens (tokens ++ token ∷ []) (places ++ place ∷ []) outcome
one_before tokens places token place (Ok list) = simp append_assoc
one_before tokens places token place (Err refusal) = refl

pub lexed_none : (text : List ℕ) → LexedTo text [] [] 0
lexed_none text = record { items = length text; enough = omega arith; whole = none_before (tokens_within (length text) text 0) }

-- an item and what is after it
pub turn : (text : List ℕ) (at : ℕ) (item : Item) (items : ℕ) → item ≡ first_item (drop at text) → tokens_within (suc items) text at ≡ after_item text at item (tokens_within items text)
unfolding tokens_within
turn text at item items is = ap (λ first. after_item text at first (tokens_within items text)) (sym is)

pub lexed_gap : (text : List ℕ) (tokens : List Token) (places : List Place) (at n : ℕ) → item.Gap n ≡ first_item (drop at text) → IsItemIn (drop at text) (item.Gap n)
    → LexedTo text tokens places at → LexedTo text tokens places (at + n)
lexed_gap text tokens places at n is within so_far = gap so_far.items so_far.enough so_far.whole
  where
    gap : (items : ℕ) → length text - at ≤ items → after_tokens tokens places (tokens_within items text at) ≡ tokens_within (length text) text 0 → LexedTo text tokens places (at + n)
    gap zero enough whole = absurd (omega (arith, length-drop at text, within.0, within.1))
    gap (suc items) enough whole = record {
      items = items;
      enough = omega (arith, within.0);
      whole = ap (after_tokens tokens places) (sym (turn text at (item.Gap n) items is)) ∙ whole;
    }

pub lexed_token : (text : List ℕ) (tokens : List Token) (places : List Place) (at : ℕ) (place : Place) (token : Token) (n : ℕ) → place ≡ place_at text at → item.Spelled token n ≡ first_item (drop at text) → IsItemIn (drop at text) (item.Spelled token n)
    → LexedTo text tokens places at → LexedTo text (tokens ++ token ∷ []) (places ++ place ∷ []) (at + n)
lexed_token text tokens places at place token n here is within so_far = rw here (spelled so_far.items so_far.enough so_far.whole)
  where
    spelled : (items : ℕ) → length text - at ≤ items → after_tokens tokens places (tokens_within items text at) ≡ tokens_within (length text) text 0 → LexedTo text (tokens ++ token ∷ []) (places ++ place_at text at ∷ []) (at + n)
    spelled zero enough whole = absurd (omega (arith, length-drop at text, within.0, within.1))
    spelled (suc items) enough whole = record {
      items = items;
      enough = omega (arith, within.0);
      whole = sym (one_before tokens places token (place_at text at) (tokens_within items text (at + n)))
          ∙ ap (after_tokens tokens places) (sym (turn text at (item.Spelled token n) items is)) ∙ whole;
    }

pub at_end : (items : ℕ) (text : List ℕ) (at : ℕ) → item.End ≡ first_item (drop at text) → tokens_within items text at ≡ Ok (the_end text at)
unfolding tokens_within
at_end zero text at is = refl
at_end (suc items) text at is = turn text at item.End items is

pub lexed_all : (text : List ℕ) (tokens : List Token) (places : List Place) (at : ℕ) (place : Place) → place ≡ place_at text at → item.End ≡ first_item (drop at text)
    → LexedTo text tokens places at → tokens_within (length text) text 0 ≡ Ok (record { tokens = tokens; places = places ++ place ∷ [] })
lexed_all text tokens places at place here is so_far =
    rw here (sym so_far.whole ∙ ap (after_tokens tokens places) (at_end so_far.items text at is) ∙ rw append-nil refl)

-- an item that is refused
refused : (text : List ℕ) (tokens : List Token) (places : List Place) (at : ℕ) (item : Item) (refusal : LexRefusal) → item ≡ first_item (drop at text) → 0 < length (drop at text)
    → ((rest : ℕ → Result TokenList LexRefusal) → after_item text at item rest ≡ Err refusal) → LexedTo text tokens places at → tokens_within (length text) text 0 ≡ Err refusal
refused text tokens places at item refusal is some gives so_far = by so_far.items so_far.enough so_far.whole
  where
    by : (items : ℕ) → length text - at ≤ items → after_tokens tokens places (tokens_within items text at) ≡ tokens_within (length text) text 0 → tokens_within (length text) text 0 ≡ Err refusal
    by zero enough whole = absurd (omega (arith, length-drop at text, some))
    by (suc items) enough whole = sym whole ∙ ap (after_tokens tokens places) (turn text at item items is ∙ gives (tokens_within items text))

pub lexed_bad : (text : List ℕ) (tokens : List Token) (places : List Place) (at n : ℕ) (place : Place) → place ≡ place_at text (at + n) → item.BadCharacter n ≡ first_item (drop at text) → IsItemIn (drop at text) (item.BadCharacter n)
    → LexedTo text tokens places at → tokens_within (length text) text 0 ≡ Err (BadCharacter place)
lexed_bad text tokens places at n place there is within so_far =
    rw there (refused text tokens places at (item.BadCharacter n) (BadCharacter (place_at text (at + n))) is (omega (arith, within)) (λ rest. refl) so_far)

pub lexed_open : (text : List ℕ) (tokens : List Token) (places : List Place) (at : ℕ) (place : Place) → place ≡ place_at text at → item.OpenText ≡ first_item (drop at text) → IsItemIn (drop at text) item.OpenText
    → LexedTo text tokens places at → tokens_within (length text) text 0 ≡ Err (OpenText place)
lexed_open text tokens places at place here is within so_far =
    rw here (refused text tokens places at item.OpenText (OpenText (place_at text at)) is within (λ rest. refl) so_far)

pub lexed_large : (text : List ℕ) (tokens : List Token) (places : List Place) (at : ℕ) (place : Place) → place ≡ place_at text at → item.NumberTooLarge ≡ first_item (drop at text) → IsItemIn (drop at text) item.NumberTooLarge
    → LexedTo text tokens places at → tokens_within (length text) text 0 ≡ Err (NumberTooLarge place)
lexed_large text tokens places at place here is within so_far =
    rw here (refused text tokens places at item.NumberTooLarge (NumberTooLarge (place_at text at)) is within (λ rest. refl) so_far)

-- a text that is UTF-8 has the tokens of its items
pub lexed_text : (text whole : List ℕ) → text ≡ whole → IsUtf8 whole → tokens_within (length text) text 0 ≡ lexed whole
unfolding lexed
lexed_text text whole same utf8 = rw (same, is_utf8-from_IsUtf8 whole utf8) refl

test_fails : (text : List ℕ) (test : Bool) → is_utf8 text ≡ test → (IsUtf8 text → ⊥) → is_utf8 text ≡ false
test_fails text true is not_utf8 = absurd (not_utf8 (IsUtf8-from_is_utf8 text is))
test_fails text false is not_utf8 = is

-- any other is refused after its longest front that is
pub lexed_not_utf8 : (text : List ℕ) (n : ℕ) (place : Place) → (IsUtf8 text → ⊥) → n ≡ utf8_valid_len text → place ≡ place_at text n → lexed text ≡ Err (NotUtf8 place)
unfolding lexed
lexed_not_utf8 text n place not_utf8 front there = rw (test_fails text (is_utf8 text) refl not_utf8, there, front) refl
