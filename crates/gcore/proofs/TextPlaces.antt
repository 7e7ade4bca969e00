-- Where the tokens of a text stand, and which of them is too deep.
use Rattle.std.proofs.Common.{◌≡◌, ℕ, zero, suc, ◌+◌, ◌<◌, le_refl, true, false, List, [], ◌∷◌, length, Some, Result, Ok, Err, refl, ap, sym, ◌∙◌, subst, arith, slice_get}
use Rattle.std.specs.Prelude.{if◌then◌else◌}
use Rattle.std.specs.Option.{unwrap_or}
use Rattle.std.specs.Str.{is_utf8}
use Rattle.std.specs.Str.Lossy.{utf8_valid_len}
use Rattle.std.proofs.lemmas.List.{take_all}
use Rattle.std.proofs.lemmas.Option.{slice_get-get_or}
use Rattle.std.proofs.Math.Nat.{lt_of_not-le}
use Rattle.gc_base.specs.declared.place.Place.{Place}
use Rattle.gc_lex.specs.declared.items.Item.{Item}
use Rattle.gc_lex.specs.declared.items.Item.TheVariants as item
use Rattle.gc_lex.specs.declared.refusal.LexRefusal.{LexRefusal}
use Rattle.gc_lex.specs.declared.refusal.LexRefusal.TheVariants.{NotUtf8}
use Rattle.gc_lex.specs.declared.token.Token.{Token}
use Rattle.gc_lex.specs.Lexis.{TokenList, lexed, tokens_within, after_item, after_tokens}
use Rattle.gc_lex.specs.Places.{place_at}
use Rattle.gc_parse.specs.Depths.{IsDepthFault, IsTooDeep}

-- one place more than there are tokens
abbrev HasPlaces : Result TokenList LexRefusal → Type 0
HasPlaces (Ok list) = length list.places ≡ length list.tokens + 1
HasPlaces (Err refusal) = Unit {0}

after_one : (token : Token) (place : Place) (r : Result TokenList LexRefusal) → HasPlaces r → HasPlaces (after_tokens (token ∷ []) (place ∷ []) r)
after_one token place (Ok list) h = omega (arith, h)
after_one token place (Err refusal) h = tt

after_items : (text : List ℕ) (at : ℕ) (i : Item) (rest : ℕ → Result TokenList LexRefusal) → ((n : ℕ) → HasPlaces (rest n)) → HasPlaces (after_item text at i rest)
after_items text at item.End rest h = refl
after_items text at (item.Gap n) rest h = h (at + n)
after_items text at (item.Spelled token n) rest h = after_one token (place_at text at) (rest (at + n)) (h (at + n))
after_items text at (item.BadCharacter n) rest h = tt
after_items text at item.OpenText rest h = tt
after_items text at item.NumberTooLarge rest h = tt

has_places : (items : ℕ) (text : List ℕ) (at : ℕ) → HasPlaces (tokens_within items text at)
unfolding tokens_within
has_places zero text at = refl
has_places (suc items) text at = after_items text at _ (tokens_within items text) (has_places items text)

lexed_places : (text : List ℕ) → HasPlaces (lexed text)
unfolding lexed
lexed_places text =
    elim (is_utf8 text) as (λ b. HasPlaces (if b then tokens_within (length text) text 0 else Err (NotUtf8 (place_at text (utf8_valid_len text))))) [ true ↦ has_places (length text) text 0 | false ↦ tt ]

pub places_count : (text : List ℕ) (list : TokenList) → lexed text ≡ Ok list → length list.places ≡ length list.tokens + 1
places_count text list h = subst HasPlaces h (lexed_places text)

-- the item at a place within a list, whatever stands for one that is not there
pub item_there : {X : Type 0} (xs : List X) (k : ℕ) (x d : X) → k < length xs → unwrap_or (slice_get xs k) d ≡ x → slice_get xs k ≡ Some x
item_there xs k x d within same =
    let there = slice_get-get_or xs k d within in
    there ∙ ap (λ y. Some y) (sym (ap (λ o. unwrap_or o d) there) ∙ same)

-- the first token that is too deep is one of the tokens
pub deep_within : (ts : List Token) (k : ℕ) → IsDepthFault ts (Some k) → k < length ts
deep_within ts k fault =
    lt_of_not-le (λ past. fault.1 k (le_refl k) (subst IsTooDeep (take_all (k + 1) ts (omega (arith, past)) ∙ sym (take_all k ts past)) fault.0))
