-- The tokens of a text, or the first thing that is wrong with it.
use Rattle.std.specs.Prelude.{◌≡◌, ℕ, zero, suc, ◌+◌, List, [], ◌∷◌, ◌++◌, length, drop, Result, Ok, Err, if◌then◌else◌}
use Rattle.std.specs.Str.{is_utf8}
use Rattle.std.specs.Str.Lossy.{utf8_valid_len}
use Rattle.gc_base.specs.declared.place.Place.{Place}
use Rattle.gc_lex.specs.declared.token.Token.{Token}
use Rattle.gc_lex.specs.declared.items.Item.{Item}
use Rattle.gc_lex.specs.declared.items.Item.TheVariants as item
use Rattle.gc_lex.specs.declared.refusal.LexRefusal.{LexRefusal}
use Rattle.gc_lex.specs.declared.refusal.LexRefusal.TheVariants.{NotUtf8, BadCharacter, OpenText, NumberTooLarge, Memory}
use Rattle.gc_lex.specs.Items.{first_item}
use Rattle.gc_lex.specs.Places.{place_at}

-- the tokens of a text, in order; where each begins, and last where the text ends
pub record TokenList : Type 0 where
  pub tokens : List Token
  pub places : List Place

-- no token, and the place where the text ends
abbrev pub the_end : List ℕ → ℕ → TokenList
the_end text at = record { tokens = []; places = place_at text at ∷ [] }

-- tokens and their places before a list of tokens or a refusal
abbrev pub after_tokens : List Token → List Place → Result TokenList LexRefusal → Result TokenList LexRefusal
after_tokens tokens places (Ok list) = Ok (record { tokens = tokens ++ list.tokens; places = places ++ list.places })
after_tokens tokens places (Err refusal) = Err refusal

-- what an item at an offset makes of a text, given what the bytes from a later offset on give
abbrev pub after_item : List ℕ → ℕ → Item → (ℕ → Result TokenList LexRefusal) → Result TokenList LexRefusal
after_item text at item.End rest = Ok (the_end text at)
after_item text at (item.Gap n) rest = rest (at + n)
after_item text at (item.Spelled token n) rest = after_tokens (token ∷ []) (place_at text at ∷ []) (rest (at + n))
after_item text at (item.BadCharacter n) rest = Err (BadCharacter (place_at text (at + n)))
after_item text at item.OpenText rest = Err (OpenText (place_at text at))
after_item text at item.NumberTooLarge rest = Err (NumberTooLarge (place_at text at))

-- the tokens of a text from an offset on, with at most so many items: those of the first item, and
-- then those of what is after it
unfoldable pub tokens_within : ℕ → List ℕ → ℕ → Result TokenList LexRefusal
tokens_within zero text at = Ok (the_end text at)
tokens_within (suc items) text at = after_item text at (first_item (drop at text)) (tokens_within items text)

-- a text that is not UTF-8 is refused just after the longest front that is; any other has the tokens
-- of its items, of which it has no more than bytes
unfoldable pub lexed : List ℕ → Result TokenList LexRefusal
lexed text =
    if is_utf8 text then tokens_within (length text) text 0
    else Err (NotUtf8 (place_at text (utf8_valid_len text)))

-- a refusal is the one that is due; want of memory may be told at any time
abbrev pub IsDue : Result TokenList LexRefusal → LexRefusal → Type 0
IsDue due Memory = Unit {0}
IsDue due refusal = due ≡ Err refusal
