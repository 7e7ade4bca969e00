-- The tokens of a text can be written.
use Rattle.std.proofs.Common.{◌≡◌, ℕ, zero, suc, ◌+◌, Bool, true, false, List, [], ◌∷◌, ◌++◌, length, take, drop, Result, Ok, Err, Option, Some, None, pos, refl, sym, ap, subst, ◌∙◌, cond, get_or, nat_le}
use Rattle.std.specs.Char.{is_ascii_alphabetic, is_ascii_digit}
use Rattle.std.specs.List.{AllByRecursion, before_first, take_while, prefix_len}
use Rattle.std.specs.Str.{is_utf8}
use Rattle.std.specs.Str.Lossy.{utf8_valid_len}
use Rattle.std.specs.Str.Parse.{digits_value}
use Rattle.gc_base.specs.Words.{is_word, is_word_part}
use Rattle.gc_base.specs.declared.place.Place.{Place}
use Rattle.gc_lex.specs.declared.token.Token.{Token}
use Rattle.gc_lex.specs.declared.token.Token.TheVariants.{Word, Number, Symbol}
use Rattle.gc_lex.specs.declared.token.Mark.{Mark}
use Rattle.gc_lex.specs.declared.items.Item.{Item}
use Rattle.gc_lex.specs.declared.items.Item.TheVariants as item
use Rattle.gc_lex.specs.declared.refusal.LexRefusal.{LexRefusal}
use Rattle.gc_lex.specs.declared.refusal.LexRefusal.TheVariants.{NotUtf8}
use Rattle.gc_lex.specs.Characters.{is_separator, is_line_feed, is_hash, is_quote}
use Rattle.gc_lex.specs.Contents.{Body, Closed, BadEscape, Unclosed, body_of}
use Rattle.gc_lex.specs.Items.{first_item, item_of, word_item, number_item, text_item, symbol_item}
use Rattle.gc_lex.specs.Lexis.{TokenList, the_end, after_tokens, after_item, tokens_within, lexed}
use Rattle.gc_lex.specs.Places.{place_at}
use Rattle.gc_lex.specs.Symbols.{symbols, entry_of}
use Rattle.gc_lex.proofs.WordFronts.{word_front}
use Rattle.gc_print.specs.WrittenTokens.{IsWritten, AreWritten}

-- the token of an item, if it has one, can be written
IsWrittenItem : Item → Type 0
IsWrittenItem (item.Spelled token n) = IsWritten token
IsWrittenItem other = Unit {0}

number_written : (digits : List ℕ) → IsWrittenItem (number_item digits)
unfolding IsWrittenItem
number_written digits = by (nat_le (digits_value 10 digits) 9223372036854775807)
  where
    by : (fits : Bool) → IsWrittenItem (cond fits (item.Spelled (Number (pos (digits_value 10 digits))) (length digits)) item.NumberTooLarge)
    by true = tt
    by false = tt

text_written : (body : Body) → IsWrittenItem (text_item body)
unfolding IsWrittenItem
text_written (Closed contents n) = tt
text_written (BadEscape n) = tt
text_written Unclosed = tt

symbol_written : (entry : Option (List ℕ × Mark)) → IsWrittenItem (symbol_item entry)
unfolding IsWrittenItem
symbol_written None = tt
symbol_written (Some entry) = tt

item_written : (c : ℕ) (cs : List ℕ) → IsWrittenItem (item_of c (c ∷ cs))
unfolding IsWrittenItem
item_written c cs = by (is_separator c) (is_hash c) (is_ascii_alphabetic c) refl (is_ascii_digit c) (is_quote c)
  where
    text : List ℕ
    text = c ∷ cs

    by : (separates hash letter : Bool) → is_ascii_alphabetic c ≡ letter → (digit quote : Bool)
        → IsWrittenItem (cond separates (item.Gap (length (take_while is_separator text))) (cond hash (item.Gap (length (before_first is_line_feed text)))
        (cond letter (word_item (take_while is_word_part text)) (cond digit (number_item (take_while is_ascii_digit text))
        (cond quote (text_item (body_of c (drop 1 text))) (symbol_item (entry_of symbols text)))))))
    by true hash letter is digit quote = tt
    by false true letter is digit quote = tt
    by false false true is digit quote = word_front text (prefix_len is_word_part text) is refl
    by false false false is true quote = number_written (take_while is_ascii_digit text)
    by false false false is false true = text_written (body_of c (drop 1 text))
    by false false false is false false = symbol_written (entry_of symbols text)

first_written : (text : List ℕ) → IsWrittenItem (first_item text)
unfolding IsWrittenItem
first_written [] = tt
first_written (c ∷ cs) = item_written c cs

-- the tokens that are given can be written
GivesWritten : Result TokenList LexRefusal → Type 0
GivesWritten (Ok list) = AreWritten list.tokens
GivesWritten (Err refusal) = Unit {0}

after_written : (token : Token) (place : Place) → IsWritten token → (rest : Result TokenList LexRefusal) → GivesWritten rest → GivesWritten (after_tokens (token ∷ []) (place ∷ []) rest)
unfolding GivesWritten
after_written token place is (Ok list) rest = (is, rest)
after_written token place is (Err refusal) rest = tt

item_gives : (text : List ℕ) (at : ℕ) (rest : ℕ → Result TokenList LexRefusal) → ((next : ℕ) → GivesWritten (rest next)) → (found : Item) → IsWrittenItem found
    → GivesWritten (after_item text at found rest)
unfolding GivesWritten IsWrittenItem
item_gives text at rest later item.End is = tt
item_gives text at rest later (item.Gap n) is = later (at + n)
item_gives text at rest later (item.Spelled token n) is = after_written token (place_at text at) is (rest (at + n)) (later (at + n))
item_gives text at rest later (item.BadCharacter n) is = tt
item_gives text at rest later item.OpenText is = tt
item_gives text at rest later item.NumberTooLarge is = tt

within_written : (items : ℕ) (text : List ℕ) (at : ℕ) → GivesWritten (tokens_within items text at)
unfolding GivesWritten tokens_within
within_written zero text at = tt
within_written (suc items) text at =
    item_gives text at (tokens_within items text) (within_written items text) (first_item (drop at text)) (first_written (drop at text))

pub lexed_written : (text : List ℕ) (list : TokenList) → lexed text ≡ Ok list → AreWritten list.tokens
unfolding lexed GivesWritten
lexed_written text list is = subst GivesWritten is (by (is_utf8 text))
  where
    by : (valid : Bool) → GivesWritten (cond valid (tokens_within (length text) text 0) (Err (NotUtf8 (place_at text (utf8_valid_len text)))))
    by true = within_written (length text) text 0
    by false = tt
