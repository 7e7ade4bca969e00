-- What stands first in a text, by cases on its first character.
use Rattle.std.specs.Prelude.{◌≡◌, ℕ, ◌+◌, ◌<◌, ◌≤◌, drop, List, [], ◌∷◌, length, pos, nat_le, if◌then◌else◌, Option, Some, None, take_while}
use Rattle.std.specs.Char.{is_ascii_alphabetic, is_ascii_digit}
use Rattle.std.specs.List.{before_first}
use Rattle.std.specs.Str.Parse.{digits_value}
use Rattle.gc_base.specs.Words.{is_word_part}
use Rattle.gc_lex.specs.declared.items.Item.{Item}
use Rattle.gc_lex.specs.declared.items.Item.TheVariants.{End, Gap, Spelled, BadCharacter, OpenText, NumberTooLarge}
use Rattle.gc_lex.specs.declared.token.Token.TheVariants.{Word, Number, Text, Symbol}
use Rattle.gc_lex.specs.declared.token.Mark.{Mark}
use Rattle.gc_lex.specs.Characters.{is_separator, is_line_feed, is_hash, is_quote}
use Rattle.gc_lex.specs.Contents.{Body, Closed, BadEscape, Unclosed, body_of}
use Rattle.gc_lex.specs.Symbols.{symbols, entry_of}

-- the token of a word
abbrev pub word_item : List ℕ → Item
word_item word = Spelled (Word word) (length word)

-- the token of decimal digits, whose value may not be above the largest number of 64 bits
abbrev pub number_item : List ℕ → Item
number_item digits =
    if nat_le (digits_value 10 digits) 9223372036854775807
    then Spelled (Number (pos (digits_value 10 digits))) (length digits)
    else NumberTooLarge

-- the token of a text, or what is wrong with it, after its opening quote
abbrev pub text_item : Body → Item
text_item (Closed contents n) = Spelled (Text contents) (1 + n)
text_item (BadEscape n) = BadCharacter (1 + n)
text_item Unclosed = OpenText

-- the token of a symbol
abbrev pub symbol_item : Option (List ℕ × Mark) → Item
symbol_item None = BadCharacter 0
symbol_item (Some entry) = Spelled (Symbol entry.1) (length entry.0)

-- what stands first in a text that begins with this character: the longest run of separators; a
-- comment, which goes to the line feed or the end; or the longest word, number, text or symbol
abbrev pub item_of : ℕ → List ℕ → Item
item_of c text =
    if is_separator c then Gap (length (take_while is_separator text))
    else (if is_hash c then Gap (length (before_first is_line_feed text))
    else (if is_ascii_alphabetic c then word_item (take_while is_word_part text)
    else (if is_ascii_digit c then number_item (take_while is_ascii_digit text)
    else (if is_quote c then text_item (body_of c (drop 1 text))
    else symbol_item (entry_of symbols text)))))

-- what stands first in a text
abbrev pub first_item : List ℕ → Item
first_item [] = End
first_item (c ∷ cs) = item_of c (c ∷ cs)

-- an item takes at least one of the bytes, and no more than there are
abbrev pub IsItemIn : List ℕ → Item → Type 0
IsItemIn text End = text ≡ []
IsItemIn text (Gap n) = (0 < n) × (n ≤ length text)
IsItemIn text (Spelled token n) = (0 < n) × (n ≤ length text)
IsItemIn text (BadCharacter n) = n < length text
IsItemIn text OpenText = 0 < length text
IsItemIn text NumberTooLarge = 0 < length text
