-- The first item of a text takes at least one of its bytes, and no more than there are.
use Rattle.std.proofs.Common.{◌≡◌, ℕ, suc, ◌+◌, ◌<◌, ◌≤◌, Bool, true, false, cond, not, List, [], ◌∷◌, length, take, drop, Option, Some, None, refl, sym, arith, nat_eq, nat_lt, ◌&&◌, nat_le, pos, take_while, get_or, drop-cons, subst, Result, Ok, Err, IfOk}
use Rattle.std.specs.Str.Parse.{digits_value}
use Rattle.gc_lex.specs.declared.token.Token.TheVariants.{Number}
use Rattle.std.specs.List.{prefix_len, list_all, starts_with, before_first}
use Rattle.std.proofs.lemmas.Bool.{false≢true}
use Rattle.std.proofs.lemmas.Bool.Decides.{nat_tests}
use Rattle.std.proofs.lemmas.List.Folds.{length-prefix_len}
use Rattle.std.proofs.lemmas.List.Sums.{prefix_len-le-length}
use Rattle.std.specs.Char.{is_ascii_alphabetic, is_ascii_digit}
use Rattle.gc_base.specs.Words.{is_word_part}
use Rattle.gc_lex.specs.declared.items.Item.{Item}
use Rattle.gc_lex.specs.declared.items.Item.TheVariants as item
use Rattle.gc_lex.specs.declared.token.Mark.{Mark}
use Rattle.gc_lex.specs.Characters.{is_separator, is_hash, is_line_feed, is_quote, is_backslash}
use Rattle.gc_lex.specs.Contents.{Body, Closed, BadEscape, Unclosed, body_of, byte_before, escape_before, escape_of}
use Rattle.gc_lex.specs.Items.{IsItemIn, word_item, number_item, text_item, symbol_item, item_of, first_item}
use Rattle.gc_lex.specs.Symbols.{symbols, entry_of}
use Rattle.gc_base.proofs.WordLaws.{letter_is_part}

-- one of two items, whichever a test picks
choose : (text : List ℕ) (test : Bool) (x y : Item) → (test ≡ true → IsItemIn text x) → (test ≡ false → IsItemIn text y) → IsItemIn text (cond test x y)
choose text true x y left right = left refl
choose text false x y left right = right refl

front_within : (p : ℕ → Bool) (c : ℕ) (cs : List ℕ) → p c ≡ true → let n = length (take (prefix_len p (c ∷ cs)) (c ∷ cs)) in (0 < n) × (n ≤ length (c ∷ cs))
front_within p c cs passes =
    let long : prefix_len p (c ∷ cs) ≡ 1 + prefix_len p cs = rw passes refl in
    let whole = length-prefix_len p (c ∷ cs) in
    (omega (arith, long, whole), omega (arith, whole, prefix_len-le-length p (c ∷ cs)))

-- a body ends within its bytes
abbrev IsBodyIn : List ℕ → Body → Type 0
IsBodyIn cs (Closed contents n) = n ≤ length cs
IsBodyIn cs (BadEscape n) = n < length cs
IsBodyIn cs Unclosed = Unit {0}

choose_body : (cs : List ℕ) (test : Bool) (x y : Body) → IsBodyIn cs x → IsBodyIn cs y → IsBodyIn cs (cond test x y)
choose_body cs test x y left right = elim test as (λ test. IsBodyIn cs (cond test x y)) [ true ↦ left | false ↦ right ]

byte_within : (c n : ℕ) (cs ds : List ℕ) (body : Body) → n + length cs ≤ length ds → IsBodyIn cs body → IsBodyIn ds (byte_before c n body)
byte_within c n cs ds (Closed contents m) longer within = omega arith
byte_within c n cs ds (BadEscape m) longer within = omega arith
byte_within c n cs ds Unclosed longer within = tt

escape_in : (meaning : Option ℕ) (cs ds : List ℕ) (body : Body) → 2 + length cs ≤ length ds → IsBodyIn cs body → IsBodyIn ds (escape_before meaning body)
escape_in None cs ds body longer within = omega arith
escape_in (Some c) cs ds body longer within = byte_within c 2 cs ds body longer within

body_within : (quote : ℕ) (cs : List ℕ) → IsBodyIn cs (body_of quote cs)
unfolding body_of
body_within quote [] = tt
body_within quote (c ∷ []) = choose_body (c ∷ []) (nat_eq c quote) (Closed [] 1) Unclosed (omega arith) tt
body_within quote (c ∷ d ∷ cs) =
    choose_body (c ∷ d ∷ cs) (nat_eq c quote) (Closed [] 1) _ (omega arith)
    (choose_body (c ∷ d ∷ cs) (is_backslash c) (escape_before (escape_of d) (body_of quote cs)) (byte_before c 1 (body_of quote (d ∷ cs)))
    (escape_in (escape_of d) cs (c ∷ d ∷ cs) (body_of quote cs) (omega arith) (body_within quote cs))
    (byte_within c 1 (d ∷ cs) (c ∷ d ∷ cs) (body_of quote (d ∷ cs)) (omega arith) (body_within quote (d ∷ cs))))

text_within : (c : ℕ) (cs : List ℕ) (body : Body) → IsBodyIn cs body → IsItemIn (c ∷ cs) (text_item body)
text_within c cs (Closed contents n) within = (omega arith, omega arith)
text_within c cs (BadEscape n) within = omega arith
text_within c cs Unclosed within = omega arith

both : (a b : Bool) → (a && b) ≡ true → (a ≡ true) × (b ≡ true)
both true true h = (refl, refl)
both true false h = absurd (false≢true h)
both false b h = absurd (false≢true h)

-- a text that begins with a spelling is as long
spelled_within : (spelling text : List ℕ) → starts_with nat_eq text spelling ≡ true → length spelling ≤ length text
spelled_within [] text begins = omega arith
spelled_within (x ∷ spelling) [] begins = absurd (false≢true begins)
spelled_within (x ∷ spelling) (c ∷ cs) begins =
    omega (arith, spelled_within spelling cs (both (nat_eq x c) (starts_with nat_eq cs spelling) begins).1)

entry_step : (text : List ℕ) (test : Bool) (entry : List ℕ × Mark) (rest : Option (List ℕ × Mark)) → (test ≡ true → IsItemIn text (symbol_item (Some entry))) → IsItemIn text (symbol_item rest)
    → IsItemIn text (symbol_item (cond test (Some entry) rest))
entry_step text test entry rest left right =
    elim test as (λ b. (b ≡ true → IsItemIn text (symbol_item (Some entry))) → IsItemIn text (symbol_item (cond b (Some entry) rest))) [ true ↦ λ h. h refl | false ↦ λ h. right ] left

positive : (n : ℕ) → nat_lt 0 n ≡ true → 0 < n
positive n h = grind (arith, nat_tests)

entry_within : (entries : List (List ℕ × Mark)) (c : ℕ) (cs : List ℕ) → list_all (λ entry. nat_lt 0 (length entry.0)) entries ≡ true → IsItemIn (c ∷ cs) (symbol_item (entry_of entries (c ∷ cs)))
entry_within [] c cs some = omega arith
entry_within (entry ∷ entries) c cs some =
    let all = both (nat_lt 0 (length entry.0)) (list_all (λ entry. nat_lt 0 (length entry.0)) entries) some in
    entry_step (c ∷ cs) (starts_with nat_eq (c ∷ cs) entry.0) entry (entry_of entries (c ∷ cs))
    (λ begins. (positive (length entry.0) all.0, spelled_within entry.0 (c ∷ cs) begins))
    (entry_within entries c cs all.1)

number_within : (digits text : List ℕ) → 0 < length digits → length digits ≤ length text → IsItemIn text (number_item digits)
number_within digits text some within =
    choose text (nat_le (digits_value 10 digits) 9223372036854775807) (item.Spelled (Number (pos (digits_value 10 digits))) (length digits)) item.NumberTooLarge (λ _. (some, within)) (λ _. omega arith)

hash_stays : (c : ℕ) → is_hash c ≡ true → not (is_line_feed c) ≡ true
hash_stays c h = grind (arith, nat_tests)

-- the cases of an item, from the last
abbrev symbol_case : ℕ → List ℕ → Item
symbol_case c text = symbol_item (entry_of symbols text)

abbrev text_case : ℕ → List ℕ → Item
text_case c text = cond (is_quote c) (text_item (body_of c (drop 1 text))) (symbol_case c text)

abbrev number_case : ℕ → List ℕ → Item
number_case c text = cond (is_ascii_digit c) (number_item (take_while is_ascii_digit text)) (text_case c text)

abbrev word_case : ℕ → List ℕ → Item
word_case c text = cond (is_ascii_alphabetic c) (word_item (take_while is_word_part text)) (number_case c text)

abbrev comment_case : ℕ → List ℕ → Item
comment_case c text = cond (is_hash c) (item.Gap (length (before_first is_line_feed text))) (word_case c text)

module _ (c : ℕ) (cs : List ℕ) where
  symbol_in : IsItemIn (c ∷ cs) (symbol_case c (c ∷ cs))
  symbol_in = entry_within symbols c cs refl

  text_in : IsItemIn (c ∷ cs) (text_case c (c ∷ cs))
  text_in = choose (c ∷ cs) (is_quote c) (text_item (body_of c cs)) (symbol_case c (c ∷ cs))
      (λ _. text_within c cs (body_of c cs) (body_within c cs)) (λ _. symbol_in)

  number_in : IsItemIn (c ∷ cs) (number_case c (c ∷ cs))
  number_in = choose (c ∷ cs) (is_ascii_digit c) (number_item (take_while is_ascii_digit (c ∷ cs))) (text_case c (c ∷ cs))
      (λ digit. let front = front_within is_ascii_digit c cs digit in number_within (take_while is_ascii_digit (c ∷ cs)) (c ∷ cs) front.0 front.1) (λ _. text_in)

  word_in : IsItemIn (c ∷ cs) (word_case c (c ∷ cs))
  word_in = choose (c ∷ cs) (is_ascii_alphabetic c) (word_item (take_while is_word_part (c ∷ cs))) (number_case c (c ∷ cs))
      (λ letter. front_within is_word_part c cs (letter_is_part c letter)) (λ _. number_in)

  comment_in : IsItemIn (c ∷ cs) (comment_case c (c ∷ cs))
  comment_in = choose (c ∷ cs) (is_hash c) (item.Gap (length (before_first is_line_feed (c ∷ cs)))) (word_case c (c ∷ cs))
      (λ hash. front_within (λ x. not (is_line_feed x)) c cs (hash_stays c hash)) (λ _. word_in)

  item_in : IsItemIn (c ∷ cs) (item_of c (c ∷ cs))
  item_in = choose (c ∷ cs) (is_separator c) (item.Gap (length (take_while is_separator (c ∷ cs)))) (comment_case c (c ∷ cs)) (front_within is_separator c cs) (λ _. comment_in)

-- the first item of a text
pub first_within : (text : List ℕ) → IsItemIn text (first_item text)
first_within [] = refl
first_within (c ∷ cs) = item_in c cs

-- the same at an offset
pub item_bounds : (text : List ℕ) (at : ℕ) → at < length text → IsItemIn (drop at text) (item_of (get_or text at 0) (drop at text))
item_bounds text at within = rw (drop-cons text at 0 within) (item_in (get_or text at 0) (drop (suc at) text))

pub bounds_if_ok : {E : Type 0} (text : List ℕ) (first : Item) (result : Result Item E) → IsItemIn text first → IfOk result (λ item. item ≡ first) → IfOk result (IsItemIn text)
bounds_if_ok text first (Ok item) within is = subst (λ item. IsItemIn text item) (sym is) within
bounds_if_ok text first (Err e) within is = tt
