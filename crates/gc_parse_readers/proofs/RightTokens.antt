-- The readers of one token are right.
use Rattle.std.proofs.Common.{◌≡◌, refl, sym, ap, ◌∙◌, ℕ, ◌+◌, ◌<◌, add-zero, Bool, true, false, ◌||◌, if◌then◌else◌, nat_eq, get_or, ℤ, List, [], ◌∷◌, length, Option, Some, None}
use Rattle.std.proofs.lemmas.Bool.{eqb-true, eq-eqb}
use Rattle.std.proofs.lemmas.Option.{none-some, same_Some}
use Rattle.std.proofs.lemmas.Cmp.{nat_list_eq_equiv}
use Rattle.std.specs.Cmp.Lexicographic.{pointwise, same_text}
use Rattle.std.specs.List.{position_or_len}
use Rattle.gc_base.specs.Words.{is_reserved, reserved_words}
use Rattle.gc_lex.specs.declared.token.Token.{Token}
use Rattle.gc_lex.specs.declared.token.Token.TheVariants.{Word, Number, Text, Symbol}
use Rattle.gc_lex.specs.declared.token.Mark.{Mark}
use Rattle.gc_lex.specs.declared.token.Mark.TheVariants as mark
use Rattle.gc_grammar.specs.Words.{Point, One, IsName, mark, the_word, word, number, text, plain_name}
use Rattle.gc_parse_readers.specs.Kinds.{mark_kind, number_kind, text_kind, name_kind, word_kind, any_word_kinds, kind, among}
use Rattle.gc_parse_readers.specs.Readers.{Stuck, read_one, meant, means_mark, means_the_word, means_word, means_number, means_text, means_name, read_mark, read_the_word, read_word, read_number, read_text}
use Rattle.gc_parse_readers.specs.Right.{Alike, Sound, Right, Opens, one_of}
use Rattle.gc_parse_readers.proofs.KindLaws.{among_row, or_true}

-- a reading of one token says what it should, by what the token means
one_sound : {A : Type 0} (J : ℕ) (Means : Token → A → Type 0) (means : Token → Option A) (start : Point) (token : Token) (ts : List Token)
    → ((a : A) → means token ≡ Some a → Means token a) → (meaning : Option A) → means token ≡ meaning
    → Sound J (One Means) (read_one means) start (token ∷ ts) (meant meaning start ts)
one_sound J Means means start token ts told None is = record {
  used = [];
  rest = token ∷ ts;
  whole = refl;
  at = sym (add-zero start.token);
  again = again;
}
  where
    again : (other : List Token) → Alike (token ∷ ts) other → length other < J → read_one means start other ≡ Stuck start.token
    again [] same short = refl
    again (another ∷ others) same short = rw (← same_Some token another same) (rw is refl)
one_sound J Means means start token ts told (Some a) is = record {
  used = token ∷ [];
  whole = refl;
  place = refl;
  spelled = record { token = token; alone = refl; means = told a is; after = refl };
  again = λ other same short. rw is refl;
}

-- so is the refusal at the end
one_at_end : {A : Type 0} (J : ℕ) (Means : Token → A → Type 0) (means : Token → Option A) (start : Point)
    → Sound J (One Means) (read_one means) start [] (Stuck start.token)
one_at_end J Means means start = record { used = []; rest = []; whole = refl; at = sym (add-zero start.token); again = again }
  where
    again : (other : List Token) → Alike [] other → length other < J → read_one means start other ≡ Stuck start.token
    again [] same short = refl
    again (token ∷ ts) same short = absurd (none-some token same)

-- a reader of one token is right where it knows what the token means
pub right_one : {j J : ℕ} {A : Type 0} (Means : Token → A → Type 0) (means : Token → Option A) (kinds : List ℕ)
    → ((token : Token) (a : A) → means token ≡ Some a → Means token a)
    → ((token : Token) (a : A) → Means token a → means token ≡ Some a)
    → ((token : Token) (a : A) → Means token a → among kinds (kind token) ≡ true)
    → Right j J (One Means) (One Means) (read_one means) (read_one means) (one_of kinds)
right_one {j = j} {J = J} {A = A} Means means kinds told known kept = record {
  sound = sound;
  complete = λ start end used rest a m short behind. rw (m.alone, m.after) (rw (known m.token a m.means) refl);
  opened = opened;
  opened_by = opened;
}
  where
    sound : (start : Point) (ts : List Token) → length ts < j → Sound J (One Means) (read_one means) start ts (read_one means start ts)
    sound start [] short = one_at_end J Means means start
    sound start (token ∷ ts) short = one_sound J Means means start token ts (told token) (means token) refl

    opened : (start end : Point) (ts : List Token) (a : A) → One Means start ts a end → Opens (one_of kinds) ts
    opened start end ts a m = rw m.alone (kept m.token a m.means)

-- the symbols in the order of their kinds
marks : List Mark
marks =
    mark.Assign ∷ mark.AtMost ∷ mark.AtLeast ∷ mark.Differs ∷ mark.OpenParenthesis ∷ mark.CloseParenthesis
    ∷ mark.OpenBracket ∷ mark.CloseBracket ∷ mark.OpenBrace ∷ mark.CloseBrace ∷ mark.Less ∷ mark.Greater
    ∷ mark.Comma ∷ mark.Semicolon ∷ mark.Colon ∷ mark.Dot ∷ mark.Equals ∷ mark.Plus ∷ mark.Minus ∷ mark.Star
    ∷ mark.Slash ∷ mark.Percent ∷ mark.Bar ∷ mark.Bang ∷ mark.Tilde ∷ mark.AtSign ∷ mark.LowLine ∷ []

mark_of : ℕ → Mark
mark_of k = get_or marks k mark.Assign

mark_of_kind : (m : Mark) → mark_of (mark_kind m) ≡ m
unfolding mark_of marks
mark_of_kind mark.Assign = refl
mark_of_kind mark.AtMost = refl
mark_of_kind mark.AtLeast = refl
mark_of_kind mark.Differs = refl
mark_of_kind mark.OpenParenthesis = refl
mark_of_kind mark.CloseParenthesis = refl
mark_of_kind mark.OpenBracket = refl
mark_of_kind mark.CloseBracket = refl
mark_of_kind mark.OpenBrace = refl
mark_of_kind mark.CloseBrace = refl
mark_of_kind mark.Less = refl
mark_of_kind mark.Greater = refl
mark_of_kind mark.Comma = refl
mark_of_kind mark.Semicolon = refl
mark_of_kind mark.Colon = refl
mark_of_kind mark.Dot = refl
mark_of_kind mark.Equals = refl
mark_of_kind mark.Plus = refl
mark_of_kind mark.Minus = refl
mark_of_kind mark.Star = refl
mark_of_kind mark.Slash = refl
mark_of_kind mark.Percent = refl
mark_of_kind mark.Bar = refl
mark_of_kind mark.Bang = refl
mark_of_kind mark.Tilde = refl
mark_of_kind mark.AtSign = refl
mark_of_kind mark.LowLine = refl

-- symbols of one kind are the same
same_mark : (m other : Mark) → mark_kind m ≡ mark_kind other → m ≡ other
same_mark m other same = sym (mark_of_kind m) ∙ ap mark_of same ∙ mark_of_kind other

pub mark_told : (m : Mark) (token : Token) (u : Unit {0}) → means_mark m token ≡ Some u → token ≡ Symbol m
mark_told m (Word w) u h = absurd (none-some u h)
mark_told m (Number n) u h = absurd (none-some u h)
mark_told m (Text t) u h = absurd (none-some u h)
mark_told m (Symbol other) u h = by (nat_eq (mark_kind other) (mark_kind m)) refl h
  where
    by : (b : Bool) → nat_eq (mark_kind other) (mark_kind m) ≡ b → (if b then Some tt else None) ≡ Some u → Symbol other ≡ Symbol m
    by true is some = ap Symbol (same_mark other m (eqb-true (mark_kind other) (mark_kind m) is))
    by false is some = absurd (none-some u some)

mark_known : (m : Mark) (token : Token) (u : Unit {0}) → token ≡ Symbol m → means_mark m token ≡ Some u
mark_known m token u is = rw is (rw (eq-eqb (mark_kind m) (mark_kind m) refl) refl)

mark_kept : (m : Mark) (token : Token) (u : Unit {0}) → token ≡ Symbol m → among (mark_kind m ∷ []) (kind token) ≡ true
mark_kept m token u is = rw is (rw (eq-eqb (mark_kind m) (mark_kind m) refl) refl)

-- a symbol
pub right_mark : {j J : ℕ} (m : Mark) → Right j J (mark m) (mark m) (read_mark m) (read_mark m) (one_of (mark_kind m ∷ []))
right_mark m = right_one (λ token u. token ≡ Symbol m) (means_mark m) (mark_kind m ∷ []) (mark_told m) (mark_known m) (mark_kept m)

pub the_word_told : (w : List ℕ) (token : Token) (u : Unit {0}) → means_the_word w token ≡ Some u → token ≡ Word w
the_word_told w (Symbol m) u h = absurd (none-some u h)
the_word_told w (Number n) u h = absurd (none-some u h)
the_word_told w (Text t) u h = absurd (none-some u h)
the_word_told w (Word other) u h = by (pointwise nat_eq other w) refl h
  where
    by : (b : Bool) → pointwise nat_eq other w ≡ b → (if b then Some tt else None) ≡ Some u → Word other ≡ Word w
    by true is some = ap Word (same_text other w (sym is))
    by false is some = absurd (none-some u some)

the_word_known : (w : List ℕ) (token : Token) (u : Unit {0}) → token ≡ Word w → means_the_word w token ≡ Some u
the_word_known w token u is = rw is (rw (nat_list_eq_equiv.refl w) refl)

the_word_kept : (w : List ℕ) (token : Token) (u : Unit {0}) → token ≡ Word w → among (word_kind w ∷ []) (kind token) ≡ true
the_word_kept w token u is = rw is (rw (eq-eqb (word_kind w) (word_kind w) refl) refl)

-- a word that stands for itself
pub right_the_word : {j J : ℕ} (w : List ℕ) → Right j J (the_word w) (the_word w) (read_the_word w) (read_the_word w) (one_of (word_kind w ∷ []))
right_the_word w = right_one (λ token u. token ≡ Word w) (means_the_word w) (word_kind w ∷ []) (the_word_told w) (the_word_known w) (the_word_kept w)

pub word_told : (token : Token) (a : List ℕ) → means_word token ≡ Some a → token ≡ Word a
word_told (Word w) a h = ap Word (same_Some w a h)
word_told (Symbol m) a h = absurd (none-some a h)
word_told (Number n) a h = absurd (none-some a h)
word_told (Text t) a h = absurd (none-some a h)

word_among : (w : List ℕ) (b : Bool) → is_reserved w ≡ b → among any_word_kinds (word_kind w) ≡ true
word_among w true is =
    let k = 30 + position_or_len (pointwise nat_eq w) reserved_words in
    ap (λ b. among any_word_kinds (if b then k else name_kind)) is
    ∙ ap (λ b. nat_eq k name_kind || b) (among_row (pointwise nat_eq w) reserved_words 30 is) ∙ or_true (nat_eq k name_kind)
word_among w false is = ap (λ b. among any_word_kinds (if b then 30 + position_or_len (pointwise nat_eq w) reserved_words else name_kind)) is

-- any word
pub right_word : {j J : ℕ} → Right j J word word read_word read_word (one_of any_word_kinds)
right_word =
    right_one (λ token a. token ≡ Word a) means_word any_word_kinds word_told (λ token a is. rw is refl)
    (λ token a is. rw is (word_among a (is_reserved a) refl))

pub number_told : (token : Token) (a : ℤ) → means_number token ≡ Some a → token ≡ Number a
number_told (Word w) a h = absurd (none-some a h)
number_told (Symbol m) a h = absurd (none-some a h)
number_told (Number n) a h = ap Number (same_Some n a h)
number_told (Text t) a h = absurd (none-some a h)

-- any number
pub right_number : {j J : ℕ} → Right j J number number read_number read_number (one_of (number_kind ∷ []))
right_number =
    right_one (λ token a. token ≡ Number a) means_number (number_kind ∷ []) number_told (λ token a is. rw is refl) (λ token a is. rw is refl)

pub text_told : (token : Token) (a : List ℕ) → means_text token ≡ Some a → token ≡ Text a
text_told (Word w) a h = absurd (none-some a h)
text_told (Symbol m) a h = absurd (none-some a h)
text_told (Number n) a h = absurd (none-some a h)
text_told (Text t) a h = ap Text (same_Some t a h)

-- any text
pub right_text : {j J : ℕ} → Right j J text text read_text read_text (one_of (text_kind ∷ []))
right_text =
    right_one (λ token a. token ≡ Text a) means_text (text_kind ∷ []) text_told (λ token a is. rw is refl) (λ token a is. rw is refl)

pub name_told : (token : Token) (a : List ℕ) → means_name token ≡ Some a → (token ≡ Word a) × IsName a
unfolding IsName
name_told (Symbol m) a h = absurd (none-some a h)
name_told (Number n) a h = absurd (none-some a h)
name_told (Text t) a h = absurd (none-some a h)
name_told (Word w) a h = by (is_reserved w) refl h
  where
    by : (b : Bool) → is_reserved w ≡ b → (if b then None else Some w) ≡ Some a → (Word w ≡ Word a) × IsName a
    by true is some = absurd (none-some a some)
    by false is some = let same = same_Some w a some in (ap Word same, rw (← same) is)

-- a name without its token
pub right_plain_name : {j J : ℕ} → Right j J plain_name plain_name (read_one means_name) (read_one means_name) (one_of (name_kind ∷ []))
unfolding IsName
right_plain_name =
    right_one (λ token a. (token ≡ Word a) × IsName a) means_name (name_kind ∷ []) name_told (λ token a is. rw is.0 (rw is.1 refl))
    (λ token a is. rw is.0 (rw is.1 refl))
