-- Readers of one token, which are stuck at no token of some kinds.
use Rattle.std.proofs.Common.{◌≡◌, refl, sym, ap, ◌∙◌, subst, ℕ, suc, ◌+◌, ◌<◌, ◌≤◌, arith, Bool, true, false, not, ◌||◌, if◌then◌else◌, nat_eq, ltb, get_or, List, [], ◌∷◌, length, Option, Some, None}
use Rattle.std.proofs.lemmas.Bool.{false≢true, eqb-true}
use Rattle.std.proofs.lemmas.Bool.Decides.{nat_tests}
use Rattle.std.proofs.lemmas.Option.{none-some}
use Rattle.std.proofs.lemmas.Cmp.{nat_list_eq_equiv}
use Rattle.std.proofs.lemmas.List.Sums.{passes_at_first}
use Rattle.std.specs.Cmp.Lexicographic.{pointwise, same_text}
use Rattle.std.specs.List.{list_any, position_or_len}
use Rattle.gc_base.specs.Words.{is_reserved, reserved_words}
use Rattle.gc_lex.specs.declared.token.Token.{Token}
use Rattle.gc_lex.specs.declared.token.Token.TheVariants.{Word, Number, Text, Symbol}
use Rattle.gc_lex.specs.declared.token.Mark.{Mark}
use Rattle.gc_lex.specs.declared.token.Mark.TheVariants as mark
use Rattle.gc_grammar.specs.Words.{Point, Lang, One, IsName, this, that, mark, the_word, name, as_value, ◌⇒◌, ◌∣◌}
use Rattle.gc_parse_readers.specs.Kinds.{mark_kind, number_kind, text_kind, name_kind, word_kind, kind, among, begins, covers}
use Rattle.gc_parse_readers.specs.Readers.{Reader, Reading, Got, Stuck, then_read, read_one, meant, read_made, read_as, read_either, means_mark, means_the_word, means_name, read_mark, read_the_word, read_name}
use Rattle.gc_parse_readers.proofs.KindLaws.{not_covered}
use Rattle.gc_parse_readers.proofs.TokenKinds.{word_above, not_reserved}

-- a reading used one token, or was stuck at one that is not of some kinds
abbrev pub Takes : {A : Type 0} → List ℕ → Point → List Token → Reading A → Type 0
Takes kinds start ts (Got a end rest) = (token : Token) × (ts ≡ token ∷ rest) × (end.token ≡ start.token + 1)
Takes kinds start ts (Stuck place) = (begins kinds ts ≡ false) × (place ≡ start.token)

-- a list of one token
abbrev pub IsToken : List Token → Type 0
IsToken ts = (token : Token) × (ts ≡ token ∷ [])

-- languages of single tokens, and a reader that takes each token of some kinds
pub record Taken {A : Type 0} (kinds : List ℕ) (L M : Lang A) (p : Reader A) : Type 0 where
  pub alone : (start end : Point) (ts : List Token) (a : A) → L start ts a end → IsToken ts
  pub alone_by : (start end : Point) (ts : List Token) (a : A) → M start ts a end → IsToken ts
  pub taken : (start : Point) (ts : List Token) → Takes kinds start ts (p start ts)

one_takes : {A : Type 0} (kinds : List ℕ) (means : Token → Option A) (start : Point) (token : Token) (ts : List Token)
    → (means token ≡ None → among kinds (kind token) ≡ false) → (meaning : Option A) → means token ≡ meaning
    → Takes kinds start (token ∷ ts) (meant meaning start ts)
one_takes kinds means start token ts told None is = (told is, refl)
one_takes kinds means start token ts told (Some a) is = (token, refl, refl)

taken_one : {A : Type 0} (kinds : List ℕ) (Means : Token → A → Type 0) (means : Token → Option A)
    → ((token : Token) → means token ≡ None → among kinds (kind token) ≡ false) → Taken kinds (One Means) (One Means) (read_one means)
taken_one {A = A} kinds Means means told = record { alone = alone; alone_by = alone; taken = taken }
  where
    alone : (start end : Point) (ts : List Token) (a : A) → One Means start ts a end → IsToken ts
    alone start end ts a m = (m.token, m.alone)

    taken : (start : Point) (ts : List Token) → Takes kinds start ts (read_one means start ts)
    taken start [] = (refl, refl)
    taken start (token ∷ ts) = one_takes kinds means start token ts (told token) (means token) refl

-- the kinds of symbols are below those of numbers, texts and words
mark_below : (m : Mark) → ltb (mark_kind m) 27 ≡ true
mark_below mark.Assign = refl
mark_below mark.AtMost = refl
mark_below mark.AtLeast = refl
mark_below mark.Differs = refl
mark_below mark.OpenParenthesis = refl
mark_below mark.CloseParenthesis = refl
mark_below mark.OpenBracket = refl
mark_below mark.CloseBracket = refl
mark_below mark.OpenBrace = refl
mark_below mark.CloseBrace = refl
mark_below mark.Less = refl
mark_below mark.Greater = refl
mark_below mark.Comma = refl
mark_below mark.Semicolon = refl
mark_below mark.Colon = refl
mark_below mark.Dot = refl
mark_below mark.Equals = refl
mark_below mark.Plus = refl
mark_below mark.Minus = refl
mark_below mark.Star = refl
mark_below mark.Slash = refl
mark_below mark.Percent = refl
mark_below mark.Bar = refl
mark_below mark.Bang = refl
mark_below mark.Tilde = refl
mark_below mark.AtSign = refl
mark_below mark.LowLine = refl

-- a kind that is one of a single kind
among_one : (k other : ℕ) → nat_eq k other ≡ false → among (other ∷ []) k ≡ false
among_one k other h = rw h refl

above_mark : (k : ℕ) (m : Mark) → 27 ≤ k → nat_eq k (mark_kind m) ≡ false
above_mark k m above = apart_from (mark_kind m) (mark_below m)
  where
    apart_from : (n : ℕ) → ltb n 27 ≡ true → nat_eq k n ≡ false
    apart_from n below = grind (arith, nat_tests)

below_word : (m : Mark) (k : ℕ) → 27 ≤ k → nat_eq (mark_kind m) k ≡ false
below_word m k above = apart_from (mark_kind m) (mark_below m)
  where
    apart_from : (n : ℕ) → ltb n 27 ≡ true → nat_eq n k ≡ false
    apart_from n below = grind (arith, nat_tests)

mark_refused : (m : Mark) (token : Token) → means_mark m token ≡ None → among (mark_kind m ∷ []) (kind token) ≡ false
mark_refused m (Word w) h = let above = word_above w in among_one (word_kind w) (mark_kind m) (above_mark (word_kind w) m (omega (arith, above)))
mark_refused m (Number n) h = among_one number_kind (mark_kind m) (above_mark number_kind m (omega arith))
mark_refused m (Text t) h = among_one text_kind (mark_kind m) (above_mark text_kind m (omega arith))
mark_refused m (Symbol other) h = by (nat_eq (mark_kind other) (mark_kind m)) refl h
  where
    by : (b : Bool) → nat_eq (mark_kind other) (mark_kind m) ≡ b → ◌≡◌ {A = Option (Unit {0})} (if b then Some tt else None) None → among (mark_kind m ∷ []) (mark_kind other) ≡ false
    by true is none = absurd (none-some tt (sym none))
    by false is none = among_one (mark_kind other) (mark_kind m) is

-- a symbol
pub taken_mark : (m : Mark) → Taken (mark_kind m ∷ []) (mark m) (mark m) (read_mark m)
taken_mark m = taken_one (mark_kind m ∷ []) (λ token u. token ≡ Symbol m) (means_mark m) (mark_refused m)

-- a reserved word is told by its kind
passes_somewhere : {X : Type 0} (p : X → Bool) (xs : List X) → list_any p xs ≡ true → position_or_len p xs < length xs
passes_somewhere p [] h = absurd (false≢true h)
passes_somewhere p (x ∷ xs) h = here (passes_somewhere p xs) (p x) h
  where
    here : (list_any p xs ≡ true → position_or_len p xs < length xs) → (b : Bool) → (b || list_any p xs) ≡ true
        → (if (not b) then 1 + position_or_len p xs else 0) < suc (length xs)
    here later true some = omega arith
    here later false some = let before = later some in omega (arith, before)

reserved_at : (w : List ℕ) → is_reserved w ≡ true → get_or reserved_words (position_or_len (pointwise nat_eq w) reserved_words) [] ≡ w
reserved_at w h =
    sym (same_text w _ (sym (passes_at_first (pointwise nat_eq w) reserved_words [] (passes_somewhere (pointwise nat_eq w) reserved_words h))))

same_place : (m n : ℕ) → 30 + m ≡ 30 + n → m ≡ n
same_place m n h = omega (arith, h)

same_reserved : (w other : List ℕ) → is_reserved w ≡ true → is_reserved other ≡ true → word_kind w ≡ word_kind other → w ≡ other
same_reserved w other is is' same =
    let place = λ (v : List ℕ). position_or_len (pointwise nat_eq v) reserved_words in
    let kinds : 30 + place w ≡ 30 + place other =
    ap (λ b. if b then 30 + place w else name_kind) (sym is) ∙ same ∙ ap (λ b. if b then 30 + place other else name_kind) is' in
    sym (reserved_at w is) ∙ ap (λ k. get_or reserved_words k []) (same_place (place w) (place other) kinds) ∙ reserved_at other is'

reserved_above : (w : List ℕ) → is_reserved w ≡ true → 30 ≤ word_kind w
reserved_above w is = subst (λ b. 30 ≤ (if b then 30 + position_or_len (pointwise nat_eq w) reserved_words else name_kind)) (sym is) (omega arith)

the_word_refused : (w : List ℕ) → is_reserved w ≡ true → (token : Token) → means_the_word w token ≡ None → among (word_kind w ∷ []) (kind token) ≡ false
the_word_refused w is (Symbol m) h = let above = reserved_above w is in among_one (mark_kind m) (word_kind w) (below_word m (word_kind w) (omega (arith, above)))
the_word_refused w is (Number n) h = let above = reserved_above w is in among_one number_kind (word_kind w) (grind (arith, nat_tests, above))
the_word_refused w is (Text t) h = let above = reserved_above w is in among_one text_kind (word_kind w) (grind (arith, nat_tests, above))
the_word_refused w is (Word other) h = among_one (word_kind other) (word_kind w) (by (nat_eq (word_kind other) (word_kind w)) refl)
  where
    differs : word_kind other ≡ word_kind w → (reserved : Bool) → is_reserved other ≡ reserved → other ≡ w
    differs same true is' = same_reserved other w is' is same
    differs same false is' =
        let above = reserved_above w is in
        let name = not_reserved other is' in
        absurd (omega (arith, above, name, same))

    refuse : other ≡ w → ◌≡◌ {A = Option (Unit {0})} (if pointwise nat_eq other w then Some tt else None) None → ⊥
    refuse same none =
        none-some tt (sym none ∙ ap (λ v. if pointwise nat_eq v w then Some tt else None) same ∙ ap (λ b. if b then Some tt else None) (nat_list_eq_equiv.refl w))

    by : (b : Bool) → nat_eq (word_kind other) (word_kind w) ≡ b → b ≡ false
    by true same = absurd (refuse (differs (eqb-true (word_kind other) (word_kind w) same) (is_reserved other) refl) h)
    by false same = refl

-- a reserved word that stands for itself
pub taken_the_word : (w : List ℕ) → is_reserved w ≡ true → Taken (word_kind w ∷ []) (the_word w) (the_word w) (read_the_word w)
taken_the_word w is = taken_one (word_kind w ∷ []) (λ token u. token ≡ Word w) (means_the_word w) (the_word_refused w is)

name_refused : (token : Token) → means_name token ≡ None → among (name_kind ∷ []) (kind token) ≡ false
name_refused (Symbol m) h = among_one (mark_kind m) name_kind (below_word m name_kind (omega arith))
name_refused (Number n) h = refl
name_refused (Text t) h = refl
name_refused (Word w) h = by (is_reserved w) refl h
  where
    by : (b : Bool) → is_reserved w ≡ b → (if b then None else Some w) ≡ None → among (name_kind ∷ []) (word_kind w) ≡ false
    by true is none = let above = reserved_above w is in among_one (word_kind w) name_kind (grind (arith, nat_tests, above))
    by false is none = absurd (none-some w (sym none))

-- with the value that its value makes
made_takes : {A B : Type 0} (kinds : List ℕ) (start : Point) (ts : List Token) (make : A → B) (reading : Reading A)
    → Takes kinds start ts reading → Takes kinds start ts (then_read reading λ a. λ end rest. Got (make a) end rest)
made_takes kinds start ts make (Got a end rest) takes = takes
made_takes kinds start ts make (Stuck place) takes = takes

pub taken_made : {A B : Type 0} {kinds : List ℕ} {L M : Lang A} {p : Reader A} {make : ℕ → A → B} → Taken kinds L M p → Taken kinds (L ⇒ make) (M ⇒ make) (read_made p make)
taken_made {kinds = kinds} {p = p} {make = make} token = record {
  alone = λ start end ts b l. token.alone start end ts l.value l.spelled;
  alone_by = λ start end ts b m. token.alone_by start end ts m.value m.spelled;
  taken = λ start ts. made_takes kinds start ts (make start.token) (p start ts) (token.taken start ts);
}

pub taken_as : {A B : Type 0} {kinds : List ℕ} {L M : Lang A} {p : Reader A} {b : B} → Taken kinds L M p → Taken kinds (as_value L b) (as_value M b) (read_as p b)
taken_as token = taken_made token

-- a name
pub taken_name : Taken (name_kind ∷ []) name name read_name
unfolding IsName
taken_name = taken_made (taken_one (name_kind ∷ []) (λ token a. (token ≡ Word a) × IsName a) means_name name_refused)

-- of no kinds
any_takes : {A : Type 0} (kinds : List ℕ) (start : Point) (ts : List Token) (reading : Reading A) → Takes kinds start ts reading → Takes [] start ts reading
any_takes kinds start ts (Got a end rest) takes = takes
any_takes kinds start ts (Stuck place) takes = (none ts, takes.1)
  where
    none : (us : List Token) → begins [] us ≡ false
    none [] = refl
    none (token ∷ us) = refl

pub taken_any : {A : Type 0} {kinds : List ℕ} {L M : Lang A} {p : Reader A} → Taken kinds L M p → Taken [] L M p
taken_any {kinds = kinds} {p = p} token = record {
  alone = token.alone;
  alone_by = token.alone_by;
  taken = λ start ts. any_takes kinds start ts (p start ts) (token.taken start ts);
}

either_takes : {A : Type 0} (kinds choice : List ℕ) (start : Point) (ts : List Token) (r s : Reading A) → covers choice kinds ≡ true
    → Takes kinds start ts r → Takes [] start ts s → (b : Bool) → begins choice ts ≡ b → Takes kinds start ts (if b then r else s)
either_takes kinds choice start ts r s c first second true chosen = first
either_takes kinds choice start ts r (Got a end rest) c first second false chosen = second
either_takes kinds choice start ts r (Stuck place) c first second false chosen = (not_covered choice kinds ts c chosen, second.1)

either_alone : {A : Type 0} (L M : Lang A) (start end : Point) (ts : List Token) (a : A) → (L start ts a end → IsToken ts) → (M start ts a end → IsToken ts)
    → (L ∣ M) start ts a end → IsToken ts
either_alone L M start end ts a first second (this l) = first l
either_alone L M start end ts a first second (that m) = second m

-- one of two, the first of which takes the kinds
pub taken_either : {A : Type 0} {kinds : List ℕ} {L M L' M' : Lang A} {p p' : Reader A} (choice : List ℕ) → covers choice kinds ≡ true
    → Taken kinds L M p → Taken [] L' M' p' → Taken kinds (L ∣ L') (M ∣ M') (read_either choice p p')
taken_either {kinds = kinds} {L = L} {M = M} {L' = L'} {M' = M'} {p = p} {p' = p'} choice c first second = record {
  alone = λ start end ts a. either_alone L L' start end ts a (first.alone start end ts a) (second.alone start end ts a);
  alone_by = λ start end ts a. either_alone M M' start end ts a (first.alone_by start end ts a) (second.alone_by start end ts a);
  taken = λ start ts.
      either_takes kinds choice start ts (p start ts) (p' start ts) c (first.taken start ts) (second.taken start ts) (begins choice ts) refl;
}
