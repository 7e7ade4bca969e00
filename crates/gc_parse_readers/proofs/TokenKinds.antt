-- What the kind of a token says of its meaning.
use Rattle.std.proofs.Common.{◌≡◌, refl, sym, ap, ◌∙◌, subst, ℕ, zero, suc, ◌+◌, ◌<◌, ◌≤◌, Bool, true, false, not, ◌||◌, if◌then◌else◌, nat_eq, List, [], ◌∷◌, length, drop, Some, None, slice_get}
use Rattle.std.proofs.lemmas.Bool.{false≢true, eqb-true, eq-eqb}
use Rattle.std.proofs.lemmas.Option.{same_Some}
use Rattle.std.specs.Cmp.Lexicographic.{pointwise, bytes_decides}
use Rattle.std.specs.List.{list_any, position_or_len}
use Rattle.gc_base.specs.Words.{is_reserved, reserved_words}
use Rattle.gc_lex.specs.declared.token.Token.{Token}
use Rattle.gc_lex.specs.declared.token.Token.TheVariants.{Word, Number, Text, Symbol}
use Rattle.gc_lex.specs.declared.token.Mark.{Mark}
use Rattle.gc_lex.specs.declared.token.Mark.TheVariants as mark
use Rattle.gc_parse_readers.specs.Kinds.{mark_kind, number_kind, text_kind, name_kind, word_kind, kind, among, begins}
use Rattle.gc_parse_readers.specs.Readers.{means_mark, means_the_word, means_word, means_name, first_means, behind}
use native.Mathlib.Omega.{arith}

-- the kinds of symbols come first
pub mark_below : (m : Mark) → mark_kind m < 27
mark_below mark.Assign = omega arith
mark_below mark.AtMost = omega arith
mark_below mark.AtLeast = omega arith
mark_below mark.Differs = omega arith
mark_below mark.OpenParenthesis = omega arith
mark_below mark.CloseParenthesis = omega arith
mark_below mark.OpenBracket = omega arith
mark_below mark.CloseBracket = omega arith
mark_below mark.OpenBrace = omega arith
mark_below mark.CloseBrace = omega arith
mark_below mark.Less = omega arith
mark_below mark.Greater = omega arith
mark_below mark.Comma = omega arith
mark_below mark.Semicolon = omega arith
mark_below mark.Colon = omega arith
mark_below mark.Dot = omega arith
mark_below mark.Equals = omega arith
mark_below mark.Plus = omega arith
mark_below mark.Minus = omega arith
mark_below mark.Star = omega arith
mark_below mark.Slash = omega arith
mark_below mark.Percent = omega arith
mark_below mark.Bar = omega arith
mark_below mark.Bang = omega arith
mark_below mark.Tilde = omega arith
mark_below mark.AtSign = omega arith
mark_below mark.LowLine = omega arith

-- those of words last
pub word_above : (word : List ℕ) → 29 ≤ word_kind word
word_above word = above (is_reserved word)
  where
    above : (b : Bool) → 29 ≤ (if b then 30 + position_or_len (pointwise nat_eq word) reserved_words else name_kind)
    above true = omega arith
    above false = omega arith

-- two numbers that differ
unequal : (a b : ℕ) → (a ≡ b → ⊥) → nat_eq a b ≡ false
unequal a b differ = decide (nat_eq a b) refl
  where
    decide : (t : Bool) → nat_eq a b ≡ t → t ≡ false
    decide true is = absurd (differ (eqb-true a b is))
    decide false is = refl

-- a test of one kind
pub one_kind : (k m : ℕ) → among (m ∷ []) k ≡ nat_eq k m
one_kind k m = either (nat_eq k m)
  where
    either : (b : Bool) → (b || false) ≡ b
    either true = refl
    either false = refl

-- a number, a text and a word are no symbols
pub number_no_mark : (m : Mark) → among (mark_kind m ∷ []) number_kind ≡ false
number_no_mark m = one_kind number_kind (mark_kind m) ∙ unequal number_kind (mark_kind m) (λ e. omega (arith, e, mark_below m))

pub text_no_mark : (m : Mark) → among (mark_kind m ∷ []) text_kind ≡ false
text_no_mark m = one_kind text_kind (mark_kind m) ∙ unequal text_kind (mark_kind m) (λ e. omega (arith, e, mark_below m))

pub word_no_mark : (m : Mark) (w : List ℕ) → among (mark_kind m ∷ []) (word_kind w) ≡ false
word_no_mark m w = one_kind (word_kind w) (mark_kind m) ∙ unequal (word_kind w) (mark_kind m) (λ e. omega (arith, e, mark_below m, word_above w))

-- a reserved word has its own kind
pub reserved_kind : (w : List ℕ) → is_reserved w ≡ true → word_kind w ≡ 30 + position_or_len (pointwise nat_eq w) reserved_words
reserved_kind w r = ap (λ b. if b then 30 + position_or_len (pointwise nat_eq w) reserved_words else name_kind) r

-- and a word that is not reserved that of names
pub not_reserved : (w : List ℕ) → is_reserved w ≡ false → word_kind w ≡ name_kind
not_reserved w r = ap (λ b. if b then 30 + position_or_len (pointwise nat_eq w) reserved_words else name_kind) r

-- no symbol, number or text is a reserved word
pub mark_no_word : (w : List ℕ) (m : Mark) → is_reserved w ≡ true → among (word_kind w ∷ []) (mark_kind m) ≡ false
mark_no_word w m r =
    one_kind (mark_kind m) (word_kind w) ∙ unequal (mark_kind m) (word_kind w) (λ e. omega (arith, e, mark_below m, word_above w))

pub number_no_word : (w : List ℕ) → is_reserved w ≡ true → among (word_kind w ∷ []) number_kind ≡ false
number_no_word w r = one_kind number_kind (word_kind w) ∙ unequal number_kind (word_kind w) (λ e. omega (arith, e, word_above w))

pub text_no_word : (w : List ℕ) → is_reserved w ≡ true → among (word_kind w ∷ []) text_kind ≡ false
text_no_word w r = one_kind text_kind (word_kind w) ∙ unequal text_kind (word_kind w) (λ e. omega (arith, e, word_above w))

-- a word of a list stands at its position
stands_here : (w x : List ℕ) (ws : List (List ℕ)) (b : Bool) → pointwise nat_eq w x ≡ b
    → (list_any (pointwise nat_eq w) ws ≡ true → slice_get ws (position_or_len (pointwise nat_eq w) ws) ≡ Some w)
    → (b || list_any (pointwise nat_eq w) ws) ≡ true
    → slice_get (x ∷ ws) (if not b then 1 + position_or_len (pointwise nat_eq w) ws else 0) ≡ Some w
stands_here w x ws true is later any = ap Some (sym ((bytes_decides w x).0 is))
stands_here w x ws false is later any =
    ap (slice_get (x ∷ ws)) {x = 1 + position_or_len (pointwise nat_eq w) ws} {y = suc (position_or_len (pointwise nat_eq w) ws)} (omega arith) ∙ later any

stands_at : (w : List ℕ) (ws : List (List ℕ)) → list_any (pointwise nat_eq w) ws ≡ true → slice_get ws (position_or_len (pointwise nat_eq w) ws) ≡ Some w
stands_at w [] h = absurd (false≢true h)
stands_at w (x ∷ ws) h = stands_here w x ws (pointwise nat_eq w x) refl (stands_at w ws) h

-- reserved words of one kind are one word
pub same_kind : (v w : List ℕ) → is_reserved w ≡ true → nat_eq (word_kind v) (word_kind w) ≡ true → v ≡ w
same_kind v w r same = here (is_reserved v) refl
  where
    k : word_kind v ≡ word_kind w
    k = eqb-true (word_kind v) (word_kind w) same

    here : (b : Bool) → is_reserved v ≡ b → v ≡ w
    here true is =
        let p : position_or_len (pointwise nat_eq v) reserved_words ≡ position_or_len (pointwise nat_eq w) reserved_words =
        omega (arith, sym (reserved_kind v is) ∙ k ∙ reserved_kind w r) in
        same_Some v w (sym (stands_at v reserved_words is) ∙ ap (slice_get reserved_words) p ∙ stands_at w reserved_words r)
    here false is = absurd (omega (arith, sym (not_reserved v is) ∙ k ∙ reserved_kind w r))

-- a word is that reserved word where it has its kind
pub word_by_kind : (v w : List ℕ) → is_reserved w ≡ true → pointwise nat_eq v w ≡ among (word_kind w ∷ []) (word_kind v)
word_by_kind v w r = decide (pointwise nat_eq v w) refl ∙ sym (one_kind (word_kind v) (word_kind w))
  where
    decide : (b : Bool) → pointwise nat_eq v w ≡ b → b ≡ nat_eq (word_kind v) (word_kind w)
    decide true is = sym (ap (λ u. nat_eq (word_kind v) (word_kind u)) (sym ((bytes_decides v w).0 is)) ∙ eq-eqb (word_kind v) (word_kind v) refl)
    decide false is = sym (unequal (word_kind v) (word_kind w) (λ e. false≢true (sym is ∙ alike e)))
      where
        alike : word_kind v ≡ word_kind w → pointwise nat_eq v w ≡ true
        alike e = subst (λ u. pointwise nat_eq v u ≡ true) (same_kind v w r (eq-eqb (word_kind v) (word_kind w) e)) ((bytes_decides v v).1 refl)

-- what is no symbol has no symbol's kind
pub no_mark_kind : (m : Mark) (t : Token) → ((x : Mark) → t ≡ Symbol x → ⊥) → false ≡ among (mark_kind m ∷ []) (kind t)
no_mark_kind m (Symbol x) h = absurd (h x refl)
no_mark_kind m (Number n) h = sym (number_no_mark m)
no_mark_kind m (Text t) h = sym (text_no_mark m)
no_mark_kind m (Word w) h = sym (word_no_mark m w)

-- what is no word has no reserved word's kind
pub no_word_kind : (w : List ℕ) (t : Token) → is_reserved w ≡ true → ((x : List ℕ) → t ≡ Word x → ⊥) → false ≡ among (word_kind w ∷ []) (kind t)
no_word_kind w (Word x) r h = absurd (h x refl)
no_word_kind w (Symbol m) r h = sym (mark_no_word w m r)
no_word_kind w (Number n) r h = sym (number_no_word w r)
no_word_kind w (Text t) r h = sym (text_no_word w r)

-- where a list begins with the kind of a symbol it begins with the symbol
mark_decides : (m : Mark) (t : Token) (ts : List Token) (b : Bool) → begins (mark_kind m ∷ []) (t ∷ ts) ≡ b
    → first_means (means_mark m) (t ∷ ts) ≡ (if b then Some tt else None)
mark_decides m (Symbol x) ts b h = ap (λ c. if c then Some tt else None) (sym (one_kind (mark_kind x) (mark_kind m)) ∙ h)
mark_decides m (Number n) ts b h = ap (λ c. if c then Some tt else None) (sym (number_no_mark m) ∙ h)
mark_decides m (Text t) ts b h = ap (λ c. if c then Some tt else None) (sym (text_no_mark m) ∙ h)
mark_decides m (Word w) ts b h = ap (λ c. if c then Some tt else None) (sym (word_no_mark m w) ∙ h)

pub mark_seen : (m : Mark) (ts : List Token) (b : Bool) → begins (mark_kind m ∷ []) ts ≡ b → first_means (means_mark m) ts ≡ (if b then Some tt else None)
mark_seen m [] b h = ap (λ c. if c then Some tt else None) h
mark_seen m (t ∷ ts) b h = mark_decides m t ts b h

-- where a list begins with the kind of a reserved word it begins with the word
word_decides : (w : List ℕ) (t : Token) (ts : List Token) (b : Bool) → is_reserved w ≡ true → begins (word_kind w ∷ []) (t ∷ ts) ≡ b
    → first_means (means_the_word w) (t ∷ ts) ≡ (if b then Some tt else None)
word_decides w (Word x) ts b r h = ap (λ c. if c then Some tt else None) (word_by_kind x w r ∙ h)
word_decides w (Symbol m) ts b r h = ap (λ c. if c then Some tt else None) (sym (mark_no_word w m r) ∙ h)
word_decides w (Number n) ts b r h = ap (λ c. if c then Some tt else None) (sym (number_no_word w r) ∙ h)
word_decides w (Text t) ts b r h = ap (λ c. if c then Some tt else None) (sym (text_no_word w r) ∙ h)

pub word_seen : (w : List ℕ) (ts : List Token) (b : Bool) → is_reserved w ≡ true → begins (word_kind w ∷ []) ts ≡ b → first_means (means_the_word w) ts ≡ (if b then Some tt else None)
word_seen w [] b r h = ap (λ c. if c then Some tt else None) h
word_seen w (t ∷ ts) b r h = word_decides w t ts b r h

-- what begins with a token is not empty
pub place_within : (ks : List ℕ) (at : ℕ) (ts : List Token) → begins ks (drop at ts) ≡ true → at < length ts
place_within ks zero [] h = absurd (false≢true h)
place_within ks (suc at) [] h = absurd (false≢true h)
place_within ks zero (t ∷ ts) h = omega arith
place_within ks (suc at) (t ∷ ts) h = let l = place_within ks at ts h in omega (arith, l)

-- what follows the token at a place
pub behind_place : (at : ℕ) (ts : List Token) → behind (drop at ts) ≡ drop (at + 1) ts
behind_place zero [] = refl
behind_place (suc at) [] = empty (suc at + 1)
  where
    empty : (n : ℕ) → [] ≡ drop {A = Token} n []
    empty zero = refl
    empty (suc n) = refl
behind_place zero (t ∷ ts) = refl
behind_place (suc at) (t ∷ ts) = behind_place at ts ∙ ap (λ n. drop n (t ∷ ts)) {x = suc (at + 1)} {y = suc at + 1} (omega arith)

-- a name is a word
pub name_word : (ts : List Token) (a : List ℕ) → first_means means_name ts ≡ Some a → first_means means_word ts ≡ Some a
name_word [] a h = absurd (cc)
name_word (Symbol m ∷ ts) a h = absurd (cc)
name_word (Number n ∷ ts) a h = absurd (cc)
name_word (Text t ∷ ts) a h = absurd (cc)
name_word (Word w ∷ ts) a h = named (is_reserved w) h
  where
    named : (b : Bool) → (if b then None else Some w) ≡ Some a → Some w ≡ Some a
    named true n = absurd (cc)
    named false n = n

-- a symbol at a place
pub mark_at : (m : Mark) (at : ℕ) (ts : List Token) → begins (mark_kind m ∷ []) (drop at ts) ≡ true
    → (first_means (means_mark m) (drop at ts) ≡ Some tt) × (at + 1 ≡ at + 1) × (behind (drop at ts) ≡ drop (at + 1) ts)
mark_at m at ts h = (mark_seen m (drop at ts) true h, refl, behind_place at ts)

-- a reserved word at a place
pub word_at : (w : List ℕ) (at : ℕ) (ts : List Token) → is_reserved w ≡ true → begins (word_kind w ∷ []) (drop at ts) ≡ true
    → (first_means (means_the_word w) (drop at ts) ≡ Some tt) × (at + 1 ≡ at + 1) × (behind (drop at ts) ≡ drop (at + 1) ts)
word_at w at ts r h = (word_seen w (drop at ts) true r h, refl, behind_place at ts)

-- two words compared by their bytes
pub word_told : (t : Token) (v w bytes others : List ℕ) (same : Bool) → is_reserved w ≡ true → t ≡ Word v → bytes ≡ v → others ≡ w
    → same ≡ pointwise nat_eq bytes others → same ≡ among (word_kind w ∷ []) (kind t)
word_told t v w bytes others same r is left right told =
    told ∙ ap (λ u. pointwise nat_eq u others) left ∙ ap (pointwise nat_eq v) right ∙ word_by_kind v w r
    ∙ ap (λ u. among (word_kind w ∷ []) (kind u)) (sym is)
