-- Kinds of tokens, and the first token of a list.
use Rattle.std.proofs.Common.{◌≡◌, refl, sym, ap, ◌∙◌, ℕ, suc, ◌+◌, add-zero, add_assoc, cond, Bool, true, false, not, ◌&&◌, ◌||◌, nat_eq, List, [], ◌∷◌, ◌++◌, length, Option, Some, None}
use Rattle.std.proofs.lemmas.Bool.{false≢true, eqb-true, eq-eqb}
use Rattle.std.proofs.lemmas.List.Folds.{list_any-append}
use Rattle.std.specs.List.{list_any, position_or_len, prefix_len, range_with_len}
use Rattle.gc_lex.specs.declared.token.Token.{Token}
use Rattle.gc_parse_readers.specs.Kinds.{kind, among, begins, covers, apart}
use Rattle.gc_parse_readers.specs.Right.{front, Alike, Outline, Opens}

-- the parts of a test
pub or_left : (a b : Bool) → (a || b) ≡ false → a ≡ false
or_left true b h = absurd (false≢true (sym h))
or_left false b h = refl

pub or_right : (a b : Bool) → (a || b) ≡ false → b ≡ false
or_right true b h = absurd (false≢true (sym h))
or_right false b h = h

pub and_false : (b : Bool) → (b && false) ≡ false
and_false true = refl
and_false false = refl

pub and_left : (a b : Bool) → (a && b) ≡ true → a ≡ true
and_left true b h = refl
and_left false b h = absurd (false≢true h)

pub and_right : (a b : Bool) → (a && b) ≡ true → b ≡ true
and_right true b h = h
and_right false b h = absurd (false≢true h)

not_true : (b : Bool) → not b ≡ true → b ≡ false
not_true true h = absurd (false≢true h)
not_true false h = refl

-- a test that is true and false proves anything
pub neither : {A : Type 0} {b : Bool} → b ≡ true → b ≡ false → A
neither is is_not = absurd (false≢true (sym is_not ∙ is))

-- a kind that is among some is among those that cover them
covered_at : (kinds others : List ℕ) (k other : ℕ) (same : Bool) → nat_eq k other ≡ same
    → among kinds other ≡ true → (among others k ≡ true → among kinds k ≡ true) → (same || among others k) ≡ true → among kinds k ≡ true
covered_at kinds others k other true is here later h = ap (among kinds) (eqb-true k other is) ∙ here
covered_at kinds others k other false is here later h = later h

pub covered : (kinds others : List ℕ) (k : ℕ) → covers kinds others ≡ true → among others k ≡ true → among kinds k ≡ true
covered kinds [] k c h = absurd (false≢true h)
covered kinds (other ∷ others) k c h =
    covered_at kinds others k other (nat_eq k other) refl (and_left (among kinds other) (covers kinds others) c)
    (covered kinds others k (and_right (among kinds other) (covers kinds others) c)) h

-- a kind that is among some is not among those that are apart from them
apart_at : (kinds others : List ℕ) (k other : ℕ) (same : Bool) → nat_eq k other ≡ same
    → among kinds other ≡ false → (among others k ≡ true → among kinds k ≡ false) → (same || among others k) ≡ true → among kinds k ≡ false
apart_at kinds others k other true is here later h = ap (among kinds) (eqb-true k other is) ∙ here
apart_at kinds others k other false is here later h = later h

pub kept_apart : (kinds others : List ℕ) (k : ℕ) → apart kinds others ≡ true → among others k ≡ true → among kinds k ≡ false
kept_apart kinds [] k c h = absurd (false≢true h)
kept_apart kinds (other ∷ others) k c h =
    apart_at kinds others k other (nat_eq k other) refl
    (not_true (among kinds other) (and_left (not (among kinds other)) (apart kinds others) c))
    (kept_apart kinds others k (and_right (not (among kinds other)) (apart kinds others) c)) h

-- no kinds are apart from any
pub apart_none : (others : List ℕ) → apart [] others ≡ true
apart_none [] = refl
apart_none (other ∷ others) = apart_none others

-- what begins with none of some kinds begins with none of those that they cover
pub not_covered : (kinds others : List ℕ) (ts : List Token) → covers kinds others ≡ true → begins kinds ts ≡ false → begins others ts ≡ false
not_covered kinds others [] c h = refl
not_covered kinds others (token ∷ ts) c h = not_covered_at (among others (kind token)) refl
  where
    not_covered_at : (b : Bool) → among others (kind token) ≡ b → b ≡ false
    not_covered_at true is = neither (covered kinds others (kind token) c is) h
    not_covered_at false is = refl

-- the kinds of two lists
pub begins-append : (kinds others : List ℕ) (ts : List Token) → begins (kinds ++ others) ts ≡ (begins kinds ts || begins others ts)
begins-append kinds others [] = refl
begins-append kinds others (token ∷ ts) = list_any-append (nat_eq (kind token)) kinds others

pub begins_neither_left : (kinds others : List ℕ) (ts : List Token) → begins (kinds ++ others) ts ≡ false → begins kinds ts ≡ false
begins_neither_left kinds others ts h = or_left (begins kinds ts) (begins others ts) (sym (begins-append kinds others ts) ∙ h)

pub begins_neither_right : (kinds others : List ℕ) (ts : List Token) → begins (kinds ++ others) ts ≡ false → begins others ts ≡ false
begins_neither_right kinds others ts h = or_right (begins kinds ts) (begins others ts) (sym (begins-append kinds others ts) ∙ h)

pub among_left : (kinds others : List ℕ) (k : ℕ) → among kinds k ≡ true → among (kinds ++ others) k ≡ true
among_left kinds others k h = list_any-append (nat_eq k) kinds others ∙ ap (λ b. b || among others k) h

pub or_true : (b : Bool) → (b || true) ≡ true
or_true true = refl
or_true false = refl

pub among_right : (kinds others : List ℕ) (k : ℕ) → among others k ≡ true → among (kinds ++ others) k ≡ true
among_right kinds others k h = list_any-append (nat_eq k) kinds others ∙ ap (λ b. among kinds k || b) h ∙ or_true (among kinds k)

-- how a list begins is told by its first token
begins_front : List ℕ → Option Token → Bool
begins_front kinds None = false
begins_front kinds (Some token) = among kinds (kind token)

begins_by_front : (kinds : List ℕ) (ts : List Token) → begins kinds ts ≡ begins_front kinds (front ts)
unfolding begins_front
begins_by_front kinds [] = refl
begins_by_front kinds (token ∷ ts) = refl

pub begins_alike : (kinds : List ℕ) (ts us : List Token) → Alike ts us → begins kinds ts ≡ begins kinds us
begins_alike kinds ts us same = begins_by_front kinds ts ∙ ap (begins_front kinds) same ∙ sym (begins_by_front kinds us)

-- two lists that begin alike do so behind others
pub alike_behind : (used rest other : List Token) → Alike rest other → Alike (used ++ rest) (used ++ other)
alike_behind [] rest other same = same
alike_behind (token ∷ used) rest other same = refl

-- what opens as an outline says begins so, whatever follows it
pub opens_covered : (o : Outline) (kinds : List ℕ) (used rest : List Token) → Opens o used → o.empty ≡ false → covers kinds o.first ≡ true → begins kinds (used ++ rest) ≡ true
opens_covered o kinds [] rest opens some c = neither opens some
opens_covered o kinds (token ∷ used) rest opens some c = covered kinds o.first (kind token) c opens

pub opens_apart : (o : Outline) (kinds : List ℕ) (used rest : List Token) → Opens o used → o.empty ≡ false → apart kinds o.first ≡ true → begins kinds (used ++ rest) ≡ false
opens_apart o kinds [] rest opens some c = neither opens some
opens_apart o kinds (token ∷ used) rest opens some c = kept_apart kinds o.first (kind token) c opens

-- what opens as an outline says and is not empty begins with one of its first tokens
pub opens_first : (o : Outline) (used rest : List Token) → Opens o used → o.empty ≡ false → begins o.first (used ++ rest) ≡ true
opens_first o [] rest opens some = neither opens some
opens_first o (token ∷ used) rest opens some = opens

-- a place in a list, counted on from a kind, is one of as many kinds in a row
pub among_row : {X : Type 0} (p : X → Bool) (xs : List X) (k : ℕ) → list_any p xs ≡ true → among (range_with_len k (length xs)) (k + position_or_len p xs) ≡ true
among_row p [] k h = absurd (false≢true h)
among_row p (x ∷ xs) k h = here (among_row p xs (k + 1)) (p x) h
  where
    here : (list_any p xs ≡ true → among (range_with_len (k + 1) (length xs)) (k + 1 + position_or_len p xs) ≡ true) → (b : Bool) → (b || list_any p xs) ≡ true → among (range_with_len k (suc (length xs))) (k + cond (not b) (1 + prefix_len (λ y. not (p y)) xs) 0) ≡ true
    here later true some = rw (add-zero, eq-eqb k k refl) refl
    here later false some =
        let place = position_or_len p xs in
        ap (among (range_with_len k (suc (length xs)))) (sym (add_assoc k 1 place))
        ∙ ap (λ b. nat_eq (k + 1 + place) k || b) (later some) ∙ or_true (nat_eq (k + 1 + place) k)
