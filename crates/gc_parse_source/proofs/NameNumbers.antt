-- The numbers of the names among tokens.
use Rattle.std.proofs.Common.{◌≡◌, refl, sym, ap, ◌∙◌, subst, ℕ, zero, suc, ◌+◌, Bool, true, false, if◌then◌else◌, List, [], ◌∷◌, ◌++◌, length, take, drop, Some, None, slice_get, get_or, ◌<◌, fold, add-one, drop-cons}
use Rattle.std.proofs.lemmas.Bool.{false≢true, eqb-true}
use Rattle.gc_base.specs.Words.{is_reserved}
use Rattle.gc_base.specs.declared.place.Sym.{Sym}
use Rattle.gc_lex.specs.declared.token.Token.{Token}
use Rattle.gc_lex.specs.declared.token.Token.TheVariants.{Word, Number, Text, Symbol}
use Rattle.gc_expr.specs.Views.{Names, name_of, found_name}
use Rattle.gc_parse_readers.specs.Kinds.{mark_kind, name_kind, word_kind, begins}
use Rattle.gc_parse_readers.specs.Readers.{means_name, first_means, behind}
use Rattle.gc_parse_readers.proofs.TokenKinds.{mark_below, one_kind, reserved_kind, behind_place}
use Rattle.gc_parse_source.specs.Sources.{IsNumberOf, AreNumbersOf, Extends, with_token}
use Rattle.gc_parse_source.proofs.Prefixes.{take_snoc}
use native.Mathlib.Omega.{arith}

-- what a table has it has with more names behind
kept : (names more : Names) (i : ℕ) (a : List ℕ) → slice_get names i ≡ Some a → slice_get (names ++ more) i ≡ Some a
kept [] more i a h = absurd (cc)
kept (name ∷ names) more zero a h = h
kept (name ∷ names) more (suc i) a h = kept names more i a h

number_kept : (names more : Names) (t : Token) (own : Sym) → IsNumberOf names t own → IsNumberOf (names ++ more) t own
number_kept names more (Word a) own number = λ r. kept names more own.0 a (number r)
number_kept names more (Symbol m) own number = tt
number_kept names more (Number n) own number = tt
number_kept names more (Text t) own number = tt

numbers_kept : (names more : Names) (ts : List Token) (syms : List Sym) → AreNumbersOf names ts syms → AreNumbersOf (names ++ more) ts syms
numbers_kept names more [] [] all = tt
numbers_kept names more [] (own ∷ syms) all = absurd all
numbers_kept names more (t ∷ ts) [] all = absurd all
numbers_kept names more (t ∷ ts) (own ∷ syms) all = (number_kept names more t own all.0, numbers_kept names more ts syms all.1)

numbers_snoc : (names : Names) (ts : List Token) (syms : List Sym) (t : Token) (own : Sym) → AreNumbersOf names ts syms → IsNumberOf names t own
    → AreNumbersOf names (ts ++ t ∷ []) (syms ++ own ∷ [])
numbers_snoc names [] [] t own all number = (number, tt)
numbers_snoc names [] (o ∷ syms) t own all number = absurd all
numbers_snoc names (x ∷ ts) [] t own all number = absurd all
numbers_snoc names (x ∷ ts) (o ∷ syms) t own all number = (all.0, numbers_snoc names ts syms t own all.1 number)

-- one token more, and its number
pub numbers_next : (names new : Names) (ts : List Token) (syms pushed : List Sym) (i : ℕ) (t : Token) (own : Sym) → AreNumbersOf names (take i ts) syms
    → Extends names new → slice_get ts i ≡ Some t → IsNumberOf new t own → pushed ≡ syms ++ own ∷ [] → AreNumbersOf new (take (i + 1) ts) pushed
numbers_next names new ts syms pushed i t own all extends at number push =
    let before = subst (λ ns. AreNumbersOf ns (take i ts) syms) (sym extends.1) (numbers_kept names extends.0 (take i ts) syms all) in
    subst (AreNumbersOf new (take (i + 1) ts)) (sym push)
    (subst (λ us. AreNumbersOf new us (syms ++ own ∷ [])) (sym (take_snoc ts i t at)) (numbers_snoc new (take i ts) syms t own before number))

-- there are as many numbers as tokens
pub numbers_length : (names : Names) (ts : List Token) (syms : List Sym) → AreNumbersOf names ts syms → length ts ≡ length syms
numbers_length names [] [] all = refl
numbers_length names [] (own ∷ syms) all = absurd all
numbers_length names (t ∷ ts) [] all = absurd all
numbers_length names (t ∷ ts) (own ∷ syms) all = ap suc (numbers_length names ts syms all.1)

-- a name in front has the number in front
name_in_front : (names : Names) (t : Token) (ts : List Token) (own : Sym) → IsNumberOf names t own → begins (name_kind ∷ []) (t ∷ ts) ≡ true
    → first_means means_name (t ∷ ts) ≡ Some (name_of names own)
name_in_front names (Word w) ts own number h = here (is_reserved w) refl
  where
    here : (b : Bool) → is_reserved w ≡ b → (if b then None else Some w) ≡ Some (name_of names own)
    here true is = absurd (omega (arith, sym (reserved_kind w is) ∙ eqb-true (word_kind w) name_kind (sym (one_kind (word_kind w) name_kind) ∙ h)))
    here false is = ap Some (sym (ap found_name (number is)))
name_in_front names (Symbol m) ts own number h = absurd (omega (arith, mark_below m, eqb-true (mark_kind m) name_kind (sym (one_kind (mark_kind m) name_kind) ∙ h)))
name_in_front names (Number n) ts own number h = absurd (false≢true h)
name_in_front names (Text t) ts own number h = absurd (false≢true h)

name_number : (names : Names) (ts : List Token) (syms : List Sym) (at : ℕ) (d : Sym) → AreNumbersOf names ts syms
    → begins (name_kind ∷ []) (drop at ts) ≡ true → first_means means_name (drop at ts) ≡ Some (name_of names (get_or syms at d))
name_number names [] syms zero d all h = absurd (false≢true h)
name_number names [] syms (suc at) d all h = absurd (false≢true h)
name_number names (t ∷ ts) [] at d all h = absurd all
name_number names (t ∷ ts) (own ∷ syms) zero d all h = name_in_front names t ts own all.0 h
name_number names (t ∷ ts) (own ∷ syms) (suc at) d all h = name_number names ts syms at d all.1 h

-- a name at a place
pub name_at : (names : Names) (ts : List Token) (syms : List Sym) (at : ℕ) (found : Sym) → AreNumbersOf names ts syms
    → begins (name_kind ∷ []) (drop at ts) ≡ true → found ≡ get_or syms at found
    → (first_means means_name (drop at ts) ≡ Some (name_of names found)) × (at + 1 ≡ at + 1) × (behind (drop at ts) ≡ drop (at + 1) ts)
name_at names ts syms at found all h is =
    (name_number names ts syms at found all h ∙ ap (λ s. Some (name_of names s)) (sym is), refl, behind_place at ts)

-- the names of the tokens from a place on are that of the one there and those of the ones behind it
pub next_names : (before after : Names) (tokens : List Token) (i : ℕ) (t : Token) → i < length tokens → t ≡ get_or tokens i t → after ≡ with_token before t
    → fold with_token after (drop (i + 1) tokens) ≡ fold with_token before (drop i tokens)
next_names before after tokens i t h at same =
    let rest : drop i tokens ≡ t ∷ drop (i + 1) tokens = rw add-one (drop-cons tokens i t h ∙ ap (λ y. y ∷ drop (suc i) tokens) (sym at)) in
    ap (λ names. fold with_token names (drop (i + 1) tokens)) same ∙ ap (fold with_token before) (sym rest)
