-- The slots of names that a table has, and those of names that it lacks.
use Rattle.std.proofs.Common.{◌≡◌, ◌<◌, ◌+◌, ℕ, Bool, true, false, ◌||◌, List, [], Some, length, get_or, slice_set, refl, sym, ap, ◌∙◌, arith, inl, inr, nat_eq}
use Rattle.std.specs.List.{IsDistinct, list_all, list_any}
use Rattle.std.specs.Cmp.Lexicographic.{bytes_decides}
use Rattle.std.proofs.lemmas.Bool.Decides.{eqb_tells}
use Rattle.std.proofs.lemmas.List.{get_or-set_same, get_or-set_other}
use Rattle.std.proofs.lemmas.List.Folds.{list_any_at}
use Rattle.std.proofs.lemmas.List.Quantifiers.{position-Some}
use Rattle.gc_base.specs.declared.place.Sym.{Sym}
use Rattle.gc_base.specs.Words.{is_word}
use Rattle.gc_expr.specs.Views.{Names, name_of, found_name}
use Rattle.gc_ast.specs.Names.{same_name, number_in}
use Rattle.gc_ast.proofs.NameLemmas.{name_of_number}
use Rattle.gc_sorts.specs.Orders.{slot}
use Rattle.gc_sorts.proofs.Slots.{same_slot, Stands, stands, no_empty_word}

-- a number and a name that has another number stand for the same exactly where the slots agree
same_number : (names : Names) → IsDistinct same_name names → list_all is_word names ≡ true → (name : List ℕ) (a s : Sym)
    → number_in names name ≡ Some a.0 → same_name (name_of names s) name ≡ nat_eq (slot (length names) s) a.0
same_number names distinct words name a s number =
    let inside : a.0 < length names = (position-Some (same_name name) names a.0 [] number).0 in
    let is_slot : slot (length names) a ≡ a.0 = omega (arith, inside) in
    ap (same_name (name_of names s)) (sym (ap found_name (name_of_number names name a.0 number)))
    ∙ same_slot names distinct words s a ∙ ap (nat_eq (slot (length names) s)) is_slot

-- the slot of a name is noted
pub slot_noted : (names : Names) → IsDistinct same_name names → list_all is_word names ≡ true → (slots : List Bool) → length slots ≡ length names + 1
    → (name : List ℕ) (a : Sym) → Some a.0 ≡ number_in names name
    → (s : Sym) → get_or (slice_set slots a.0 true) (slot (length names) s) false ≡ (get_or slots (slot (length names) s) false || same_name (name_of names s) name)
slot_noted names distinct words slots room name a number s =
    let inside : a.0 < length names = (position-Some (same_name name) names a.0 [] (sym number)).0 in
    elim (eqb_tells (slot (length names) s) a.0) [
      | inl h ↦
          ap (λ k. get_or (slice_set slots a.0 true) k false) h.1 ∙ get_or-set_same slots a.0 true false (omega (arith, inside, room))
          ∙ sym (ap (λ b. get_or slots (slot (length names) s) false || b) (same_number names distinct words name a s (sym number) ∙ h.0) ∙ or_true (get_or slots (slot (length names) s) false))
      | inr h ↦
          get_or-set_other slots a.0 (slot (length names) s) true false h.1
          ∙ sym (ap (λ b. get_or slots (slot (length names) s) false || b) (same_number names distinct words name a s (sym number) ∙ h.0) ∙ or_false (get_or slots (slot (length names) s) false))
    ]
  where
    or_true : (b : Bool) → (b || true) ≡ true
    or_true true = refl
    or_true false = refl

    or_false : (b : Bool) → (b || false) ≡ b
    or_false true = refl
    or_false false = refl

-- no number stands for a name that the table lacks
stranger_at : (names : Names) (name : List ℕ) → is_word name ≡ true → false ≡ list_any (same_name name) names
    → (s : Sym) → name_of names s ≡ name → ⊥
unfolding Stands
stranger_at names name word absent s same =
    elim (stands names s) [
      | inl h ↦ let e = list_any_at (same_name name) names s.0 [] h.0 ((bytes_decides name (get_or names s.0 [])).1 (sym same ∙ h.1)) in cc
      | inr h ↦ no_empty_word name word (sym same ∙ h.1)
    ]

-- a name that the table lacks has no number
pub none_noted : (names : Names) → list_all is_word names ≡ true → (name : List ℕ) → is_word name ≡ true → false ≡ list_any (same_name name) names
    → (s : Sym) (b : Bool) → b ≡ (b || same_name (name_of names s) name)
none_noted names words name word absent s b =
    sym (ap (λ other. b || other) (false_unless (same_name (name_of names s) name) stranger) ∙ or_false b)
  where
    false_unless : (b : Bool) → (b ≡ true → ⊥) → b ≡ false
    false_unless true h = absurd (h refl)
    false_unless false h = refl

    or_false : (b : Bool) → (b || false) ≡ b
    or_false true = refl
    or_false false = refl

    stranger : same_name (name_of names s) name ≡ true → ⊥
    stranger h = stranger_at names name word absent s ((bytes_decides (name_of names s) name).0 h)
