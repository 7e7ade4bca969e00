-- Two numbers stand for the same name exactly where they have the same slot.
use Rattle.std.proofs.Common.{◌≡◌, ◌≢◌, ◌<◌, ◌≤◌, ℕ, Bool, true, false, List, [], ◌∷◌, length, min, get_or, refl, sym, ap, ◌∙◌, arith, inl, inr, ◌⊎◌, nat_eq}
use Rattle.std.specs.List.{IsDistinct, AllPairs, list_all}
use Rattle.std.specs.Cmp.Lexicographic.{bytes_decides}
use Rattle.std.proofs.lemmas.Bool.Decides.{same_from_decides, Decides-like, Decides-eqb, leb_tells}
use Rattle.std.proofs.lemmas.List.Folds.{list_all_at}
use Rattle.std.proofs.lemmas.Map.Made.{AllPairs-from_IsDistinct}
use Rattle.std.proofs.lemmas.Option.{slice_get_cases, get_or_from_slice_get}
use Rattle.gc_base.specs.declared.place.Sym.{Sym}
use Rattle.gc_base.specs.Words.{is_word}
use Rattle.gc_expr.specs.Views.{Names, name_of, found_name}
use Rattle.gc_ast.specs.Names.{same_name}
use Rattle.gc_sorts.specs.Orders.{slot}

true_unless : (b : Bool) → (b ≡ false → ⊥) → b ≡ true
true_unless true h = refl
true_unless false h = absurd (h refl)

-- a word is not empty
pub no_empty_word : (w : List ℕ) → is_word w ≡ true → w ≡ [] → ⊥
no_empty_word [] h e = cc
no_empty_word (c ∷ cs) h e = cc

-- each name of a list of words is a word
word_at : (names : Names) (i : ℕ) → list_all is_word names ≡ true → i < length names → is_word (get_or names i []) ≡ true
word_at names i words inside =
    true_unless (is_word (get_or names i [])) (λ h. let e = list_all_at is_word names i [] inside h in cc)

-- a number is in the table, with its name, or behind it, without one
unfoldable pub Stands : Names → Sym → Type 0
Stands names a = ((a.0 < length names) × (name_of names a ≡ get_or names a.0 [])) ⊎ ((length names ≤ a.0) × (name_of names a ≡ []))

pub stands : (names : Names) (a : Sym) → Stands names a
unfolding Stands
stands names a =
    elim ((slice_get_cases names a.0).1) as (λ w. ((a.0 < length names) × (name_of names a ≡ get_or names a.0 [])) ⊎ ((length names ≤ a.0) × (name_of names a ≡ []))) [
      | inl h ↦ inl (h.1, ap found_name h.2 ∙ sym (get_or_from_slice_get names a.0 h.0 [] h.2))
      | inr h ↦ inr (h.0, ap found_name h.1)
    ]

-- numbers in the table are one where their names are
same_inside : (names : Names) → AllPairs (λ x y. x ≢ y) names → (i j : ℕ) → i < length names → j < length names
    → get_or names i [] ≡ get_or names j [] → i ≡ j
same_inside names apart i j inside other same =
    elim (leb_tells i j) [
      | inl h ↦ elim (leb_tells j i) [ inl k ↦ omega arith | inr k ↦ absurd (apart i j [] k.1 other same) ]
      | inr h ↦ absurd (apart j i [] h.1 inside (sym same))
    ]

-- the slots of two numbers are one where their names are
same_slots : (names : Names) → IsDistinct same_name names → list_all is_word names ≡ true → (a b : Sym)
    → name_of names a ≡ name_of names b → slot (length names) a ≡ slot (length names) b
unfolding Stands
same_slots names distinct words a b same =
    elim (stands names a) [
      | inl h ↦ elim (stands names b) [
        | inl k ↦ let e = same_inside names (AllPairs-from_IsDistinct bytes_decides names distinct) a.0 b.0 h.0 k.0 (sym h.1 ∙ same ∙ k.1) in ap (λ i. min i (length names)) e
        | inr k ↦ absurd (no_empty_word (get_or names a.0 []) (word_at names a.0 words h.0) (sym h.1 ∙ same ∙ k.1))
      ]
      | inr h ↦ elim (stands names b) [
        | inl k ↦ absurd (no_empty_word (get_or names b.0 []) (word_at names b.0 words k.0) (sym k.1 ∙ sym same ∙ h.1))
        | inr k ↦ omega (arith, h.0, k.0)
      ]
    ]

-- the names of two numbers are one where their slots are
same_names : (names : Names) (a b : Sym) → slot (length names) a ≡ slot (length names) b → name_of names a ≡ name_of names b
unfolding Stands
same_names names a b same =
    elim (stands names a) [
      | inl h ↦ elim (stands names b) [
        | inl k ↦ h.1 ∙ ap (λ i. get_or names i []) (omega (arith, h.0, k.0, same)) ∙ sym k.1
        | inr k ↦ absurd (omega (arith, h.0, k.0, same))
      ]
      | inr h ↦ elim (stands names b) [
        | inl k ↦ absurd (omega (arith, h.0, k.0, same))
        | inr k ↦ h.1 ∙ sym k.1
      ]
    ]

-- two numbers stand for the same name exactly where they have the same slot
pub same_slot : (names : Names) → IsDistinct same_name names → list_all is_word names ≡ true → (a b : Sym)
    → same_name (name_of names a) (name_of names b) ≡ nat_eq (slot (length names) a) (slot (length names) b)
same_slot names distinct words a b =
    same_from_decides (same_name (name_of names a) (name_of names b)) (nat_eq (slot (length names) a) (slot (length names) b))
    (Decides-like (same_name (name_of names a) (name_of names b)) (same_slots names distinct words a b) (same_names names a b) (bytes_decides (name_of names a) (name_of names b)))
    (Decides-eqb (slot (length names) a) (slot (length names) b))
