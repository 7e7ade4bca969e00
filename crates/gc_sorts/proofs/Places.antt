-- Where names stand first in lists that grow.
use Rattle.std.proofs.Common.{◌≡◌, ◌<◌, ◌≤◌, ◌+◌, ℕ, Bool, true, false, not, List, [], ◌∷◌, ◌++◌, Option, Some, None, length, map, refl, sym, ap, ◌∙◌, arith, inl, inr, get_or, slice_set, if◌then◌else◌, is_some}
use Rattle.std.specs.List.{position, prefix_len, IsDistinct, list_all, list_any}
use Rattle.std.specs.Option.{option_or}
use Rattle.std.proofs.lemmas.Bool.Decides.{nat_tests, eqb_tells}
use Rattle.std.proofs.lemmas.List.{get_or-set_same, get_or-set_other, length-map}
use Rattle.std.proofs.lemmas.List.Folds.{position_or_len_push}
use Rattle.std.proofs.lemmas.List.Sums.{prefix_len-le-length}
use Rattle.std.proofs.lemmas.Grind.{common_steps}
use Rattle.std.proofs.lemmas.List.Quantifiers.{position-Some}
use Rattle.std.proofs.lemmas.Option.{get_or_from_slice_get, slice_get_read, same_Some}
use Rattle.gc_base.specs.declared.place.Sym.{Sym}
use Rattle.gc_base.specs.Words.{is_word}
use Rattle.gc_expr.specs.Views.{Names, name_of}
use Rattle.gc_ast.specs.Names.{same_name}
use Rattle.gc_sorts.specs.Orders.{first_place, slot, has_slot}
use Rattle.gc_sorts.proofs.Slots.{same_slot}

-- the first place in a list with one more item
pub position_push : {X : Type 0} (p : X → Bool) (xs : List X) (y : X)
    → position p (xs ++ y ∷ []) ≡ option_or (position p xs) (if p y then Some (length xs) else None)
position_push p xs y =
    grind (arith, nat_tests, common_steps, position_or_len_push, prefix_len-le-length (λ x. not (p x)) xs)

-- tests that agree find the same place
prefixes_alike : {X Y : Type 0} (p : X → Bool) (q : Y → Bool) (f : X → Y) → ((x : X) → q (f x) ≡ p x)
    → (xs : List X) → prefix_len q (map f xs) ≡ prefix_len p xs
prefixes_alike p q f alike [] = refl
prefixes_alike p q f alike (x ∷ xs) = simp (alike x, prefixes_alike p q f alike xs)

pub positions_alike : {X Y : Type 0} (p : X → Bool) (q : Y → Bool) (f : X → Y) → ((x : X) → q (f x) ≡ p x)
    → (xs : List X) → position q (map f xs) ≡ position p xs
positions_alike p q f alike xs =
    let e = prefixes_alike (λ x. not (p x)) (λ y. not (q y)) f (λ x. ap not (alike x)) xs in rw (e, length-map)

-- where a number's slot stands first its name does
pub place_of_slot : (names : Names) → IsDistinct same_name names → list_all is_word names ≡ true → (syms : List Sym) (a : Sym)
    → position (has_slot (length names) (slot (length names) a)) syms ≡ first_place (map (name_of names) syms) (name_of names a)
place_of_slot names distinct words syms a =
    sym (positions_alike (has_slot (length names) (slot (length names) a)) (same_name (name_of names a)) (name_of names) (same_slot names distinct words a) syms)

-- an option or none is that option
or_none : {X : Type 0} (o : Option X) → option_or o None ≡ o
or_none None = refl
or_none (Some x) = refl

-- where the last item is the first to pass, none before it passes
no_place_before : {X : Type 0} (p : X → Bool) (xs : List X) (y : X) → position p (xs ++ y ∷ []) ≡ Some (length xs) → position p xs ≡ None
no_place_before p xs y last = no_place (position p xs) refl
  where
    no_place : (o : Option ℕ) → position p xs ≡ o → o ≡ None
    no_place None e = refl
    no_place (Some i) e =
        let same : Some i ≡ Some (length xs) = sym (position_push p xs y ∙ rw (e) refl) ∙ last in
        absurd (omega (arith, (position-Some p xs i y e).0, same_Some i (length xs) same))

-- where the last item passes and is not the first to, the place is one before it
place_before : {X : Type 0} (p : X → Bool) (xs : List X) (y : X) → p y ≡ true → (position p (xs ++ y ∷ []) ≡ Some (length xs) → ⊥)
    → position p (xs ++ y ∷ []) ≡ position p xs
place_before p xs y passes other = before (position p xs) refl
  where
    before : (o : Option ℕ) → position p xs ≡ o → position p (xs ++ y ∷ []) ≡ position p xs
    before None e = absurd (other (position_push p xs y ∙ rw (e, passes) refl))
    before (Some i) e = position_push p xs y ∙ rw (e) refl

-- a number whose slot had no place has one
pub first_added : (count : ℕ) (first : List (Option ℕ)) (syms : List Sym) (a : Sym) → length first ≡ count + 1
    → ((k : ℕ) → k ≤ count → get_or first k None ≡ position (has_slot count k) syms)
    → get_or first (slot count a) None ≡ None
    → (k : ℕ) → k ≤ count → get_or (slice_set first (slot count a) (Some (length syms))) k None ≡ position (has_slot count k) (syms ++ a ∷ [])
first_added count first syms a room places empty k inside =
    elim (eqb_tells k (slot count a)) [
      | inl h ↦
          let none : position (has_slot count k) syms ≡ None = sym (places k inside) ∙ ap (λ j. get_or first j None) h.1 ∙ empty in
          let push : position (has_slot count k) (syms ++ a ∷ []) ≡ Some (length syms) = position_push (has_slot count k) syms a ∙ rw (none, h.0) refl in
          ap (λ j. get_or (slice_set first (slot count a) (Some (length syms))) j None) h.1
          ∙ get_or-set_same first (slot count a) (Some (length syms)) None (omega (arith, room))
          ∙ sym push
      | inr h ↦
          get_or-set_other first (slot count a) k (Some (length syms)) None h.1 ∙ places k inside
          ∙ sym (position_push (has_slot count k) syms a ∙ rw (h.0) (or_none (position (has_slot count k) syms)))
    ]

-- a number whose slot had a place keeps it
pub first_kept : (count : ℕ) (first : List (Option ℕ)) (syms : List Sym) (a : Sym) (i : ℕ)
    → ((k : ℕ) → k ≤ count → get_or first k None ≡ position (has_slot count k) syms)
    → get_or first (slot count a) None ≡ Some i
    → (k : ℕ) → k ≤ count → get_or first k None ≡ position (has_slot count k) (syms ++ a ∷ [])
first_kept count first syms a i places has k inside =
    elim (eqb_tells k (slot count a)) [
      | inl h ↦
          let some : position (has_slot count k) syms ≡ Some i = sym (places k inside) ∙ ap (λ j. get_or first j None) h.1 ∙ has in
          places k inside ∙ some ∙ sym (position_push (has_slot count k) syms a ∙ rw (some) refl)
      | inr h ↦ places k inside ∙ sym (position_push (has_slot count k) syms a ∙ rw (h.0) (or_none (position (has_slot count k) syms)))
    ]

-- what is read at an index, by any default
pub read_at : {X : Type 0} (xs : List X) (i : ℕ) (x d : X) → i < length xs → x ≡ get_or xs i x → x ≡ get_or xs i d
read_at xs i x d inside read = sym (get_or_from_slice_get xs i x d (slice_get_read xs (length xs) i x refl inside read))

-- what is not there is None
pub none_unless : {X : Type 0} (o : Option X) → is_some o ≡ false → o ≡ None
none_unless None h = refl
none_unless (Some x) h = cc

pub some_unless : {X : Type 0} (o : Option X) → is_some o ≡ true → (x : X) × (o ≡ Some x)
some_unless None h = cc
some_unless (Some x) h = (x, refl)

-- the last number's slot loses its place with it
pub first_dropped : (count : ℕ) (first : List (Option ℕ)) (syms : List Sym) (a : Sym) → length first ≡ count + 1
    → ((k : ℕ) → k ≤ count → get_or first k None ≡ position (has_slot count k) (syms ++ a ∷ []))
    → get_or first (slot count a) None ≡ Some (length syms)
    → (k : ℕ) → k ≤ count → get_or (slice_set first (slot count a) None) k None ≡ position (has_slot count k) syms
first_dropped count first syms a room places last k inside =
    elim (eqb_tells k (slot count a)) [
      | inl h ↦
          ap (λ j. get_or (slice_set first (slot count a) None) j None) h.1
          ∙ get_or-set_same first (slot count a) None None (omega (arith, room))
          ∙ sym (no_place_before (has_slot count k) syms a (sym (places k inside) ∙ ap (λ j. get_or first j None) h.1 ∙ last))
      | inr h ↦
          get_or-set_other first (slot count a) k None None h.1 ∙ places k inside
          ∙ position_push (has_slot count k) syms a ∙ rw (h.0) (or_none (position (has_slot count k) syms))
    ]

-- a last number that is not the first of its slot takes no place with it
pub first_stays : (count : ℕ) (first : List (Option ℕ)) (syms : List Sym) (a : Sym)
    → ((k : ℕ) → k ≤ count → get_or first k None ≡ position (has_slot count k) (syms ++ a ∷ []))
    → (get_or first (slot count a) None ≡ Some (length syms) → ⊥)
    → (k : ℕ) → k ≤ count → get_or first k None ≡ position (has_slot count k) syms
first_stays count first syms a places other k inside =
    elim (eqb_tells k (slot count a)) [
      | inl h ↦ places k inside ∙ place_before (has_slot count k) syms a h.0 (λ last. other (ap (λ j. get_or first j None) (sym h.1) ∙ places k inside ∙ last))
      | inr h ↦ places k inside ∙ position_push (has_slot count k) syms a ∙ rw (h.0) (or_none (position (has_slot count k) syms))
    ]

-- the same of a slot, a length and a list that are given
pub places_added : (count : ℕ) (first : List (Option ℕ)) (syms more : List Sym) (a : Sym) (at place : ℕ) → length first ≡ count + 1
    → ((k : ℕ) → k ≤ count → get_or first k None ≡ position (has_slot count k) syms)
    → at ≡ slot count a → place ≡ length syms → more ≡ syms ++ a ∷ []
    → (x : Option ℕ) → x ≡ get_or first at x → is_some x ≡ false
    → (k : ℕ) → k ≤ count → get_or (slice_set first at (Some place)) k None ≡ position (has_slot count k) more
places_added count first syms more a at place room places is_slot is_length is_more x read empty k inside =
    rw (is_slot, is_length, is_more)
    (first_added count first syms a room places
    (ap (λ j. get_or first j None) (sym is_slot) ∙ sym (read_at first at x None (omega (arith, is_slot, room)) read) ∙ none_unless x empty) k inside)

pub places_kept : (count : ℕ) (first : List (Option ℕ)) (syms more : List Sym) (a : Sym) (at : ℕ) → length first ≡ count + 1
    → ((k : ℕ) → k ≤ count → get_or first k None ≡ position (has_slot count k) syms)
    → at ≡ slot count a → more ≡ syms ++ a ∷ []
    → (x : Option ℕ) → x ≡ get_or first at x → is_some x ≡ true
    → (k : ℕ) → k ≤ count → get_or first k None ≡ position (has_slot count k) more
places_kept count first syms more a at room places is_slot is_more x read full k inside =
    let some = some_unless x full in
    rw (is_more)
    (first_kept count first syms a some.0 places
    (ap (λ j. get_or first j None) (sym is_slot) ∙ sym (read_at first at x None (omega (arith, is_slot, room)) read) ∙ some.1) k inside)

pub places_dropped : (count : ℕ) (first : List (Option ℕ)) (whole syms : List Sym) (a : Sym) (at place : ℕ) → length first ≡ count + 1
    → ((k : ℕ) → k ≤ count → get_or first k None ≡ position (has_slot count k) whole)
    → whole ≡ syms ++ a ∷ [] → place ≡ length syms → at ≡ slot count a
    → (x : Option ℕ) → x ≡ get_or first at x → x ≡ Some place
    → (k : ℕ) → k ≤ count → get_or (slice_set first at None) k None ≡ position (has_slot count k) syms
places_dropped count first whole syms a at place room places is_whole is_length is_slot x read last k inside =
    rw (is_slot)
    (first_dropped count first syms a room
    (λ j below. places j below ∙ ap (position (has_slot count j)) is_whole)
    (ap (λ j. get_or first j None) (sym is_slot) ∙ sym (read_at first at x None (omega (arith, is_slot, room)) read) ∙ last ∙ ap Some is_length) k inside)

pub places_stay : (count : ℕ) (first : List (Option ℕ)) (whole syms : List Sym) (a : Sym) (at place : ℕ) → length first ≡ count + 1
    → ((k : ℕ) → k ≤ count → get_or first k None ≡ position (has_slot count k) whole)
    → whole ≡ syms ++ a ∷ [] → place ≡ length syms → at ≡ slot count a
    → (x : Option ℕ) → x ≡ get_or first at x → (x ≡ Some place → ⊥)
    → (k : ℕ) → k ≤ count → get_or first k None ≡ position (has_slot count k) syms
places_stay count first whole syms a at place room places is_whole is_length is_slot x read other =
    first_stays count first syms a
    (λ j below. places j below ∙ ap (position (has_slot count j)) is_whole)
    (λ last. other (read_at first at x None (omega (arith, is_slot, room)) read ∙ ap (λ j. get_or first j None) is_slot ∙ last ∙ ap Some (sym is_length)))

-- a test has a first place exactly where an item passes it
pub is_some-position : {X : Type 0} (p : X → Bool) (xs : List X) → is_some (position p xs) ≡ list_any p xs
is_some-position p [] = refl
is_some-position p (x ∷ xs) = grind (arith, nat_tests, common_steps, is_some-position p xs)
