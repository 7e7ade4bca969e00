-- Steps and ends of loops over the trees of a list.
use Rattle.std.proofs.Common.{◌≡◌, nat_eq, Bool, inl, inr, false, ◌<◌, ◌≤◌, ◌+◌, ℕ, suc, List, [], ◌∷◌, ◌++◌, Option, length, map, drop, get_or, refl, sym, ap, ◌∙◌, arith, add-one, append_assoc, drop-cons}
use Rattle.std.proofs.lemmas.List.{drop_all, append-nil}
use Rattle.gc_ast.specs.Trees.{Kind, TreeOf, Tree, row, more}
use Rattle.gc_sorts.specs.declared.breach.Breach.{Breach}
use Rattle.gc_sorts.specs.Breaches.{Breaches, first_among}
use Rattle.gc_sorts.specs.Patterns.{each}
use Rattle.std.proofs.lemmas.Bool.Decides.{eqb_tells}
use Rattle.gc_sorts.specs.SortRules.{is_none, is_empty, is_only}
use Rattle.gc_sorts.specs.Uses.{all_of}

-- what is left of a list from an item on
pub left_from : {A : Type 0} (xs : List A) (i : ℕ) (x : A) → i < length xs → x ≡ get_or xs i x → drop i xs ≡ x ∷ drop (i + 1) xs
left_from xs i x inside read =
    drop-cons xs i x inside ∙ ap (λ y. y ∷ drop (suc i) xs) (sym read) ∙ ap (λ n. x ∷ drop n xs) (sym (add-one i))

-- the row of what is left, from an item on
pub row_from : {A N : Type 0} {k : Kind} (view : A → TreeOf N k) (xs : List A) (i : ℕ) (x : A) → i < length xs → x ≡ get_or xs i x
    → row (map view (drop i xs)) ≡ more (view x) (row (map view (drop (i + 1) xs)))
row_from view xs i x inside read = ap (λ rest. row (map view rest)) (left_from xs i x inside read)

-- one more tree is looked at
pub each_step : {A N : Type 0} {k : Kind} (f : TreeOf N k → Breaches) (view : A → TreeOf N k) (xs : List A) (i : ℕ) (x : A)
    → i < length xs → x ≡ get_or xs i x → (found next total : Option Breach) → next ≡ first_among found (f (view x))
    → first_among found (each f (row (map view (drop i xs)))) ≡ total
    → first_among next (each f (row (map view (drop (i + 1) xs)))) ≡ total
each_step f view xs i x inside read found next total is_next so_far =
    ap (λ o. first_among o (each f (row (map view (drop (i + 1) xs))))) is_next
    ∙ sym (ap (λ r. first_among found (each f r)) (row_from view xs i x inside read)) ∙ so_far

-- the list of one more tree is added
pub all_of_step : {A B N : Type 0} {k : Kind} (f : TreeOf N k → List B) (view : A → TreeOf N k) (xs : List A) (i : ℕ) (x : A)
    → i < length xs → x ≡ get_or xs i x → (before next total : List B) → next ≡ before ++ f (view x)
    → before ++ all_of f (row (map view (drop i xs))) ≡ total
    → next ++ all_of f (row (map view (drop (i + 1) xs))) ≡ total
all_of_step f view xs i x inside read before next total is_next so_far =
    ap (λ l. l ++ all_of f (row (map view (drop (i + 1) xs)))) is_next
    ∙ append_assoc before (f (view x)) (all_of f (row (map view (drop (i + 1) xs))))
    ∙ sym (ap (λ r. before ++ all_of f r) (row_from view xs i x inside read)) ∙ so_far

-- the lists of all trees are added
pub all_of_end : {A B N : Type 0} {k : Kind} (f : TreeOf N k → List B) (view : A → TreeOf N k) (xs : List A) (i : ℕ)
    → length xs ≤ i → (before total : List B)
    → before ++ all_of f (row (map view (drop i xs))) ≡ total → before ≡ total
all_of_end f view xs i done before total so_far =
    sym (append-nil before) ∙ sym (ap (λ rest. before ++ all_of f (row (map view rest))) (drop_all i xs done)) ∙ so_far

not_zero : (n : ℕ) → nat_eq (suc n) 0 ≡ false
not_zero n = elim (eqb_tells (suc n) 0) [ inl h ↦ absurd (omega (arith, h.1)) | inr h ↦ h.0 ]

-- a row has no tree exactly where its list has no item
pub is_none_row : {A : Type 0} {k : Kind} (view : A → Tree k) (xs : List A) → is_none (row (map view xs)) ≡ nat_eq (length xs) 0
is_none_row view [] = refl
is_none_row view (x ∷ xs) = sym (not_zero (length xs))

-- the same of a list
pub is_empty_list : {A : Type 0} (xs : List A) → is_empty xs ≡ nat_eq (length xs) 0
is_empty_list [] = refl
is_empty_list (x ∷ xs) = sym (not_zero (length xs))

-- the only tree of a row
pub is_only_row : {A : Type 0} {k : Kind} (test : Tree k → Bool) (view : A → Tree k) (xs : List A) (x : A) → length xs ≡ 1 → x ≡ get_or xs 0 x
    → is_only test (row (map view xs)) ≡ test (view x)
is_only_row test view [] x one read = absurd (omega (arith, one))
is_only_row test view (y ∷ []) x one read = ap (λ z. test (view z)) (sym read)
is_only_row test view (y ∷ (z ∷ zs)) x one read = absurd (omega (arith, one))

pub not_only_row : {A : Type 0} {k : Kind} (test : Tree k → Bool) (view : A → Tree k) (xs : List A) → (length xs ≡ 1 → ⊥)
    → is_only test (row (map view xs)) ≡ false
not_only_row test view [] other = refl
not_only_row test view (y ∷ []) other = absurd (other refl)
not_only_row test view (y ∷ (z ∷ zs)) other = refl
