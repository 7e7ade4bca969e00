-- Steps and ends of loops over the chains of a view, and over the parts of one.
use Rattle.std.proofs.Common.{◌≡◌, ◌<◌, ◌≤◌, ◌+◌, ℕ, Bool, true, false, ◌||◌, List, [], ◌∷◌, ◌++◌, Option, Some, length, map, drop, get_or, slice_get, sym, ap, ◌∙◌}
use Rattle.std.proofs.lemmas.List.{drop_all, append_assoc}
use Rattle.std.proofs.lemmas.Option.{same_Some}
use Rattle.gc_ast.specs.Trees.{Kind, TreeOf, Tree, RowOf, APattern, row, rows, more}
use Rattle.gc_sorts.specs.declared.breach.Breach.{Breach}
use Rattle.gc_sorts.specs.Breaches.{Breaches, first_among}
use Rattle.gc_sorts.specs.Patterns.{each, is_edge, has_edge, begins_with_edge}
use Rattle.gc_sorts.specs.Uses.{all_of}
use Rattle.gc_sorts.proofs.Rows.{left_from, row_from}

rows_from : {A N : Type 0} {k : Kind} (view : A → List (TreeOf N k)) (xs : List A) (i : ℕ) (x : A) → i < length xs → x ≡ get_or xs i x
    → rows (map view (drop i xs)) ≡ more (row (view x)) (rows (map view (drop (i + 1) xs)))
rows_from view xs i x inside read = ap (λ rest. rows (map view rest)) (left_from xs i x inside read)

-- one more chain is looked at
pub each_chain_step : {A N : Type 0} {k : Kind} (f : TreeOf N (RowOf k) → Breaches) (view : A → List (TreeOf N k)) (xs : List A) (i : ℕ) (x : A)
    → i < length xs → x ≡ get_or xs i x → (found next total : Option Breach) → next ≡ first_among found (f (row (view x)))
    → first_among found (each f (rows (map view (drop i xs)))) ≡ total
    → first_among next (each f (rows (map view (drop (i + 1) xs)))) ≡ total
each_chain_step f view xs i x inside read found next total is_next so_far =
    ap (λ o. first_among o (each f (rows (map view (drop (i + 1) xs))))) is_next
    ∙ sym (ap (λ r. first_among found (each f r)) (rows_from view xs i x inside read)) ∙ so_far

-- the list of one more chain is added
pub all_of_chain_step : {A B N : Type 0} {k : Kind} (f : TreeOf N (RowOf k) → List B) (view : A → List (TreeOf N k)) (xs : List A) (i : ℕ) (x : A)
    → i < length xs → x ≡ get_or xs i x → (before next total : List B) → next ≡ before ++ f (row (view x))
    → before ++ all_of f (rows (map view (drop i xs))) ≡ total
    → next ++ all_of f (rows (map view (drop (i + 1) xs))) ≡ total
all_of_chain_step f view xs i x inside read before next total is_next so_far =
    ap (λ l. l ++ all_of f (rows (map view (drop (i + 1) xs)))) is_next
    ∙ append_assoc before (f (row (view x))) (all_of f (rows (map view (drop (i + 1) xs))))
    ∙ sym (ap (λ r. before ++ all_of f r) (rows_from view xs i x inside read)) ∙ so_far

-- a part that is no edge is passed
pub no_edge_step : {A : Type 0} (view : A → Tree APattern) (xs : List A) (i : ℕ) (x : A) → i < length xs → x ≡ get_or xs i x
    → (b total : Bool) → b ≡ is_edge (view x) → b ≡ false → has_edge (row (map view (drop i xs))) ≡ total → has_edge (row (map view (drop (i + 1) xs))) ≡ total
no_edge_step view xs i x inside read b total is passes so_far =
    ap (λ e. e || has_edge (row (map view (drop (i + 1) xs)))) (sym passes ∙ is)
    ∙ sym (ap has_edge (row_from view xs i x inside read)) ∙ so_far

-- an edge decides
pub edge_found : {A : Type 0} (view : A → Tree APattern) (xs : List A) (i : ℕ) (x : A) → i < length xs → x ≡ get_or xs i x
    → (b total : Bool) → b ≡ is_edge (view x) → b ≡ true → has_edge (row (map view (drop i xs))) ≡ total → true ≡ total
edge_found view xs i x inside read b total is passes so_far =
    ap (λ e. e || has_edge (row (map view (drop (i + 1) xs)))) (sym passes ∙ is)
    ∙ sym (ap has_edge (row_from view xs i x inside read)) ∙ so_far

-- no part is left
pub no_edge_end : {A : Type 0} (view : A → Tree APattern) (xs : List A) (i : ℕ) → length xs ≤ i
    → (total : Bool) → has_edge (row (map view (drop i xs))) ≡ total → false ≡ total
no_edge_end view xs i done total so_far =
    sym (ap (λ rest. has_edge (row (map view rest))) (drop_all i xs done)) ∙ so_far

-- the first chain decides
pub first_chain : {A : Type 0} (view : A → List (Tree APattern)) (xs : List A) (x : A) → slice_get xs 0 ≡ Some x
    → begins_with_edge (rows (map view xs)) ≡ has_edge (row (view x))
first_chain view [] x at = cc
first_chain view (y ∷ ys) x at = ap (λ z. has_edge (row (view z))) (same_Some y x at)
