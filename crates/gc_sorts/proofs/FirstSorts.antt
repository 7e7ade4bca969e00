-- The sort of the first place among two lists of places.
use Rattle.std.proofs.Common.{◌≡◌, ◌<◌, ◌+◌, drop, get_or, length, map, sym, ap, ◌∙◌, ℕ, Bool, true, false, List, [], ◌∷◌, ◌++◌, Option, None, Some, cond, refl}
use Rattle.std.specs.Option.{option_map, option_or}
use Rattle.gc_ast.specs.Names.{same_name}
use Rattle.std.proofs.lemmas.Option.{slice_get_read}
use Rattle.gc_ast.specs.Trees.{Tree, Kind, RowOf, row, rows}
use Rattle.gc_sorts.specs.Uses.{all_of}
use Rattle.gc_sorts.specs.declared.sort.Sort.{Sort}
use Rattle.gc_sorts.specs.Variables.{Use, first_sort, first_use, sort_of}
use Rattle.gc_sorts.proofs.ListSteps.{drop_at}

pub both_sorts : (a b : List Use) (name : List ℕ) → first_sort (a ++ b) name ≡ option_or (first_sort a name) (first_sort b name)
both_sorts [] b name = refl
both_sorts (u ∷ us) b name = by (both_sorts us b name) (same_name name u.name)
  where
    by : first_sort (us ++ b) name ≡ option_or (first_sort us name) (first_sort b name) → (is : Bool)
        → option_map (λ (v : Use). sort_of v.role) (cond is (Some u) (first_use (us ++ b) name))
        ≡ option_or (option_map (λ (v : Use). sort_of v.role) (cond is (Some u) (first_use us name))) (first_sort b name)
    by rest true = refl
    by rest false = rest

-- the variable has a place in the first list, or none there
pub found_in : (a b : List Use) (name : List ℕ) (s : Sort) (whole : Option Sort) → Some s ≡ first_sort a name → first_sort (a ++ b) name ≡ whole → Some s ≡ whole
found_in a b name s whole found h = sym (ap (λ o. option_or o (first_sort b name)) (sym found)) ∙ (sym (both_sorts a b name) ∙ h)

pub passed : (a b : List Use) (name : List ℕ) (whole : Option Sort) → None ≡ first_sort a name → first_sort (a ++ b) name ≡ whole → first_sort b name ≡ whole
passed a b name whole gone h = sym (both_sorts a b name ∙ ap (λ o. option_or o (first_sort b name)) (sym gone)) ∙ h

-- an item of a list, and those behind it
item_at : {X : Type 0} (xs : List X) (i : ℕ) (x : X) → i < length xs → x ≡ get_or xs i x → drop i xs ≡ x ∷ drop (i + 1) xs
item_at xs i x within read = drop_at xs i x (slice_get_read xs (length xs) i x refl within read)

module _ {X : Type 0} {k : Kind} (t : X → Tree k) (f : Tree k → List Use) (name : List ℕ) where
  pub item_found : (xs : List X) (i : ℕ) (x : X) → i < length xs → x ≡ get_or xs i x → (s : Sort) (whole : Option Sort) → Some s ≡ first_sort (f (t x)) name
      → first_sort (all_of f (row (map t (drop i xs)))) name ≡ whole → Some s ≡ whole
  item_found xs i x within read s whole found h =
      found_in (f (t x)) (all_of f (row (map t (drop (i + 1) xs)))) name s whole found (sym (ap (λ ys. first_sort (all_of f (row (map t ys))) name) (item_at xs i x within read)) ∙ h)

  pub item_passed : (xs : List X) (i : ℕ) (x : X) → i < length xs → x ≡ get_or xs i x → (whole : Option Sort) → None ≡ first_sort (f (t x)) name
      → first_sort (all_of f (row (map t (drop i xs)))) name ≡ whole → first_sort (all_of f (row (map t (drop (i + 1) xs)))) name ≡ whole
  item_passed xs i x within read whole gone h =
      passed (f (t x)) (all_of f (row (map t (drop (i + 1) xs)))) name whole gone (sym (ap (λ ys. first_sort (all_of f (row (map t ys))) name) (item_at xs i x within read)) ∙ h)

module _ {X : Type 0} {k : Kind} (t : X → List (Tree k)) (f : Tree (RowOf k) → List Use) (name : List ℕ) where
  pub row_found : (xs : List X) (i : ℕ) (x : X) → i < length xs → x ≡ get_or xs i x → (s : Sort) (whole : Option Sort) → Some s ≡ first_sort (f (row (t x))) name
      → first_sort (all_of f (rows (map t (drop i xs)))) name ≡ whole → Some s ≡ whole
  row_found xs i x within read s whole found h =
      found_in (f (row (t x))) (all_of f (rows (map t (drop (i + 1) xs)))) name s whole found (sym (ap (λ ys. first_sort (all_of f (rows (map t ys))) name) (item_at xs i x within read)) ∙ h)

  pub row_passed : (xs : List X) (i : ℕ) (x : X) → i < length xs → x ≡ get_or xs i x → (whole : Option Sort) → None ≡ first_sort (f (row (t x))) name
      → first_sort (all_of f (rows (map t (drop i xs)))) name ≡ whole → first_sort (all_of f (rows (map t (drop (i + 1) xs)))) name ≡ whole
  row_passed xs i x within read whole gone h =
      passed (f (row (t x))) (all_of f (rows (map t (drop (i + 1) xs)))) name whole gone (sym (ap (λ ys. first_sort (all_of f (rows (map t ys))) name) (item_at xs i x within read)) ∙ h)
