-- What a search by identity finds.
use Rattle.std.proofs.Common.{◌≡◌, Bor, Option, [], ◌∷◌, map, zero, suc, ℕ, ◌<◌, ◌==◌, nat_lt, true, List, length, get_or, refl, sym, ap, ◌∙◌, Some, None, Ok, Err, arith}
use Rattle.std.specs.Cmp.{nat_cmp_is, nat_cmp_total, unsigned_tied}
use Rattle.std.specs.declared.cmp.Ordering.TheVariants.{Equal}
use Rattle.std.specs.List.{find, slice_get}
use Rattle.std.specs.Option.{option_copied, option_map}
use Rattle.std.specs.List.Sorted.{IsSearchInRange, IsBinarySearchResult}
use Rattle.std.specs.Ordering.{nat_cmp, on, is_eq}
use Rattle.std.proofs.lemmas.Bool.Decides.{nat_tests}
use Rattle.std.proofs.lemmas.List.{get_or_default}
use Rattle.std.proofs.lemmas.Option.{slice_get_read}
use Rattle.gc_base.specs.Ascending.{Ascends}
use Rattle.gc_base.proofs.Search.{searched}

-- what a reference reads
pub copied_map : {X : Type 0} (o : Option (Bor X)) → option_copied o ≡ option_map (λ x. x.now) o
copied_map (Some x) = refl
copied_map None = refl

-- an item of a list, mapped
pub get_map : {X Y : Type 0} (f : X → Y) (xs : List X) (i : ℕ) → option_map f (slice_get xs i) ≡ slice_get (map f xs) i
get_map f [] i = refl
get_map f (x ∷ xs) zero = refl
get_map f (x ∷ xs) (suc i) = get_map f xs i

is_below : (a b : ℕ) → true ≡ nat_lt a b → a < b
is_below a b h = grind (arith, nat_tests)

pub equal_is : (a b : ℕ) → true ≡ (a == b) → a ≡ b
equal_is a b h = grind (arith, nat_tests)

module _ {X : Type 0} (key : X → ℕ) (xs : List X) (id : ℕ) (up : Ascends (on key nat_cmp) xs) where
  -- the test by order is the test for being equal
  same_test : find (λ x. key x == id) xs ≡ find (λ x. is_eq (nat_cmp (key x) id)) xs
  same_test = λ j. find (λ x. sym (unsigned_tied (key x) id) j) xs

  pub found_at : (place : ℕ) (x : X) → IsSearchInRange (Ok place) (length xs) → IsBinarySearchResult (λ x. nat_cmp (key x) id) xs (Ok place) → x ≡ get_or xs place x
      → Some x ≡ find (λ x. key x == id) xs
  found_at place x within found read =
      let p = searched key nat_cmp nat_cmp_total xs id (Ok place) up within found in
      sym (same_test ∙ (p.first ∙ slice_get_read xs (length xs) place x refl p.within read))

  pub not_found : (gap : ℕ) → IsSearchInRange (Err gap) (length xs) → IsBinarySearchResult (λ x. nat_cmp (key x) id) xs (Err gap) → None ≡ find (λ x. key x == id) xs
  not_found gap within found =
      let p = searched key nat_cmp nat_cmp_total xs id (Err gap) up within found in
      sym (same_test ∙ p.first)

  pub stands_at : (place : ℕ) (x : X) → true ≡ nat_lt place (length xs) → x ≡ get_or xs place x → key x ≡ id → Some x ≡ find (λ x. key x == id) xs
  stands_at place x within read is =
      let below = is_below place (length xs) within in
      found_at place x below
      (λ d. sym (nat_cmp_is (key (get_or xs place d)) id Equal (ap key (get_or_default xs place d x below ∙ sym read) ∙ is)))
      read
