-- Where an item stands in an ascending list, or would stand.
use Rattle.std.specs.Prelude.{◌≡◌, ℕ, ◌+◌, slice_get, None, ◌<◌, ◌≤◌, Ok, Err, Result, true, false, not, List, ◌++◌, length, take, drop}
use Rattle.std.specs.declared.cmp.Ordering.{Ordering}
use Rattle.std.specs.declared.cmp.Ordering.TheVariants.{Equal}
use Rattle.std.specs.Ordering.{is_eq, is_lt, is_gt}
use Rattle.std.specs.List.{filter, find, list_any, HoldsAt}

-- the item at this place ties; what is less stands before it, and what is greater after it
pub record IsPlaceOf {X : Type 0} (answer : X → Ordering) (xs : List X) (place : ℕ) : Type 0 where
  pub within : place < length xs
  pub ties : HoldsAt (λ x. answer x ≡ Equal) xs place
  pub some : list_any (λ x. is_eq (answer x)) xs ≡ true
  pub first : find (λ x. is_eq (answer x)) xs ≡ slice_get xs place
  pub less : filter (λ x. is_lt (answer x)) xs ≡ take place xs
  pub greater : filter (λ x. is_gt (answer x)) xs ≡ drop (place + 1) xs
  pub others : filter (λ x. not (is_eq (answer x))) xs ≡ take place xs ++ drop (place + 1) xs

-- no item ties; what is less stands before this place, and what is greater from it on
pub record IsGapFor {X : Type 0} (answer : X → Ordering) (xs : List X) (place : ℕ) : Type 0 where
  pub within : place ≤ length xs
  pub none : list_any (λ x. is_eq (answer x)) xs ≡ false
  pub first : find (λ x. is_eq (answer x)) xs ≡ None
  pub less : filter (λ x. is_lt (answer x)) xs ≡ take place xs
  pub greater : filter (λ x. is_gt (answer x)) xs ≡ drop place xs
  pub others : filter (λ x. not (is_eq (answer x))) xs ≡ xs

-- what a search in an ascending list answers
abbrev pub IsPlaceOrGap : {X : Type 0} → (X → Ordering) → List X → Result ℕ ℕ → Type 0
IsPlaceOrGap answer xs (Ok place) = IsPlaceOf answer xs place
IsPlaceOrGap answer xs (Err place) = IsGapFor answer xs place
