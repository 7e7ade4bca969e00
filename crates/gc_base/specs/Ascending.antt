-- Sets as strictly ascending lists.
use Rattle.std.specs.Prelude.{◌≡◌, Bool, not, List, [], ◌∷◌, ◌++◌, ⊤}
use Rattle.std.specs.declared.cmp.Ordering.{Ordering}
use Rattle.std.specs.declared.cmp.Ordering.TheVariants.{Less}
use Rattle.std.specs.Ordering.{is_eq, is_lt, is_gt}
use Rattle.std.specs.List.{AllByRecursion, filter, list_any, list_all}

module _ {X : Type 0} (cmp : X → X → Ordering) where
  -- each item is below all later ones
  abbrev pub Ascends : List X → Type 0
  Ascends [] = ⊤
  Ascends (x ∷ xs) = AllByRecursion (λ y. cmp x y ≡ Less) xs × Ascends xs

  -- whether an equal item is in the list
  abbrev pub has : List X → X → Bool
  has xs x = list_any (λ y. is_eq (cmp y x)) xs

  -- what is below the item, the item, and what is above it
  abbrev pub with_item : List X → X → List X
  with_item xs x = filter (λ y. is_lt (cmp y x)) xs ++ x ∷ filter (λ y. is_gt (cmp y x)) xs

  -- what is not equal to the item
  abbrev pub without_item : List X → X → List X
  without_item xs x = filter (λ y. not (is_eq (cmp y x))) xs

  -- whether each item of the first list is in the second
  abbrev pub is_subset : List X → List X → Bool
  is_subset xs ys = list_all (has ys) xs
