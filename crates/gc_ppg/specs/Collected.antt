-- Elements as they were collected: first some that ascend by identity, then others, each under its identity.
use Rattle.std.specs.Prelude.{◌≡◌, ℕ, List, [], ◌∷◌}
use Rattle.std.specs.List.{AllByRecursion}
use Rattle.std.specs.Ordering.{nat_cmp, on}
use Rattle.gc_base.specs.Ascending.{with_item}

-- the key of each of the others is its identity
abbrev pub KeysAreIds : {X : Type 0} → (X → ℕ) → List (ℕ × X) → Type 0
KeysAreIds key es = AllByRecursion (λ e. e.0 ≡ key e.1) es

-- the elements by ascending identity; of one identity the first of the others stays
abbrev pub in_order : {X : Type 0} → (X → ℕ) → (ascending : List X) → List (ℕ × X) → List X
in_order key ascending [] = ascending
in_order key ascending (e ∷ es) = with_item (on key nat_cmp) (in_order key ascending es) e.1
