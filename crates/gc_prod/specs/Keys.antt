-- What has a key, among other items.
use Rattle.std.specs.Prelude.{ℕ, ◌==◌, List}
use Rattle.std.specs.List.{filter}

-- the items of a key
abbrev pub at_key : {X : Type 0} → (X → ℕ) → ℕ → List X → List X
at_key key_of key items = filter (λ x. key_of x == key) items
