-- Identities that no element of a graph has.
use Rattle.std.specs.Prelude.{ℕ, ◌<◌, ◌≤◌, List}
use Rattle.std.specs.List.{AllByRecursion}
use Rattle.gc_spec.specs.PropertyGraph.{PropertyGraph, ids_of}

-- a number is above each of these identities
abbrev pub IsAbove : ℕ → List ℕ → Type 0
IsAbove n ids = AllByRecursion (λ id. id < n) ids

-- the least number from a first one on that is above all of these identities
pub record IsLeastAbove (first : ℕ) (ids : List ℕ) (n : ℕ) : Type 0 where
  pub from : first ≤ n
  pub above : IsAbove n ids
  pub least : (m : ℕ) → first ≤ m → IsAbove m ids → n ≤ m

-- the least number that is above all identities of a graph, or 0 where it has no element
abbrev pub IsFirstFree : PropertyGraph → ℕ → Type 0
IsFirstFree g n = IsLeastAbove 0 (ids_of g) n
