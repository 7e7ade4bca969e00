-- Ranks of settled walks, which tell their order.
use Rattle.std.specs.Prelude.{◌≡◌, ℕ, ◌<◌, ◌≤◌, List, length, slice_get, Some}
use Rattle.std.specs.List.{zip}
use Rattle.gc_prod.specs.Products.{Setting}
use Rattle.gc_search.specs.Arrivals.{FoundWalk, entry_of, NoLater}
use Rattle.gc_search.specs.Entries.{Before}
use Rattle.gc_search.specs.Links.{Link, told, IsTree}
use Rattle.gc_search.specs.Passages.{Has}

-- what stands at two places
abbrev pub AtBoth : List (FoundWalk × ℕ) → ((i : ℕ) → FoundWalk × ℕ → (j : ℕ) → FoundWalk × ℕ → Type 0) → Type 0
AtBoth some P = (i j : ℕ) (x y : FoundWalk × ℕ) → slice_get some i ≡ Some x → slice_get some j ≡ Some y → P i x j y

-- walks in their order, each with its rank, which is not above its place: the lower one tells that a walk comes before, and one rank that
-- two have the same cost and edges
pub record AreRanked (some : List (FoundWalk × ℕ)) : Type 0 where
  pub low : (i : ℕ) (x : FoundWalk × ℕ) → slice_get some i ≡ Some x → x.1 ≤ i
  pub ordered : AtBoth some (λ i x j y. i ≤ j → NoLater x.0 y.0)
  pub lower : AtBoth some (λ i x j y. x.1 < y.1 → Before (entry_of x.0) (entry_of y.0))
  pub same : AtBoth some (λ i x j y. x.1 ≡ y.1 → entry_of x.0 ≡ entry_of y.0)

-- the links of a tree are told from the first on, and their walks are ranked
pub record IsRankedTree (setting : Setting) (links : List Link) (ranks : List ℕ) : Type 0 where
  pub tree : IsTree setting links
  pub size : length ranks ≡ length links
  pub ranked : AreRanked (zip (told setting links) ranks)

-- all of some walks come no later than one
abbrev pub AreNoLater : List FoundWalk → FoundWalk → Type 0
AreNoLater walks a = (x : FoundWalk) → Has walks x → NoLater x a
