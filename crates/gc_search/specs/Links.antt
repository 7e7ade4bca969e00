-- Walks that are told by settled ones that they extend.
use Rattle.std.specs.Prelude.{◌≡◌, ℕ, zero, suc, ◌<◌, ◌≤◌, List, [], ◌∷◌, ◌++◌, map, length, reverse, slice_get, Option, Some, None}
use Rattle.std.specs.List.{flat_map}
use Rattle.gc_base.specs.declared.walk.Step.{Step}
use Rattle.gc_prod.specs.declared.moves.By.{By}
use Rattle.gc_prod.specs.declared.moves.By.TheVariants as by
use Rattle.gc_prod.specs.declared.moves.Pair.{Pair}
use Rattle.gc_prod.specs.declared.moves.RunMove.{RunMove}
use Rattle.gc_prod.specs.Leading.{pair}
use Rattle.gc_prod.specs.Products.{Setting}
use Rattle.gc_prod.specs.SymbolHops.{steps_by}
use Rattle.gc_search.specs.Arrivals.{FoundWalk}

-- a walk that extends a settled one: where it arrives, its cost and number of edges, the number of the settled one, counted from 1, or 0
-- where it extends none, and the move by which it does
pub record Link : Type 0 where
  pub at : Pair
  pub cost : ℕ
  pub edges : ℕ
  pub before : ℕ
  pub by : By

-- the walk that stays at the source
abbrev pub starts_at : ℕ → Link
starts_at source = record { at = pair source 0; cost = 0; edges = 0; before = 0; by = by.Nothing }

-- the settled walk of a number, counted from 1; the number 0 is that of none
abbrev pub numbered : List FoundWalk → ℕ → Option FoundWalk
numbered walks zero = None
numbered walks (suc n) = slice_get walks n

-- a number is that of a settled walk
abbrev pub IsNumber : List FoundWalk → ℕ → Type 0
IsNumber walks n = (0 < n) × (n ≤ length walks)

-- the steps and the run of a walk that extends one, or none
abbrev pub steps_behind : Setting → Link → Option FoundWalk → List Step
steps_behind setting l None = []
steps_behind setting l (Some a) = a.steps ++ steps_by setting.network l.by l.at.node

abbrev pub run_behind : Link → Option FoundWalk → List RunMove
run_behind l None = []
run_behind l (Some a) = a.run ++ record { by = l.by; to = l.at.state } ∷ []

-- the walk that is told beside settled ones
abbrev pub walk_of : Setting → List FoundWalk → Link → FoundWalk
walk_of setting walks l = record {
  at = l.at;
  cost = l.cost;
  steps = steps_behind setting l (numbered walks l.before);
  run = run_behind l (numbered walks l.before);
}

-- settled walks that are told one after another, beside those before
abbrev pub told_behind : Setting → List FoundWalk → List Link → List FoundWalk
told_behind setting walks [] = walks
told_behind setting walks (l ∷ links) = told_behind setting (walks ++ walk_of setting walks l ∷ []) links

abbrev pub told : Setting → List Link → List FoundWalk
told setting links = told_behind setting [] links

-- what a tree of walks is seen as: the setting of the product, and its walks
pub record Walks : Type 0 where
  pub setting : Setting
  pub walks : List FoundWalk

-- a walk is told beside settled ones: it extends one of them, or none, and has so many edges
pub record IsTold (setting : Setting) (walks : List FoundWalk) (l : Link) : Type 0 where
  pub before : l.before ≤ length walks
  pub edges : l.edges ≡ length (walk_of setting walks l).steps

-- each of some walks is told beside those before it
abbrev pub AreTold : Setting → List FoundWalk → List Link → Type 0
AreTold setting walks [] = Unit {0}
AreTold setting walks (l ∷ links) = IsTold setting walks l × AreTold setting (walks ++ walk_of setting walks l ∷ []) links

-- the links of a tree are told from the first on
abbrev pub IsTree : Setting → List Link → Type 0
IsTree setting links = AreTold setting [] links

-- the moves of some walks, one after another: the steps that they take, and a run
abbrev pub steps_along : Setting → List Link → List Step
steps_along setting links = flat_map (λ l. steps_by setting.network l.by l.at.node) links

abbrev pub run_along : List Link → List RunMove
run_along links = map (λ l. record { by = l.by; to = l.at.state }) links

-- these are the moves of the walk at a place, the last first
abbrev pub IsWayOf : Walks → ℕ → List Link → Type 0
IsWayOf tree place way =
    (a : FoundWalk) → slice_get tree.walks place ≡ Some a
    → (a.steps ≡ steps_along tree.setting (reverse way)) × (a.run ≡ run_along (reverse way))
