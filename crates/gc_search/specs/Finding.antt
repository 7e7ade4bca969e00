-- What a search finds.
use Rattle.std.specs.Prelude.{◌≡◌, ℕ, ◌+◌, ◌<◌, ◌≤◌, ◌^◌, List, [], ◌∷◌, ◌++◌, map, length, slice_get, Option, Some, None}
use Rattle.std.specs.List.{Contains}
use Rattle.std.specs.Option.{option_map}
use Rattle.gc_base.specs.declared.walk.Step.{Step}
use Rattle.gc_prod.specs.declared.moves.Move.{Move}
use Rattle.gc_prod.specs.declared.moves.Pair.{Pair}
use Rattle.gc_prod.specs.declared.moves.RunMove.{RunMove}
use Rattle.gc_prod.specs.Leading.{Passed, pair, target_of, steps_of}
use Rattle.gc_prod.specs.Products.{Setting, moves}
use Rattle.gc_search.specs.Arrivals.{FoundWalk, arrivals_at}
use Rattle.gc_search.specs.FirstWalks.{CostedWalk}

-- all that is found from a source: the number of the last state, and walks by the pair at which they arrive
pub record Finding : Type 0 where
  pub source : ℕ
  pub last : ℕ
  pub walks : List FoundWalk

abbrev pub costed : ℕ → FoundWalk → CostedWalk
costed source a = record { walk = record { start = source; steps = a.steps }; cost = a.cost }

-- the walks to a target, and their runs, in order
abbrev pub arrivals_to : Finding → ℕ → List FoundWalk
arrivals_to found target = arrivals_at found.walks (pair target found.last)

abbrev pub walks_to : Finding → ℕ → List CostedWalk
walks_to found target = map (costed found.source) (arrivals_to found target)

abbrev pub runs_to : Finding → ℕ → List (List RunMove)
runs_to found target = map (λ a. a.run) (arrivals_to found target)

-- the least cost at which a pair is reached, if it is
abbrev pub potential_of : Finding → Pair → Option ℕ
potential_of found q = option_map (λ a. a.cost) (slice_get (arrivals_at found.walks q) 0)

-- moves of a product lead from a pair to a pair, one after another, along some steps and at a cost
abbrev pub Follows : Setting → Pair → List RunMove → Pair → List Step → ℕ → Type 0
Follows setting p [] q steps cost = (p ≡ q) × (steps ≡ []) × (cost ≡ 0)
Follows setting p (r ∷ run) q steps cost =
    (m : Move) × Contains (moves setting p.node p.state) m × (r ≡ record { by = m.by; to = m.state })
    × (behind : List Step) × (left : ℕ) × (steps ≡ steps_of setting m ++ behind) × (cost ≡ m.cost + left) × Follows setting (target_of m) run q behind left

-- a walk that is found is passed by its run, from the source on and at its cost
abbrev pub IsFollowed : Setting → ℕ → FoundWalk → Type 0
IsFollowed setting source a = Follows setting (pair source 0) a.run a.at a.steps a.cost

-- a cost is the least at which a run passes a walk from the source to a pair, and there is none where no run does
pub record IsLeastCost (setting : Setting) (source : ℕ) (q : Pair) (cost : ℕ) : Type 0 where
  pub some : Passed setting (pair source 0) q
  pub reached : some.cost ≡ cost
  pub least : (other : Passed setting (pair source 0) q) → cost ≤ other.cost

abbrev pub IsPotential : Setting → ℕ → Pair → Option ℕ → Type 0
IsPotential setting source q None = Passed setting (pair source 0) q → ⊥
IsPotential setting source q (Some cost) = IsLeastCost setting source q cost

-- no pair has too many walks to be numbered
abbrev pub AreFew : List FoundWalk → Type 0
AreFew walks = (q : Pair) → length (arrivals_at walks q) < 2 ^ 32
