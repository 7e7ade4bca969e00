-- What is tested of each move of a run.
use Rattle.std.specs.Prelude.{◌≡◌, ℕ, Bool, true, false, ◌&&◌, ◌==◌, List, ◌++◌, Option, Some, None}
use Rattle.gc_base.specs.Walks.{end_of_steps}
use Rattle.gc_base.specs.declared.walk.Step.{Step}
use Rattle.gc_automata.specs.Moves.{Network}
use Rattle.gc_prod.specs.declared.moves.By.{By}
use Rattle.gc_prod.specs.declared.moves.By.TheVariants as by
use Rattle.gc_prod.specs.declared.moves.Move.{Move}
use Rattle.gc_prod.specs.declared.moves.RunMove.{RunMove}
use Rattle.gc_prod.specs.SymbolHops.{steps_by}
use Rattle.gc_check.specs.declared.replaying.Spot.{Spot}

abbrev pub same_by : By → By → Bool
same_by by.Nothing by.Nothing = true
same_by (by.Edge e) (by.Edge f) = e == f
same_by (by.Segment i) (by.Segment j) = i == j
same_by a b = false

-- whether a move goes by what a run says, to the state that it says and to a node
abbrev pub is_move : RunMove → ℕ → Move → Bool
is_move r to m = (m.state == r.to) && (m.node == to) && same_by m.by r.by

-- a walk goes from a node by something to a node, along the first of some steps, and the others are left
pub record GoesBy (network : Network) (by : By) (node : ℕ) (steps : List Step) (to : ℕ) (left : List Step) : Type 0 where
  pub whole : steps ≡ steps_by network by to ++ left
  pub ends : end_of_steps node (steps_by network by to) ≡ to

-- where it goes so, or that it goes nowhere
abbrev pub IsAdvance : Network → By → ℕ → List Step → Option Spot → Type 0
IsAdvance network by node steps None = (to : ℕ) (left : List Step) → GoesBy network by node steps to left → ⊥
IsAdvance network by node steps (Some spot) = GoesBy network by node steps spot.node spot.left.now
