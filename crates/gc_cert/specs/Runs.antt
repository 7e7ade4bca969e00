-- Runs of documents: lists of what their moves go by, and of the states that they go to.
use Rattle.std.specs.Prelude.{◌≡◌, ℕ, List, [], ◌∷◌, ◌++◌, slice_get, sum_by}
use Rattle.std.specs.List.{Contains}
use Rattle.std.specs.Option.{option_map_or}
use Rattle.gc_base.specs.declared.walk.Step.{Step}
use Rattle.gc_automata.specs.Moves.{Segment}
use Rattle.gc_prod.specs.declared.moves.By.{By}
use Rattle.gc_prod.specs.declared.moves.By.TheVariants as by
use Rattle.gc_prod.specs.declared.moves.Move.{Move}
use Rattle.gc_prod.specs.declared.moves.Pair.{Pair}
use Rattle.gc_prod.specs.declared.moves.RunMove.{RunMove}
use Rattle.gc_prod.specs.Leading.{target_of, steps_of}
use Rattle.gc_prod.specs.Products.{Setting, moves}

-- a run is a list of moves from a pair to a pair, one after another, which pass exactly some steps
abbrev pub Follows : Setting → Pair → List RunMove → Pair → List Step → Type 0
Follows setting p [] q steps = (p ≡ q) × (steps ≡ [])
Follows setting p (r ∷ run) q steps =
    (m : Move) × Contains (moves setting p.node p.state) m × (r ≡ record { by = m.by; to = m.state })
    × (behind : List Step) × (steps ≡ steps_of setting m ++ behind) × Follows setting (target_of m) run q behind

-- what a move costs: nothing where it stays, 1 along an edge, and along a segment what the segment does
abbrev pub cost_by : List Segment → By → ℕ
cost_by segments by.Nothing = 0
cost_by segments (by.Edge e) = 1
cost_by segments (by.Segment i) = option_map_or (λ s. s.cost) (slice_get segments i) 0

-- what the moves of a run cost together
abbrev pub run_cost : List Segment → List RunMove → ℕ
run_cost segments run = sum_by (λ r. cost_by segments r.by) run
