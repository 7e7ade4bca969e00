-- Moves that are kept by the pair to which they lead, so that one may go back along them.
use Rattle.std.specs.Prelude.{ℕ, List, map}
use Rattle.std.specs.List.{flat_map}
use Rattle.gc_base.specs.declared.walk.Step.{Step}
use Rattle.gc_prod.specs.Groups.{Grouped, row_of}
use Rattle.gc_prod.specs.declared.moves.Move.{Move}
use Rattle.gc_prod.specs.declared.moves.Pair.{Pair}
use Rattle.gc_prod.specs.Leading.{target_of, steps_of}
use Rattle.gc_prod.specs.Products.{Setting, moves}
use Rattle.gc_reach.specs.declared.turning.Turn.{Turn}
use Rattle.gc_reach.specs.Numbering.{number_of}

-- a move with the pair that it leaves, and the number of the one to which it leads
abbrev pub turn : List ℕ → ℕ → Pair → Move → Turn
turn nodes width from m = record { number = number_of nodes width (target_of m); from = from; to = m }

-- the moves of a pair, and those of some pairs
abbrev pub turns_of : Setting → List ℕ → ℕ → Pair → List Turn
turns_of setting nodes width p = map (turn nodes width p) (moves setting p.node p.state)

abbrev pub turns : Setting → List ℕ → ℕ → List Pair → List Turn
turns setting nodes width pairs = flat_map (turns_of setting nodes width) pairs

-- the kept moves that lead to a pair
abbrev pub into : List ℕ → ℕ → Grouped Turn → Pair → List Turn
into nodes width kept q = row_of kept (number_of nodes width q)

-- the pairs that they leave
abbrev pub before : List ℕ → ℕ → Grouped Turn → Pair → List Pair
before nodes width kept q = map (λ t. t.from) (into nodes width kept q)

-- the steps that walks take by some kept moves, and by all those that lead to some pairs
abbrev pub steps_along : Setting → List Turn → List Step
steps_along setting kept = flat_map (λ t. steps_of setting t.to) kept

abbrev pub steps_into : Setting → List ℕ → ℕ → Grouped Turn → List Pair → List Step
steps_into setting nodes width kept pairs = flat_map (λ q. steps_along setting (into nodes width kept q)) pairs
