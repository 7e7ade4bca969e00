-- Going from pair to pair by moves.
use Rattle.std.specs.Prelude.{◌≡◌, ℕ, zero, suc, List}
use Rattle.std.specs.List.{Contains}
use Rattle.gc_base.specs.Walks.{end_of}
use Rattle.gc_base.specs.declared.walk.Step.{Step}
use Rattle.gc_base.specs.declared.walk.Walk.{Walk}
use Rattle.gc_automata.specs.Runs.{Runs}
use Rattle.gc_prod.specs.declared.moves.Move.{Move}
use Rattle.gc_prod.specs.declared.moves.Pair.{Pair}
use Rattle.gc_prod.specs.Products.{Setting, moves}
use Rattle.gc_prod.specs.SymbolHops.{steps_by}

abbrev pub pair : ℕ → ℕ → Pair
pair node state = record { node = node; state = state }

-- the pair that a move leads to
abbrev pub target_of : Move → Pair
target_of m = pair m.node m.state

-- so many moves lead from a pair to a pair
abbrev pub Leads : Setting → ℕ → Pair → Pair → Type 0
Leads setting zero p q = p ≡ q
Leads setting (suc n) p q = (m : Move) × Contains (moves setting p.node p.state) m × Leads setting n (target_of m) q

-- a run passes a walk between the nodes of two pairs, from state to state
pub record Passed (setting : Setting) (p q : Pair) : Type 0 where
  pub walk : Walk
  pub cost : ℕ
  pub runs : Runs setting.network setting.machine.transitions p.state q.state walk cost
  pub starts : walk.start ≡ p.node
  pub ends : end_of walk ≡ q.node

-- the steps that a walk takes by a move
abbrev pub steps_of : Setting → Move → List Step
steps_of setting m = steps_by setting.network m.by m.node

-- on a way of moves from a pair to a pair, a step is taken
pub record IsTaken (setting : Setting) (p q : Pair) (s : Step) : Type 0 where
  pub before : ℕ
  pub at : Pair
  pub move : Move
  pub after : ℕ
  pub leads : Leads setting before p at
  pub among : Contains (moves setting at.node at.state) move
  pub takes : Contains (steps_of setting move) s
  pub rest : Leads setting after (target_of move) q
