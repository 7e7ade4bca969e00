-- The first walks between two nodes.
use Rattle.std.specs.Prelude.{◌≡◌, ◌⊎◌, ℕ, ◌-◌, ◌≤◌, List, length}
use Rattle.std.specs.declared.cmp.Ordering.{Ordering}
use Rattle.std.specs.declared.cmp.Ordering.TheVariants.{Less}
use Rattle.std.specs.List.{Contains}
use Rattle.gc_automata.specs.Runs.{Runs}
use Rattle.gc_base.specs.Ascending.{Ascends}
use Rattle.gc_base.specs.Walks.{end_of, walk_order}
use Rattle.gc_base.specs.declared.walk.Walk.{Walk}
use Rattle.gc_prod.specs.Products.{Setting}

-- a walk with its cost
pub record CostedWalk : Type 0 where
  pub walk : Walk
  pub cost : ℕ

-- by cost, then by the number of edges, then by the edges one after another
abbrev pub costed_order : CostedWalk → CostedWalk → Ordering
costed_order a b = walk_order a.cost a.walk b.cost b.walk

-- a walk that is so at a cost goes from a node to a node, and its cost is the least at which it is so
pub record IsLeast (IsSo : Walk → ℕ → Type 0) (source target : ℕ) (w : CostedWalk) : Type 0 where
  pub starts : w.walk.start ≡ source
  pub ends : end_of w.walk ≡ target
  pub is : IsSo w.walk w.cost
  pub least : (c : ℕ) → IsSo w.walk c → w.cost ≤ c

-- the first k of the walks from a node to a node that are so: such walks, each once and in order; any other comes behind all of
-- them, and there is none where they are fewer than k
pub record AreFirst (IsSo : Walk → ℕ → Type 0) (source target : ℕ) (k : ℕ) (walks : List CostedWalk) : Type 0 where
  pub ascend : Ascends costed_order walks
  pub few : length walks ≤ k
  pub sound : (w : CostedWalk) → Contains walks w → IsLeast IsSo source target w
  pub complete : (w : CostedWalk) → IsLeast IsSo source target w
      → Contains walks w ⊎ ((length walks ≡ k) × ((other : CostedWalk) → Contains walks other → costed_order other w ≡ Less))

-- a run passes a walk at a cost from the first state to a state, and to the last one
abbrev pub IsRunTo : Setting → ℕ → Walk → ℕ → Type 0
IsRunTo setting state w c = Runs setting.network setting.machine.transitions 0 state w c

abbrev pub IsRun : Setting → Walk → ℕ → Type 0
IsRun setting w c = IsRunTo setting (setting.machine.states - 1) w c
