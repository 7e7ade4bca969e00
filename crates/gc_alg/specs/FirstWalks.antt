-- The first walks between two nodes that conform to an expression.
use Rattle.std.specs.Prelude.{◌≡◌, ◌⊎◌, ℕ, ◌≤◌, List, length}
use Rattle.std.specs.declared.cmp.Ordering.{Ordering}
use Rattle.std.specs.declared.cmp.Ordering.TheVariants.{Less}
use Rattle.std.specs.List.{Contains}
use Rattle.gc_automata.specs.Conformance.{Conforms}
use Rattle.gc_automata.specs.Moves.{Network}
use Rattle.gc_base.specs.Ascending.{Ascends}
use Rattle.gc_base.specs.Walks.{end_of, walk_order}
use Rattle.gc_base.specs.declared.walk.Walk.{Walk}
use Rattle.gc_regx.specs.Trees.{RegexTree, ARegex}

-- what walks are asked for: on a network, by an expression, from a node to a node
pub record Search : Type 0 where
  pub network : Network
  pub tree : RegexTree ARegex
  pub start : ℕ
  pub target : ℕ

-- a walk with its cost
pub record CostedWalk : Type 0 where
  pub walk : Walk
  pub cost : ℕ

-- by cost, then by the number of edges, then by the edges one after another
abbrev pub costed_order : CostedWalk → CostedWalk → Ordering
costed_order a b = walk_order a.cost a.walk b.cost b.walk

-- a walk goes from the start to the target and conforms, and its cost is the least at which it does
pub record IsConforming (s : Search) (w : CostedWalk) : Type 0 where
  pub starts : w.walk.start ≡ s.start
  pub ends : end_of w.walk ≡ s.target
  pub conforms : Conforms s.network s.tree w.walk w.cost
  pub least : (c : ℕ) → Conforms s.network s.tree w.walk c → w.cost ≤ c

-- some walk conforms
pub record IsReached (s : Search) : Type 0 where
  pub walk : Walk
  pub cost : ℕ
  pub starts : walk.start ≡ s.start
  pub ends : end_of walk ≡ s.target
  pub conforms : Conforms s.network s.tree walk cost

-- the first k: conforming walks, each once and in order; any other comes behind all of them, and there is none where they are
-- fewer than k
pub record AreFirst (s : Search) (k : ℕ) (walks : List CostedWalk) : Type 0 where
  pub ascend : Ascends costed_order walks
  pub few : length walks ≤ k
  pub sound : (w : CostedWalk) → Contains walks w → IsConforming s w
  pub complete : (w : CostedWalk) → IsConforming s w
      → Contains walks w ⊎ ((length walks ≡ k) × ((other : CostedWalk) → Contains walks other → costed_order other w ≡ Less))
