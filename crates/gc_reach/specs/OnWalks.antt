-- What lies on walks.
use Rattle.std.specs.Prelude.{◌≡◌, ℕ, ◌-◌, List, ◌∷◌, map}
use Rattle.std.specs.List.{Contains}
use Rattle.gc_base.specs.Walks.{end_of}
use Rattle.gc_base.specs.declared.walk.Walk.{Walk}
use Rattle.gc_regx.specs.Trees.{RegexTree, ARegex}
use Rattle.gc_automata.specs.Conformance.{Conforms}
use Rattle.gc_automata.specs.Moves.{Network}
use Rattle.gc_automata.specs.Runs.{Runs}
use Rattle.gc_prod.specs.Products.{Setting}

-- the nodes along a walk, its first node among them
abbrev pub nodes_of : Walk → List ℕ
nodes_of walk = walk.start ∷ map (λ step. step.node) walk.steps

-- among what some walk has, that a run from the first state to the last passes from a node to a node
pub record IsOnRun (parts_of : Walk → List ℕ) (setting : Setting) (source target : ℕ) (id : ℕ) : Type 0 where
  pub walk : Walk
  pub cost : ℕ
  pub runs : Runs setting.network setting.machine.transitions 0 (setting.machine.states - 1) walk cost
  pub starts : walk.start ≡ source
  pub ends : end_of walk ≡ target
  pub among : Contains (parts_of walk) id

-- among what some walk has, that conforms to an expression, from a node to a node
pub record IsOnWalk (parts_of : Walk → List ℕ) (network : Network) (tree : RegexTree ARegex) (source target : ℕ) (id : ℕ) : Type 0 where
  pub walk : Walk
  pub cost : ℕ
  pub conforms : Conforms network tree walk cost
  pub starts : walk.start ≡ source
  pub ends : end_of walk ≡ target
  pub among : Contains (parts_of walk) id
