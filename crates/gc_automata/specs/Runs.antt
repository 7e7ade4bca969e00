-- Runs of an automaton: moves along transitions, each from where the one before ended.
use Rattle.std.specs.Prelude.{◌≡◌, ℕ, zero, suc, ◌+◌, List}
use Rattle.std.specs.List.{Contains}
use Rattle.gc_base.specs.Walks.{end_of}
use Rattle.gc_base.specs.declared.walk.Walk.{Walk}
use Rattle.gc_automata.specs.declared.transition.Transition.{Transition}
use Rattle.gc_automata.specs.Conformance.{Fact}
use Rattle.gc_automata.specs.Moves.{Network, Goes, Stays, joined}

-- a move from a state along one of some transitions, and what is so behind it from the state that it leads to
pub record Move (network : Network) (transitions : List Transition) (Behind : ℕ → Fact) (state : ℕ) (w : Walk) (c : ℕ) : Type 0 where
  pub transition : Transition
  pub among : Contains transitions transition
  pub leaves : transition.from ≡ state
  pub first : Walk
  pub second : Walk
  pub first_cost : ℕ
  pub second_cost : ℕ
  pub early : Goes network transition.on first first_cost
  pub late : Behind transition.to second second_cost
  pub meets : end_of first ≡ second.start
  pub whole : w ≡ joined first second
  pub cost : c ≡ first_cost + second_cost

-- so many moves from a state to a state pass a walk at a cost
abbrev pub RunsIn : Network → List Transition → ℕ → ℕ → ℕ → Fact
RunsIn network transitions zero from to w c = (from ≡ to) × Stays network w c
RunsIn network transitions (suc n) from to w c = Move network transitions (λ state. RunsIn network transitions n state to) from w c

-- a run from a state to a state passes a walk at a cost
abbrev pub Runs : Network → List Transition → ℕ → ℕ → Fact
Runs network transitions from to w c = (n : ℕ) × RunsIn network transitions n from to w c
