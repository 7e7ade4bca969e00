-- What the tests of ends and walks say.
use Rattle.std.proofs.Common.{◌≡◌, ℕ, ◌+◌, Bool, true, false, cond, ◌&&◌, List, [], ◌∷◌, Option, Some, None, refl}
use Rattle.gc_base.specs.declared.walk.Step.{Step}
use Rattle.gc_base.specs.declared.walk.Walk.{Walk}
use Rattle.gc_spec.specs.PropertyGraph.{Node, Edge, node_ids, is_among, is_joined, are_steps_from, is_walk}
use Rattle.gc_ppg.specs.Built.{missing_end, bad_step, bad_step_from}

none_missing : (a b : Bool) (from to : ℕ) → cond a (cond b None (Some to)) (Some from) ≡ None → (a ≡ true) × (b ≡ true)
none_missing true true from to h = (refl, refl)
none_missing true false from to h = absurd (cc)
none_missing false b from to h = absurd (cc)

-- an edge without a missing end stands between nodes
pub ends_there : (nodes : List Node) (e : Edge) → missing_end nodes e ≡ None → (is_among (node_ids nodes) e.from ≡ true) × (is_among (node_ids nodes) e.to ≡ true)
ends_there nodes e none = none_missing (is_among (node_ids nodes) e.from) (is_among (node_ids nodes) e.to) e.from e.to none

steps_there : (edges : List Edge) (node k : ℕ) (steps : List Step) → bad_step_from edges node k steps ≡ None → are_steps_from edges node steps ≡ true
steps_there edges node k [] h = refl
steps_there edges node k (step ∷ steps) h =
    elim (is_joined edges step.edge node step.node) as
    (λ b. cond b (bad_step_from edges step.node (k + 1) steps) (Some k) ≡ None → (b && are_steps_from edges step.node steps) ≡ true) [
      | true ↦ λ h. steps_there edges step.node (k + 1) steps h
      | false ↦ λ h. absurd (cc)
    ] h

-- a walk without a bad step is a walk of the graph
pub walk_there : (nodes : List Node) (edges : List Edge) (walk : Walk) → bad_step nodes edges walk ≡ None → is_walk nodes edges walk ≡ true
walk_there nodes edges walk h =
    elim (is_among (node_ids nodes) walk.start) as
    (λ b. cond b (bad_step_from edges walk.start 0 walk.steps) (Some 0) ≡ None → (b && are_steps_from edges walk.start walk.steps) ≡ true) [
      | true ↦ λ h. steps_there edges walk.start 0 walk.steps h
      | false ↦ λ h. absurd (cc)
    ] h

-- whether there is nothing
abbrev pub is_nothing : {X : Type 0} → Option X → Bool
is_nothing None = true
is_nothing (Some x) = false

steps_tested : (edges : List Edge) (node k : ℕ) (steps : List Step) → is_nothing (bad_step_from edges node k steps) ≡ are_steps_from edges node steps
steps_tested edges node k [] = refl
steps_tested edges node k (step ∷ steps) =
    elim (is_joined edges step.edge node step.node) as
    (λ b. is_nothing (cond b (bad_step_from edges step.node (k + 1) steps) (Some k)) ≡ (b && are_steps_from edges step.node steps)) [
      | true ↦ steps_tested edges step.node (k + 1) steps
      | false ↦ refl
    ]

-- a walk has a bad step just where it is no walk of the graph
pub walk_tested : (nodes : List Node) (edges : List Edge) (walk : Walk) → is_nothing (bad_step nodes edges walk) ≡ is_walk nodes edges walk
walk_tested nodes edges walk =
    elim (is_among (node_ids nodes) walk.start) as
    (λ b. is_nothing (cond b (bad_step_from edges walk.start 0 walk.steps) (Some 0)) ≡ (b && are_steps_from edges walk.start walk.steps)) [
      | true ↦ steps_tested edges walk.start 0 walk.steps
      | false ↦ refl
    ]
