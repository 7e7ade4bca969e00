-- What it is to build an automaton behind the transitions that are there.
use Rattle.std.specs.Prelude.{◌≡◌, ℕ, zero, suc, ◌+◌, ◌-◌, List, [], ◌∷◌, ◌++◌, Result, IfOk}
use Rattle.gc_base.specs.declared.memory.Memory.{Memory}
use Rattle.gc_automata.specs.declared.transition.Transition.{Transition}
use Rattle.gc_automata.specs.Automata.{Automaton, skip}

-- its transitions, numbered from a state on, stand behind those before, and the first number behind its states is given
abbrev pub Builds : Automaton → ℕ → List Transition → List Transition → Result ℕ Memory → Type 0
Builds a from before after result = IfOk result (λ next. (next ≡ from + a.states) × (after ≡ before ++ a.transitions from))

-- into a part from the state before it, but not into the first
abbrev pub bridge : ℕ → ℕ → List Transition
bridge zero m = []
bridge (suc i) m = skip (m - 1) m ∷ []

-- a branch between a state and another
abbrev pub branch : ℕ → ℕ → Automaton → Automaton
branch from to a = record {
  states = a.states;
  transitions = λ m. skip from m ∷ a.transitions m ++ skip (m + a.states - 1) to ∷ [];
}
