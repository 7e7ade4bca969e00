-- The automaton of a regular path expression: its states are numbers from a first one on, the last of
-- which accepts.
use Rattle.std.specs.Prelude.{ℕ, ◌+◌, ◌-◌, List, [], ◌∷◌, ◌++◌}
use Rattle.gc_regx.specs.Trees.{Kind, RegexTree, ARegex, ARow, Label, Back, Any, AnyBack, Test, View, Cat, Alt, Star, none, more}
use Rattle.gc_automata.specs.declared.transition.On.{On}
use Rattle.gc_automata.specs.declared.transition.On.TheVariants as on
use Rattle.gc_automata.specs.declared.transition.Transition.{Transition}

-- how many states there are, and the transitions where they are numbered from a number on
pub record Automaton : Type 0 where
  pub states : ℕ
  pub transitions : ℕ → List Transition

abbrev pub go : ℕ → ℕ → On → Transition
go from to label = record { from = from; to = to; on = label }

abbrev pub skip : ℕ → ℕ → Transition
skip from to = go from to on.Empty

-- a symbol takes two states, with a transition between them
abbrev pub symbol : On → Automaton
symbol label = record { states = 2; transitions = λ m. go m (m + 1) label ∷ [] }

-- the states of some automata together
abbrev pub states_in : List Automaton → ℕ
states_in [] = 0
states_in (a ∷ others) = a.states + states_in others

-- automata one after another: from the last state of each to the first of the next
abbrev pub transitions_in_turn : List Automaton → ℕ → List Transition
transitions_in_turn [] m = []
transitions_in_turn (a ∷ []) m = a.transitions m
transitions_in_turn (a ∷ b ∷ others) m =
    a.transitions m ++ skip (m + a.states - 1) (m + a.states) ∷ transitions_in_turn (b ∷ others) (m + a.states)

abbrev pub in_turn : List Automaton → Automaton
in_turn parts = record { states = states_in parts; transitions = transitions_in_turn parts }

-- branches, the first of which begins at a number: into each from one state, and out of each to another
abbrev pub transitions_of_branches : ℕ → ℕ → List Automaton → ℕ → List Transition
transitions_of_branches from to [] m = []
transitions_of_branches from to (a ∷ others) m =
    skip from m ∷ a.transitions m ++ skip (m + a.states - 1) to ∷ transitions_of_branches from to others (m + a.states)

abbrev pub one_of : List Automaton → Automaton
one_of parts = record {
  states = 2 + states_in parts;
  transitions = λ m. transitions_of_branches m (m + 1 + states_in parts) parts (m + 1);
}

-- a part any number of times: into it or past it, and from its last state into it again or out
abbrev pub star_of : Automaton → Automaton
star_of a = record {
  states = 2 + a.states;
  transitions = λ m.
      skip m (m + 1) ∷ skip m (m + 1 + a.states)
      ∷ a.transitions (m + 1) ++ skip (m + a.states) (m + 1) ∷ skip (m + a.states) (m + 1 + a.states) ∷ [];
}

-- an expression has an automaton, and a row of expressions has those of each
abbrev pub AutomataOf : Kind → Type 0
AutomataOf ARegex = Automaton
AutomataOf ARow = List Automaton

unfoldable pub automaton_of : {k : Kind} → RegexTree k → AutomataOf k
automaton_of (Label l) = symbol (on.Label l)
automaton_of (Back l) = symbol (on.Back l)
automaton_of Any = symbol on.Any
automaton_of AnyBack = symbol on.AnyBack
automaton_of (Test l) = symbol (on.Test l)
automaton_of (View v) = symbol (on.View v)
automaton_of (Cat parts) = in_turn (automaton_of parts)
automaton_of (Alt parts) = one_of (automaton_of parts)
automaton_of (Star part) = star_of (automaton_of part)
automaton_of none = []
automaton_of (more part parts) = automaton_of part ∷ automaton_of parts
