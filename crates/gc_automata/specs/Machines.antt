-- What an automaton in memory is.
use Rattle.std.specs.Prelude.{◌≡◌, ℕ, ◌≤◌, ◌<◌, List, ⊤}
use Rattle.std.specs.declared.cmp.Ordering.{Ordering}
use Rattle.std.specs.Ordering.{nat_cmp, on, then_cmp}
use Rattle.std.specs.List.Sorted.{IsPermutation, IsSorted}
use Rattle.gc_regx.specs.Trees.{RegexTree, ARegex}
use Rattle.gc_automata.specs.declared.transition.Transition.{Transition}
use Rattle.gc_automata.specs.declared.automaton.RegexRefusal.{RegexRefusal}
use Rattle.gc_automata.specs.declared.automaton.RegexRefusal.TheVariants.{TooManyStates, Memory}
use Rattle.gc_automata.specs.Automata.{automaton_of}

-- how many states there are, and the transitions
pub record Machine : Type 0 where
  pub states : ℕ
  pub transitions : List Transition

-- transitions are ordered by the state that they leave, and then by the state that they reach
abbrev pub transition_order : Transition → Transition → Ordering
transition_order = then_cmp (on (λ t. t.from) nat_cmp) (on (λ t. t.to) nat_cmp)

-- the automaton of an expression, of at most 1,024 states, with its transitions in order
pub record IsAutomatonOf (tree : RegexTree ARegex) (machine : Machine) : Type 0 where
  pub states : machine.states ≡ (automaton_of {k = ARegex} tree).states
  pub few : machine.states ≤ 1024
  pub exact : IsPermutation ((automaton_of {k = ARegex} tree).transitions 0) machine.transitions
  pub ascend : IsSorted transition_order machine.transitions

-- an expression is refused where its automaton would have more states
abbrev pub IsRegexRefusal : RegexTree ARegex → RegexRefusal → Type 0
IsRegexRefusal tree TooManyStates = 1024 < (automaton_of {k = ARegex} tree).states
IsRegexRefusal tree Memory = ⊤
