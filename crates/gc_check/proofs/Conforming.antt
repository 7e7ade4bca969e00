-- Walks of runs of the automaton of an expression are those that conform to it.
use Rattle.std.proofs.Common.{ℕ, zero, suc, ◌-◌, List, sym, subst}
use Rattle.std.specs.List.{Contains}
use Rattle.std.proofs.lemmas.List.Sorted.{Contains-permutation, IsPermutation-sym}
use Rattle.gc_base.specs.declared.walk.Walk.{Walk}
use Rattle.gc_automata.specs.Automata.{automaton_of}
use Rattle.gc_automata.specs.Conformance.{Conforms}
use Rattle.gc_automata.specs.Machines.{IsAutomatonOf, Machine}
use Rattle.gc_automata.specs.Moves.{Network, IsNetwork}
use Rattle.gc_automata.specs.Runs.{RunsIn, Runs}
use Rattle.gc_automata.specs.declared.transition.Transition.{Transition}
use Rattle.gc_automata.proofs.Entering.{conforming_runs}
use Rattle.gc_automata.proofs.Leaving.{runs_conform}
use Rattle.gc_regx.specs.Expressions.{HasParts}
use Rattle.gc_regx.specs.Trees.{RegexTree, ARegex}

-- a run along some transitions is one along others that have them all
runs_among : (network : Network) (ts us : List Transition) → ((t : Transition) → Contains ts t → Contains us t) → (n from to : ℕ) (w : Walk) (c : ℕ)
    → RunsIn network ts n from to w c → RunsIn network us n from to w c
runs_among network ts us all zero from to w c run = run
runs_among network ts us all (suc n) from to w c run = record {
  transition = run.transition;
  among = all run.transition run.among;
  leaves = run.leaves;
  first = run.first;
  second = run.second;
  first_cost = run.first_cost;
  second_cost = run.second_cost;
  early = run.early;
  late = runs_among network ts us all n run.transition.to to run.second run.second_cost run.late;
  meets = run.meets;
  whole = run.whole;
  cost = run.cost;
}

-- a run passes a walk at a cost from the first state of a machine to the last
abbrev pub IsRun : Network → Machine → Walk → ℕ → Type 0
IsRun network machine w c = Runs network machine.transitions 0 (machine.states - 1) w c

module _ (network : Network) (law : IsNetwork network) (machine : Machine) (tree : RegexTree ARegex) (is : IsAutomatonOf tree machine) where
  abbrev own : List Transition
  own = (automaton_of tree).transitions 0

  pub run_conforms : HasParts tree → (w : Walk) (c : ℕ) → IsRun network machine w c → Conforms network tree w c
  run_conforms parts w c run =
      runs_conform network law tree parts w c (
        run.0,
        subst (λ n. RunsIn network own run.0 0 (n - 1) w c) is.states
            (runs_among network machine.transitions own
            (λ t. Contains-permutation machine.transitions own t (IsPermutation-sym own machine.transitions is.exact))
            run.0 0 (machine.states - 1) w c run.1),
      )

  pub conforms_run : (w : Walk) (c : ℕ) → Conforms network tree w c → IsRun network machine w c
  conforms_run w c h =
      let run = conforming_runs network law tree w c h in (
        run.0,
        subst (λ n. RunsIn network machine.transitions run.0 0 (n - 1) w c) (sym is.states)
            (runs_among network own machine.transitions (λ t. Contains-permutation own machine.transitions t is.exact)
            run.0 0 ((automaton_of tree).states - 1) w c run.1),
      )
