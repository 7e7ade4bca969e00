-- Walks of runs of the automaton of an expression are those that conform to it.
use Rattle.std.proofs.Common.{ℕ, zero, suc, ◌-◌, List, sym, subst}
use Rattle.std.specs.List.{Contains}
use Rattle.std.proofs.lemmas.List.Sorted.{Contains-permutation, IsPermutation-sym}
use Rattle.gc_base.specs.declared.walk.Walk.{Walk}
use Rattle.gc_automata.specs.Automata.{automaton_of}
use Rattle.gc_automata.specs.Conformance.{Conforms}
use Rattle.gc_automata.specs.Machines.{IsAutomatonOf}
use Rattle.gc_automata.specs.Moves.{Network, IsNetwork}
use Rattle.gc_automata.specs.Runs.{RunsIn, Runs}
use Rattle.gc_automata.specs.declared.transition.Transition.{Transition}
use Rattle.gc_prod.specs.Products.{Setting}
use Rattle.gc_regx.specs.Expressions.{HasParts}
use Rattle.gc_regx.specs.Trees.{RegexTree, ARegex}
use Rattle.gc_search.specs.FirstWalks.{IsRun}

-- a run along some transitions is one along others that have them all
runs_among : (network : Network) (ts us : List Transition) → ((t : Transition) → Contains ts t → Contains us t) → (n from to : ℕ) (w : Walk) (c : ℕ)
    → RunsIn network ts n from to w c → RunsIn network us n from to w c
runs_among network ts us all zero from to w c run = run
runs_among network ts us all (suc n) from to w c run = record {
  transition = run.transition;
  among = all run.transition run.among;
  leaves = run.leaves;
  first = run.first;
  second = run.second;
  first_cost = run.first_cost;
  second_cost = run.second_cost;
  early = run.early;
  late = runs_among network ts us all n run.transition.to to run.second run.second_cost run.late;
  meets = run.meets;
  whole = run.whole;
  cost = run.cost;
}

-- the run law
abbrev pub Conform : Type 0
Conform = (network : Network) → IsNetwork network → (tree : RegexTree ARegex) → HasParts tree → (w : Walk) (c : ℕ)
    → Runs network ((automaton_of tree).transitions 0) 0 ((automaton_of tree).states - 1) w c → Conforms network tree w c

abbrev pub Pass : Type 0
Pass = (network : Network) → IsNetwork network → (tree : RegexTree ARegex) → (w : Walk) (c : ℕ)
    → Conforms network tree w c → Runs network ((automaton_of tree).transitions 0) 0 ((automaton_of tree).states - 1) w c

module _ (setting : Setting) (law : IsNetwork setting.network) (tree : RegexTree ARegex) (is : IsAutomatonOf tree setting.machine) where
  pub run_conforms : Conform → HasParts tree → (w : Walk) (c : ℕ) → IsRun setting w c → Conforms setting.network tree w c
  run_conforms conform parts w c run =
      conform setting.network law tree parts w c (
        run.0,
        subst (λ n. RunsIn setting.network ((automaton_of tree).transitions 0) run.0 0 (n - 1) w c) is.states
            (runs_among setting.network setting.machine.transitions ((automaton_of tree).transitions 0)
            (λ t. Contains-permutation setting.machine.transitions ((automaton_of tree).transitions 0) t (IsPermutation-sym ((automaton_of tree).transitions 0) setting.machine.transitions is.exact))
            run.0 0 (setting.machine.states - 1) w c run.1),
      )

  pub conforms_run : Pass → (w : Walk) (c : ℕ) → Conforms setting.network tree w c → IsRun setting w c
  conforms_run pass w c h =
      let run = pass setting.network law tree w c h in (
        run.0,
        subst (λ n. RunsIn setting.network setting.machine.transitions run.0 0 (n - 1) w c) (sym is.states)
            (runs_among setting.network ((automaton_of tree).transitions 0) setting.machine.transitions
            (λ t. Contains-permutation ((automaton_of tree).transitions 0) setting.machine.transitions t is.exact)
            run.0 0 ((automaton_of tree).states - 1) w c run.1),
      )
