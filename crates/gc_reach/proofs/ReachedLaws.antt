-- The nodes of all pairs of a state are those to which runs lead, and so walks that conform.
use Rattle.std.proofs.Common.{◌≡◌, ℕ, zero, suc, ◌-◌, Bool, true, false, ◌||◌, ◌==◌, List, [], ◌∷◌, refl, sym, subst, arith}
use Rattle.std.specs.Cmp.{nat_cmp_total}
use Rattle.std.specs.List.{Contains, filter}
use Rattle.std.specs.Ordering.{nat_cmp}
use Rattle.std.proofs.lemmas.List.Sorted.{Contains-permutation, IsPermutation-sym}
use Rattle.std.proofs.lemmas.Bool.Decides.{nat_tests}
use Rattle.gc_base.specs.Ascending.{Ascends}
use Rattle.gc_base.specs.declared.walk.Walk.{Walk}
use Rattle.gc_base.proofs.Search.{AllByRecursion-weaker}
use Rattle.gc_base.proofs.SetLaws.{Ascends-filter}
use Rattle.gc_spec.specs.PropertyGraph.{is_among}
use Rattle.gc_automata.specs.Automata.{automaton_of}
use Rattle.gc_automata.specs.Conformance.{Conforms}
use Rattle.gc_automata.specs.Machines.{IsAutomatonOf}
use Rattle.gc_automata.specs.Moves.{Network, IsNetwork, IsThere}
use Rattle.gc_automata.specs.Runs.{RunsIn, Runs}
use Rattle.gc_automata.specs.declared.transition.Transition.{Transition}
use Rattle.gc_prod.specs.declared.moves.Pair.{Pair}
use Rattle.gc_prod.specs.Leading.{Leads, Passed, pair}
use Rattle.gc_prod.specs.Products.{Setting}
use Rattle.gc_prod.proofs.BundleLaws.{all_from}
use Rattle.gc_prod.proofs.LeadLaws.{run_leads, leads_run}
use Rattle.gc_prod.proofs.Members.{here, there, in_filter, from_filter}
use Rattle.gc_prod.proofs.Networks.{among_all}
use Rattle.gc_regx.specs.Expressions.{HasParts}
use Rattle.gc_regx.specs.Trees.{RegexTree, ARegex}
use Rattle.gc_reach.specs.Exploring.{AreAll, IsLed, targets}
use Rattle.gc_reach.specs.Marking.{has_pair}
use Rattle.gc_reach.specs.OnWalks.{IsOnRun, IsOnWalk}
use Rattle.gc_reach.specs.Reached.{AreThose, IsReached}
use Rattle.gc_reach.proofs.FoundLaws.{complete, led_leads, leads_led}
use Rattle.gc_reach.proofs.VisitLaws.{has_contains}

eqb_same : (a b : ℕ) → (a == b) ≡ true → a ≡ b
eqb_same a b h = grind (arith, nat_tests)

-- a number that is among some by the test is one of them
among_is : (nodes : List ℕ) (id : ℕ) → is_among nodes id ≡ true → Contains nodes id
among_is [] id h = cc
among_is (x ∷ nodes) id h = by (among_is nodes id) (x == id) refl h
  where
    by : (is_among nodes id ≡ true → Contains nodes id) → (b : Bool) → (x == id) ≡ b → (b || is_among nodes id) ≡ true → Contains (x ∷ nodes) id
    by next true e k = subst (λ y. Contains (x ∷ nodes) y) (eqb_same x id e) (here x nodes)
    by next false e k = there x nodes id (next k)

module _ (setting : Setting) (law : IsNetwork setting.network) (nodes : List ℕ) (source : ℕ) (pairs : List Pair) (all : AreAll (targets setting) nodes (pair source 0) pairs) where
  abbrev pub IsPassed : ℕ → ℕ → Type 0
  IsPassed state target = Passed setting (pair source 0) (pair target state)

  -- a marked pair is passed
  pub passed : (state target : ℕ) → IsThere setting.network source → has_pair pairs (pair target state) ≡ true → IsPassed state target
  passed state target there h =
      let led = among_all (IsLed (targets setting) (pair source 0)) pairs (pair target state) all.found.sound (has_contains pairs (pair target state) h) in
      let run = leads_run setting law led.0 (pair source 0) (pair target state) there (led_leads setting led.0 (pair source 0) (pair target state) led.1) in
      record { walk = run.walk; cost = run.cost; runs = (led.0, run.runs); starts = run.starts; ends = run.ends }

  -- and a pair that is passed is marked
  pub marked : (state target : ℕ) → IsPassed state target → has_pair pairs (pair target state) ≡ true
  marked state target p =
      let leads = run_leads setting p.runs.0 0 state p.walk p.cost p.runs.1 in
      let from : Leads setting p.runs.0 (pair source 0) (pair target state) =
      subst (λ v. Leads setting p.runs.0 (pair v 0) (pair target state)) p.starts (subst (λ v. Leads setting p.runs.0 (pair p.walk.start 0) (pair v state)) p.ends leads) in
      complete (targets setting) nodes (pair source 0) pairs all p.runs.0 (pair source 0) (pair target state) all.found.start (leads_led setting p.runs.0 (pair source 0) (pair target state) from)

  marked_there : (state target : ℕ) → has_pair pairs (pair target state) ≡ true → is_among nodes target ≡ true
  marked_there state target h = among_all (λ (q : Pair). is_among nodes q.node ≡ true) pairs (pair target state) all.found.there (has_contains pairs (pair target state) h)

  pub those_passed : (state : ℕ) → IsThere setting.network source → Ascends nat_cmp nodes → AreThose (IsPassed state) (filter (λ node. has_pair pairs (pair node state)) nodes)
  those_passed state begins up =
      let test = λ (node : ℕ). has_pair pairs (pair node state) in
      record {
        ascend = Ascends-filter nat_cmp nat_cmp_total test nodes up;
        sound = all_from (IsPassed state) (filter test nodes) (λ id k. passed state id begins (from_filter test nodes id k).passes);
        complete = λ id p.
            let h = marked state id p in
            in_filter test nodes id (record { among = among_is nodes id (marked_there state id h); passes = h });
      }

-- those that are so are those that are so in another way
pub those_other : (P Q : ℕ → Type 0) (ids : List ℕ) → ((id : ℕ) → P id → Q id) → ((id : ℕ) → Q id → P id) → AreThose P ids → AreThose Q ids
those_other P Q ids forth back those = record {
  ascend = those.ascend;
  sound = AllByRecursion-weaker P Q forth ids those.sound;
  complete = λ id q. those.complete id (back id q);
}

-- a run along some transitions is one along others that have them all
runs_among : (network : Network) (ts us : List Transition) → ((t : Transition) → Contains ts t → Contains us t) → (n from to : ℕ) (w : Walk) (c : ℕ)
    → RunsIn network ts n from to w c → RunsIn network us n from to w c
runs_among network ts us all zero from to w c run = run
runs_among network ts us all (suc n) from to w c run = record {
  transition = run.transition;
  among = all run.transition run.among;
  leaves = run.leaves;
  first = run.first;
  second = run.second;
  first_cost = run.first_cost;
  second_cost = run.second_cost;
  early = run.early;
  late = runs_among network ts us all n run.transition.to to run.second run.second_cost run.late;
  meets = run.meets;
  whole = run.whole;
  cost = run.cost;
}

-- the run law
abbrev pub Conform : Type 0
Conform = (network : Network) → IsNetwork network → (tree : RegexTree ARegex) → HasParts tree → (w : Walk) (c : ℕ)
    → Runs network ((automaton_of tree).transitions 0) 0 ((automaton_of tree).states - 1) w c → Conforms network tree w c

abbrev pub Pass : Type 0
Pass = (network : Network) → IsNetwork network → (tree : RegexTree ARegex) → (w : Walk) (c : ℕ)
    → Conforms network tree w c → Runs network ((automaton_of tree).transitions 0) 0 ((automaton_of tree).states - 1) w c

module _ (setting : Setting) (law : IsNetwork setting.network) (tree : RegexTree ARegex) (is : IsAutomatonOf tree setting.machine) where
  -- a walk that a run passes from the first state to the last conforms, and the other way
  pub run_conforms : Conform → HasParts tree → (w : Walk) (c : ℕ) → Runs setting.network setting.machine.transitions 0 (setting.machine.states - 1) w c → Conforms setting.network tree w c
  run_conforms conform parts w c run =
      conform setting.network law tree parts w c (
        run.0,
        subst (λ n. RunsIn setting.network ((automaton_of tree).transitions 0) run.0 0 (n - 1) w c) is.states
            (runs_among setting.network setting.machine.transitions ((automaton_of tree).transitions 0)
            (λ t. Contains-permutation setting.machine.transitions ((automaton_of tree).transitions 0) t (IsPermutation-sym ((automaton_of tree).transitions 0) setting.machine.transitions is.exact))
            run.0 0 (setting.machine.states - 1) w c run.1),
      )

  pub conforms_run : Pass → (w : Walk) (c : ℕ) → Conforms setting.network tree w c → Runs setting.network setting.machine.transitions 0 (setting.machine.states - 1) w c
  conforms_run pass w c h =
      let run = pass setting.network law tree w c h in (
        run.0,
        subst (λ n. RunsIn setting.network setting.machine.transitions run.0 0 (n - 1) w c) (sym is.states)
            (runs_among setting.network ((automaton_of tree).transitions 0) setting.machine.transitions
            (λ t. Contains-permutation ((automaton_of tree).transitions 0) setting.machine.transitions t is.exact)
            run.0 0 ((automaton_of tree).states - 1) w c run.1),
      )

  module _ (source target : ℕ) where
    pub passed_conforms : Conform → HasParts tree → Passed setting (pair source 0) (pair target (setting.machine.states - 1)) → IsReached setting.network tree source target
    passed_conforms conform parts p = record { walk = p.walk; cost = p.cost; conforms = run_conforms conform parts p.walk p.cost p.runs; starts = p.starts; ends = p.ends }

    pub conforms_passed : Pass → IsReached setting.network tree source target → Passed setting (pair source 0) (pair target (setting.machine.states - 1))
    conforms_passed pass r = record { walk = r.walk; cost = r.cost; runs = conforms_run pass r.walk r.cost r.conforms; starts = r.starts; ends = r.ends }

    -- what lies on the walks of runs lies on those that conform, and the other way
    module _ (parts_of : Walk → List ℕ) (id : ℕ) where
      pub on_run_walk : Conform → HasParts tree → IsOnRun parts_of setting source target id → IsOnWalk parts_of setting.network tree source target id
      on_run_walk conform parts p = record { walk = p.walk; cost = p.cost; conforms = run_conforms conform parts p.walk p.cost p.runs; starts = p.starts; ends = p.ends; among = p.among }

      pub on_walk_run : Pass → IsOnWalk parts_of setting.network tree source target id → IsOnRun parts_of setting source target id
      on_walk_run pass r = record { walk = r.walk; cost = r.cost; runs = conforms_run pass r.walk r.cost r.conforms; starts = r.starts; ends = r.ends; among = r.among }
