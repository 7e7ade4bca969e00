-- Every walk that conforms is passed by a run.
use Rattle.std.proofs.Common.{◌≡◌, ℕ, zero, suc, ◌+◌, ◌-◌, ◌<◌, ◌≤◌, ◌⊎◌, inl, inr, List, [], ◌∷◌, ◌++◌, length, refl, sym, ap, subst, ◌∙◌, arith}
use Rattle.std.specs.List.{Contains}
use Rattle.gc_base.specs.Walks.{end_of}
use Rattle.gc_base.specs.declared.walk.Walk.{Walk}
use Rattle.gc_regx.specs.Trees.{Kind, RegexTree, ARegex, ARow, Label, Back, Any, AnyBack, Test, View, Cat, Alt, Star, none, more}
use Rattle.gc_automata.specs.declared.transition.On.{On}
use Rattle.gc_automata.specs.declared.transition.On.TheVariants as on
use Rattle.gc_automata.specs.declared.transition.Transition.{Transition}
use Rattle.gc_automata.specs.Moves.{Network, IsNetwork, IsThere, Goes, Stays, joined, stay}
use Rattle.gc_automata.specs.Conformance.{Fact, Facts, Follow, InTurn, OneOf, Moving, Turns, conforms, Conforms}
use Rattle.gc_automata.specs.Automata.{Automaton, AutomataOf, go, skip, symbol, states_in, transitions_in_turn, in_turn, transitions_of_branches, one_of, star_of, automaton_of}
use Rattle.gc_automata.specs.Runs.{Move, RunsIn, Runs}
use Rattle.gc_automata.proofs.Inclusion.{Includes, includes_itself, includes_front, includes_back, includes_tail, includes_first}
use Rattle.gc_automata.proofs.Lawful.{IsLawful, AreLawful, Lawful, conforms_lawful, goes_lawful, turns_lawful}
use Rattle.gc_automata.proofs.WalkLaws.{end_joined, joined_assoc, still_first, still_second, still_end}

-- a move before a run
moved : (network : Network) (ts : List Transition) (n from middle to : ℕ) (label : On) (first second : Walk) (c d : ℕ) → Contains ts (go from middle label)
    → Goes network label first c → RunsIn network ts n middle to second d → end_of first ≡ second.start → RunsIn network ts (suc n) from to (joined first second) (c + d)
moved network ts n from middle to label first second c d among goes run meets = record {
  transition = go from middle label;
  among = among;
  leaves = refl;
  first = first;
  second = second;
  first_cost = c;
  second_cost = d;
  early = goes;
  late = run;
  meets = meets;
  whole = refl;
  cost = refl;
}

-- a run before a run
pub then_runs : (network : Network) (ts : List Transition) (n k from middle to : ℕ) (first second : Walk) (c d : ℕ)
    → RunsIn network ts n from middle first c → RunsIn network ts k middle to second d → end_of first ≡ second.start
    → RunsIn network ts (n + k) from to (joined first second) (c + d)
then_runs network ts zero k from middle to first second c d run next meets =
    let same = still_first first second run.1.still meets in
    let cost : c + d ≡ d = omega (arith, run.1.free) in
    let count : zero + k ≡ k = omega arith in
    subst (λ m. RunsIn network ts m from to (joined first second) (c + d)) (sym count)
    (subst (λ (w : Walk). RunsIn network ts k from to w (c + d)) (sym same)
    (subst (λ e. RunsIn network ts k from to second e) (sym cost)
    (subst (λ s. RunsIn network ts k s to second d) (sym run.0) next)))
then_runs network ts (suc n) k from middle to first second c d run next meets =
    let rest_meets : end_of run.second ≡ second.start = sym (end_joined run.first run.second run.meets) ∙ ap end_of (sym run.whole) ∙ meets in
    let rest = then_runs network ts n k run.transition.to middle to run.second second run.second_cost d run.late next rest_meets in
    let count : suc n + k ≡ suc (n + k) = omega arith in
    subst (λ m. RunsIn network ts m from to (joined first second) (c + d)) (sym count)
    (record {
      transition = run.transition;
      among = run.among;
      leaves = run.leaves;
      first = run.first;
      second = joined run.second second;
      first_cost = run.first_cost;
      second_cost = run.second_cost + d;
      early = run.early;
      late = rest;
      meets = run.meets;
      whole = ap (λ (w : Walk). joined w second) run.whole ∙ joined_assoc run.first run.second second;
      cost = omega (arith, run.cost);
    })

-- a move along nothing
skips : (network : Network) (ts : List Transition) (from to node : ℕ) → Contains ts (skip from to) → IsThere network node → RunsIn network ts 1 from to (stay node) 0
skips network ts from to node among there =
    moved network ts 0 from to to on.Empty (stay node) (stay node) 0 0 among (record { there = there; still = refl; free = refl })
    (refl, record { there = there; still = refl; free = refl }) refl

-- a move along nothing before a run, and behind one
pub skip_first : (network : Network) (ts : List Transition) (from middle to : ℕ) (w : Walk) (c : ℕ) → Contains ts (skip from middle) → IsThere network w.start
    → Runs network ts middle to w c → Runs network ts from to w c
skip_first network ts from middle to w c among there run = (
  1 + run.0,
  subst (λ d. RunsIn network ts (1 + run.0) from to w d) {x = 0 + c} {y = c} (omega arith)
      (then_runs network ts 1 run.0 from middle to (stay w.start) w 0 c (skips network ts from middle w.start among there) run.1 refl),
)

pub skip_last : (network : Network) (ts : List Transition) (from middle to : ℕ) (w : Walk) (c : ℕ) → Contains ts (skip middle to) → IsThere network (end_of w)
    → Runs network ts from middle w c → Runs network ts from to w c
skip_last network ts from middle to w c among there run =
    let whole = then_runs network ts run.0 1 from middle to w (stay (end_of w)) c 0 run.1 (skips network ts middle to (end_of w) among there) refl in (
      run.0 + 1,
      subst (λ (v : Walk). RunsIn network ts (run.0 + 1) from to v c) (still_second w (stay (end_of w)) refl)
          (subst (λ d. RunsIn network ts (run.0 + 1) from to (joined w (stay (end_of w))) d) {x = c + 0} {y = c} (omega arith) whole),
    )

-- one run and then another
runs_on : (network : Network) (ts : List Transition) (from middle to : ℕ) (first second w : Walk) (c d e : ℕ) → Runs network ts from middle first c → Runs network ts middle to second d
    → end_of first ≡ second.start → w ≡ joined first second → e ≡ c + d → Runs network ts from to w e
runs_on network ts from middle to first second w c d e run next meets whole cost = (
  run.0 + next.0,
  subst (λ (v : Walk). RunsIn network ts (run.0 + next.0) from to v e) (sym whole)
      (subst (λ f. RunsIn network ts (run.0 + next.0) from to (joined first second) f) (sym cost)
      (then_runs network ts run.0 next.0 from middle to first second c d run.1 next.1 meets)),
)

-- an automaton passes whatever is so, among whatever transitions its own are
Enters : Network → Automaton → Fact → Type 0
Enters network a P =
    (m : ℕ) (ts : List Transition) → Includes ts (a.transitions m) → (w : Walk) (c : ℕ) → P w c → Runs network ts m (m + a.states - 1) w c

EntersAll : Network → List Automaton → List Fact → Type 0
EntersAll network [] [] = Unit {0}
EntersAll network (a ∷ parts) (P ∷ facts) = Enters network a P × EntersAll network parts facts
EntersAll network parts facts = ⊥

symbol_enters : (network : Network) (label : On) → IsLawful network (Goes network label) → Enters network (symbol label) (Goes network label)
unfolding Enters
symbol_enters network label lawful m ts all w c goes =
    let there = lawful.ends w c goes in
    let last : m + 1 ≡ m + 2 - 1 = omega arith in
    let run = moved network ts 0 m (m + 1) (m + 2 - 1) label w (stay (end_of w)) c 0 (includes_first ts (go m (m + 1) label) [] all) goes
    (last, record { there = there; still = refl; free = refl }) refl in (
      1,
      subst (λ (v : Walk). RunsIn network ts 1 m (m + 2 - 1) v c) (still_second w (stay (end_of w)) refl)
          (subst (λ d. RunsIn network ts 1 m (m + 2 - 1) (joined w (stay (end_of w))) d) {x = c + 0} {y = c} (omega arith) run),
    )

turn_enters : (network : Network) (parts : List Automaton) (facts : List Fact) → AreLawful network facts → EntersAll network parts facts → Enters network (in_turn parts) (InTurn facts)
unfolding Enters EntersAll AreLawful
turn_enters network [] [] lawful all m ts within w c h = absurd h
turn_enters network (a ∷ []) (P ∷ []) lawful all m ts within w c h =
    subst (λ last. Runs network ts m last w c) {x = m + a.states - 1} {y = m + (a.states + 0) - 1} (omega arith) (all.0 m ts within w c h)
turn_enters network (a ∷ b ∷ parts) (P ∷ Q ∷ facts) lawful all m ts within w c h =
    let own = includes_front ts (a.transitions m) (skip (m + a.states - 1) (m + a.states) ∷ transitions_in_turn (b ∷ parts) (m + a.states)) within in
    let rest = includes_back ts (a.transitions m) (skip (m + a.states - 1) (m + a.states) ∷ transitions_in_turn (b ∷ parts) (m + a.states)) within in
    let bridge = includes_first ts (skip (m + a.states - 1) (m + a.states)) (transitions_in_turn (b ∷ parts) (m + a.states)) rest in
    let behind = includes_tail ts (skip (m + a.states - 1) (m + a.states)) (transitions_in_turn (b ∷ parts) (m + a.states)) rest in
    let first = skip_last network ts m (m + a.states - 1) (m + a.states) h.first h.first_cost bridge (lawful.0.ends h.first h.first_cost h.early) (all.0 m ts own h.first h.first_cost h.early) in
    let second = turn_enters network (b ∷ parts) (Q ∷ facts) lawful.1 all.1 (m + a.states) ts behind h.second h.second_cost h.late in
    subst (λ last. Runs network ts m last w c) {x = m + a.states + states_in (b ∷ parts) - 1} {y = m + (a.states + states_in (b ∷ parts)) - 1} (omega arith)
    (runs_on network ts m (m + a.states) (m + a.states + states_in (b ∷ parts) - 1) h.first h.second w h.first_cost h.second_cost c first second h.meets h.whole h.cost)
turn_enters network [] (P ∷ facts) lawful all m ts within w c h = absurd all
turn_enters network (a ∷ []) [] lawful all m ts within w c h = absurd all
turn_enters network (a ∷ b ∷ parts) [] lawful all m ts within w c h = absurd all
turn_enters network (a ∷ []) (P ∷ Q ∷ facts) lawful all m ts within w c h = absurd all.1
turn_enters network (a ∷ b ∷ parts) (P ∷ []) lawful all m ts within w c h = absurd all.1

branches_enter : (network : Network) (from to : ℕ) (parts : List Automaton) (facts : List Fact) → AreLawful network facts → EntersAll network parts facts
    → (m : ℕ) (ts : List Transition) → Includes ts (transitions_of_branches from to parts m) → (w : Walk) (c : ℕ) → OneOf facts w c → Runs network ts from to w c
unfolding Enters EntersAll AreLawful
branches_enter network from to [] [] lawful all m ts within w c h = absurd h
branches_enter network from to [] (P ∷ facts) lawful all m ts within w c h = absurd all
branches_enter network from to (a ∷ parts) [] lawful all m ts within w c h = absurd all
branches_enter network from to (a ∷ parts) (P ∷ facts) lawful all m ts within w c (inl h) =
    let behind = skip (m + a.states - 1) to ∷ transitions_of_branches from to parts (m + a.states) in
    let into = includes_first ts (skip from m) (a.transitions m ++ behind) within in
    let rest = includes_tail ts (skip from m) (a.transitions m ++ behind) within in
    let own = includes_front ts (a.transitions m) behind rest in
    let out = includes_first ts (skip (m + a.states - 1) to) (transitions_of_branches from to parts (m + a.states)) (includes_back ts (a.transitions m) behind rest) in
    skip_first network ts from m to w c into (lawful.0.starts w c h)
    (skip_last network ts m (m + a.states - 1) to w c out (lawful.0.ends w c h) (all.0 m ts own w c h))
branches_enter network from to (a ∷ parts) (P ∷ facts) lawful all m ts within w c (inr h) =
    let behind = skip (m + a.states - 1) to ∷ transitions_of_branches from to parts (m + a.states) in
    let rest = includes_back ts (a.transitions m) behind (includes_tail ts (skip from m) (a.transitions m ++ behind) within) in
    branches_enter network from to parts facts lawful.1 all.1 (m + a.states) ts
    (includes_tail ts (skip (m + a.states - 1) to) (transitions_of_branches from to parts (m + a.states)) rest) w c h

-- the turns of a star, from the first state of its part
turns_enter : (network : Network) (P : Fact) → IsLawful network P → (ts : List Transition) (first end last : ℕ)
    → ((v : Walk) (d : ℕ) → P v d → Runs network ts first end v d) → Contains ts (skip end first) → Contains ts (skip end last)
    → (n : ℕ) (w : Walk) (c : ℕ) → Turns network P (suc n) w c → Runs network ts first last w c
turns_enter network P lawful ts first end last pass again out zero w c h =
    let cost : h.first_cost ≡ c = omega (arith, h.cost, h.late.free) in
    let same = sym (h.whole ∙ still_second h.first h.second h.late.still) in
    subst (λ (v : Walk). Runs network ts first last v c) same
    (subst (λ d. Runs network ts first last h.first d) cost
    (skip_last network ts first end last h.first h.first_cost out (lawful.ends h.first h.first_cost h.early.1) (pass h.first h.first_cost h.early.1)))
turns_enter network P lawful ts first end last pass again out (suc n) w c h =
    let turn = skip_last network ts first end first h.first h.first_cost again (lawful.ends h.first h.first_cost h.early.1) (pass h.first h.first_cost h.early.1) in
    let later = turns_enter network P lawful ts first end last pass again out n h.second h.second_cost h.late in
    runs_on network ts first first last h.first h.second w h.first_cost h.second_cost c turn later h.meets h.whole h.cost

star_enters : (network : Network) (a : Automaton) (P : Fact) → IsLawful network P → Enters network a P → Enters network (star_of a) (λ w c. (n : ℕ) × Turns network P n w c)
unfolding Enters
star_enters network a P lawful enters m ts within w c h =
    subst (λ last. Runs network ts m last w c) {x = m + 1 + a.states} {y = m + (2 + a.states) - 1} (omega arith) (by h.0 h.1)
  where
    tail : List Transition
    tail = skip (m + a.states) (m + 1) ∷ skip (m + a.states) (m + 1 + a.states) ∷ []

    past : Includes ts (skip m (m + 1 + a.states) ∷ a.transitions (m + 1) ++ tail)
    past = includes_tail ts (skip m (m + 1)) (skip m (m + 1 + a.states) ∷ a.transitions (m + 1) ++ tail) within

    inner : Includes ts (a.transitions (m + 1) ++ tail)
    inner = includes_tail ts (skip m (m + 1 + a.states)) (a.transitions (m + 1) ++ tail) past

    back : Includes ts tail
    back = includes_back ts (a.transitions (m + 1)) tail inner

    pass : (v : Walk) (d : ℕ) → P v d → Runs network ts (m + 1) (m + a.states) v d
    pass v d p = subst (λ last. Runs network ts (m + 1) last v d) {x = m + 1 + a.states - 1} {y = m + a.states} (omega arith)
        (enters (m + 1) ts (includes_front ts (a.transitions (m + 1)) tail inner) v d p)

    by : (n : ℕ) → Turns network P n w c → Runs network ts m (m + 1 + a.states) w c
    by zero h =
        let staying : RunsIn network ts 1 m (m + 1 + a.states) (stay w.start) 0 =
        skips network ts m (m + 1 + a.states) w.start (includes_first ts (skip m (m + 1 + a.states)) (a.transitions (m + 1) ++ tail) past) h.there in
        let same : stay w.start ≡ w = λ i. record { start = w.start; steps = sym h.still i } in
        (1, subst (λ d. RunsIn network ts 1 m (m + 1 + a.states) w d) (sym h.free) (subst (λ (v : Walk). RunsIn network ts 1 m (m + 1 + a.states) v 0) same staying))
    by (suc n) h =
        skip_first network ts m (m + 1) (m + 1 + a.states) w c
        (includes_first ts (skip m (m + 1)) (skip m (m + 1 + a.states) ∷ a.transitions (m + 1) ++ tail) within)
        ((turns_lawful network P lawful (suc n)).starts w c h)
        (turns_enter network P lawful ts (m + 1) (m + a.states) (m + 1 + a.states) pass
        (includes_first ts (skip (m + a.states) (m + 1)) (skip (m + a.states) (m + 1 + a.states) ∷ []) back)
        (includes_first ts (skip (m + a.states) (m + 1 + a.states)) [] (includes_tail ts (skip (m + a.states) (m + 1)) (skip (m + a.states) (m + 1 + a.states) ∷ []) back))
        n w c h)

EntersKind : Network → (k : Kind) → AutomataOf k → Facts k → Type 0
EntersKind network ARegex a P = Enters network a P
EntersKind network ARow parts facts = EntersAll network parts facts

one_enters : (network : Network) (parts : List Automaton) (facts : List Fact) → AreLawful network facts → EntersAll network parts facts → Enters network (one_of parts) (OneOf facts)
unfolding Enters
one_enters network parts facts lawful all m ts within w c h =
    subst (λ last. Runs network ts m last w c) {x = m + 1 + states_in parts} {y = m + (2 + states_in parts) - 1} (omega arith)
    (branches_enter network m (m + 1 + states_in parts) parts facts lawful all (m + 1) ts within w c h)

expression_enters : (network : Network) → IsNetwork network → {k : Kind} (tree : RegexTree k) → EntersKind network k (automaton_of tree) (conforms network tree)
unfolding EntersKind EntersAll Lawful conforms automaton_of
expression_enters network is (Label l) = symbol_enters network (on.Label l) (goes_lawful network is (on.Label l))
expression_enters network is (Back l) = symbol_enters network (on.Back l) (goes_lawful network is (on.Back l))
expression_enters network is Any = symbol_enters network on.Any (goes_lawful network is on.Any)
expression_enters network is AnyBack = symbol_enters network on.AnyBack (goes_lawful network is on.AnyBack)
expression_enters network is (Test l) = symbol_enters network (on.Test l) (goes_lawful network is (on.Test l))
expression_enters network is (View v) = symbol_enters network (on.View v) (goes_lawful network is (on.View v))
expression_enters network is (Cat parts) =
    turn_enters network (automaton_of parts) (conforms network parts) (conforms_lawful network is parts) (expression_enters network is parts)
expression_enters network is (Alt parts) =
    one_enters network (automaton_of parts) (conforms network parts) (conforms_lawful network is parts) (expression_enters network is parts)
expression_enters network is (Star part) =
    star_enters network (automaton_of part) (conforms network part) (conforms_lawful network is part) (expression_enters network is part)
expression_enters network is none = tt
expression_enters network is (more part parts) = (expression_enters network is part, expression_enters network is parts)

-- every walk that conforms is passed by a run from the first state to the last, at its cost
pub conforming_runs : (network : Network) → IsNetwork network → (tree : RegexTree ARegex) (w : Walk) (c : ℕ) → Conforms network tree w c
    → Runs network ((automaton_of tree).transitions 0) 0 ((automaton_of tree).states - 1) w c
unfolding EntersKind Enters
conforming_runs network is tree w c h =
    subst (λ last. Runs network ((automaton_of tree).transitions 0) 0 last w c) {x = 0 + (automaton_of tree).states - 1} {y = (automaton_of tree).states - 1} (omega arith)
    (expression_enters network is tree 0 ((automaton_of tree).transitions 0) (includes_itself ((automaton_of tree).transitions 0)) w c h)
