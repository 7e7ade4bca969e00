-- Every walk that a run passes conforms.
use Rattle.std.proofs.Common.{◌≡◌, ℕ, zero, suc, ◌+◌, ◌-◌, ◌<◌, ◌≤◌, ◌⊎◌, inl, inr, List, [], ◌∷◌, ◌++◌, length, refl, sym, ap, subst, ◌∙◌, arith}
use Rattle.std.specs.List.{Contains}
use Rattle.gc_base.specs.Walks.{end_of}
use Rattle.gc_base.specs.declared.walk.Walk.{Walk}
use Rattle.gc_regx.specs.Trees.{Kind, RegexTree, ARegex, ARow, Label, Back, Any, AnyBack, Test, View, Cat, Alt, Star, none, more}
use Rattle.gc_automata.specs.declared.transition.On.{On}
use Rattle.gc_automata.specs.declared.transition.On.TheVariants as on
use Rattle.gc_automata.specs.declared.transition.Transition.{Transition}
use Rattle.gc_automata.specs.Moves.{Network, IsNetwork, IsThere, Goes, Stays, joined, stay}
use Rattle.gc_automata.specs.Conformance.{Fact, Facts, Follow, InTurn, OneOf, Moving, Turns, conforms, Conforms}
use Rattle.gc_automata.specs.Automata.{Automaton, AutomataOf, go, skip, symbol, states_in, transitions_in_turn, in_turn, transitions_of_branches, one_of, star_of, automaton_of}
use Rattle.gc_automata.specs.Runs.{Move, RunsIn, Runs}
use Rattle.gc_regx.specs.Expressions.{IsFormed, IsSome, HasParts}
use Rattle.gc_automata.proofs.Inclusion.{among_more, among_none}
use Rattle.gc_automata.proofs.Lawful.{IsLawful, AreLawful, Lawful, conforms_lawful, goes_lawful}
use Rattle.gc_automata.proofs.Ranges.{HasRange, HaveRanges, RangeOf, Among, before, itself, behind, among_parts, turn_range, branches_range, InStar, into, past, own, again, out, in_star, expression_range}
use Rattle.gc_automata.proofs.WalkLaws.{end_joined, joined_assoc, still_first, still_second, still_end}

-- a run splits: first a walk that is so, up to a state, and then fewer moves than so many on to the end
pub record Leaves (network : Network) (ts : List Transition) (P : Fact) (exit to bound : ℕ) (w : Walk) (c : ℕ) : Type 0 where
  pub first : Walk
  pub second : Walk
  pub first_cost : ℕ
  pub second_cost : ℕ
  pub early : P first first_cost
  pub moves : ℕ
  pub fewer : moves < bound
  pub late : RunsIn network ts moves exit to second second_cost
  pub meets : end_of first ≡ second.start
  pub whole : w ≡ joined first second
  pub cost : c ≡ first_cost + second_cost

-- a state is not one of those from one to another
abbrev Outside : ℕ → ℕ → ℕ → Type 0
Outside q from last = from ≤ q → q < last → ⊥

-- all transitions that leave states of an automaton but its last are its own
abbrev Closed : List Transition → Automaton → ℕ → Type 0
Closed ts a m = (t : Transition) → Contains ts t → m ≤ t.from → t.from < m + a.states - 1 → Contains (a.transitions m) t

-- a run from the first state of an automaton to a state outside passes its last state, by then along a walk that is so
Exits : Network → Automaton → Fact → Type 0
Exits network a P =
    (m : ℕ) (ts : List Transition) → Closed ts a m → (n q : ℕ) → Outside q m (m + a.states - 1) → (w : Walk) (c : ℕ)
    → RunsIn network ts n m q w c → Leaves network ts P (m + a.states - 1) q n w c

ExitAll : Network → List Automaton → List Fact → Type 0
ExitAll network [] [] = Unit {0}
ExitAll network (a ∷ parts) (P ∷ facts) = Exits network a P × ExitAll network parts facts
ExitAll network parts facts = ⊥

symbol_exits : (network : Network) (label : On) → Exits network (symbol label) (Goes network label)
unfolding Exits
symbol_exits network label m ts closed zero q outside w c run = absurd (outside (omega (arith, run.0)) (omega (arith, run.0)))
symbol_exits network label m ts closed (suc n) q outside w c run =
    by (among_more (go m (m + 1) label) [] run.transition (closed run.transition run.among (omega (arith, run.leaves)) (omega (arith, run.leaves))))
  where
    by : (go m (m + 1) label ≡ run.transition) ⊎ Contains [] run.transition → Leaves network ts (Goes network label) (m + 2 - 1) q (suc n) w c
    by (inl same) = record {
      first = run.first;
      second = run.second;
      first_cost = run.first_cost;
      second_cost = run.second_cost;
      early = subst (λ (t : Transition). Goes network t.on run.first run.first_cost) (sym same) run.early;
      moves = n;
      fewer = omega arith;
      late = subst (λ s. RunsIn network ts n s q run.second run.second_cost) {x = run.transition.to} {y = m + 2 - 1}
          (omega (arith, ap (λ (t : Transition). t.to) same)) run.late;
      meets = run.meets;
      whole = run.whole;
      cost = run.cost;
    }
    by (inr there) = absurd (among_none run.transition there)

-- behind what is so, a move along nothing
skipped : (network : Network) (ts : List Transition) (P : Fact) (exit next to bound k : ℕ) (first second w : Walk) (c d e : ℕ) → P first c → suc k ≤ bound
    → (move : Move network ts (λ state. RunsIn network ts k state to) exit second d) → skip exit next ≡ move.transition
    → end_of first ≡ second.start → w ≡ joined first second → e ≡ c + d → Leaves network ts P next to bound w e
skipped network ts P exit next to bound k first second w c d e early fewer move same meets whole cost =
    let stays : Stays network move.first move.first_cost = subst (λ (t : Transition). Goes network t.on move.first move.first_cost) (sym same) move.early in
    let second_is : second ≡ move.second = move.whole ∙ still_first move.first move.second stays.still move.meets in
    record {
      first = first;
      second = move.second;
      first_cost = c;
      second_cost = move.second_cost;
      early = early;
      moves = k;
      fewer = fewer;
      late = subst (λ s. RunsIn network ts k s to move.second move.second_cost) (sym (ap (λ (t : Transition). t.to) same)) move.late;
      meets = meets ∙ ap (λ (v : Walk). v.start) second_is;
      whole = whole ∙ ap (joined first) second_is;
      cost = omega (arith, cost, move.cost, stays.free);
    }

-- what is so, and behind it what else is so
then_leaves : (network : Network) (ts : List Transition) (P Q : Fact) (middle exit to bound : ℕ) (w : Walk) (c : ℕ) → (l : Leaves network ts P middle to bound w c)
    → Leaves network ts Q exit to l.moves l.second l.second_cost → Leaves network ts (Follow P Q) exit to bound w c
then_leaves network ts P Q middle exit to bound w c l r = record {
  first = joined l.first r.first;
  second = r.second;
  first_cost = l.first_cost + r.first_cost;
  second_cost = r.second_cost;
  early = record {
    first = l.first;
    second = r.first;
    first_cost = l.first_cost;
    second_cost = r.first_cost;
    early = l.early;
    late = r.early;
    meets = l.meets ∙ ap (λ (v : Walk). v.start) r.whole;
    whole = refl;
    cost = refl;
  };
  moves = r.moves;
  fewer = omega (arith, l.fewer, r.fewer);
  late = r.late;
  meets = end_joined l.first r.first (l.meets ∙ ap (λ (v : Walk). v.start) r.whole) ∙ r.meets;
  whole = l.whole ∙ ap (joined l.first) r.whole ∙ sym (joined_assoc l.first r.first r.second);
  cost = omega (arith, l.cost, r.cost);
}

-- the same facts under another name of the last state
exit_at : (network : Network) (ts : List Transition) (P : Fact) (exit other to bound : ℕ) (w : Walk) (c : ℕ) → exit ≡ other → Leaves network ts P exit to bound w c → Leaves network ts P other to bound w c
exit_at network ts P exit other to bound w c same l = subst (λ e. Leaves network ts P e to bound w c) same l

-- one after another
turn_exits : (network : Network) (a : Automaton) (parts : List Automaton) (P : Fact) (facts : List Fact) → HaveRanges (a ∷ parts) → ExitAll network (a ∷ parts) (P ∷ facts)
    → Exits network (in_turn (a ∷ parts)) (InTurn (P ∷ facts))
unfolding Exits ExitAll HaveRanges
turn_exits network a [] P [] ranges all m ts closed n q outside w c run =
    exit_at network ts P (m + a.states - 1) (m + (a.states + 0) - 1) q n w c (omega arith)
    (all.0 m ts (λ t there low high. closed t there low (omega (arith, high))) n q (λ low high. outside low (omega (arith, high))) w c run)
turn_exits network a [] P (Q ∷ facts) ranges all m ts closed n q outside w c run = absurd all.1
turn_exits network a (b ∷ parts) P [] ranges all m ts closed n q outside w c run = absurd all.1
turn_exits network a (b ∷ parts) P (Q ∷ facts) ranges all m ts closed n q outside w c run =
    by (λ k v d on. turn_exits network b parts Q facts ranges.1 all.1 (m + a.states) ts rest_closed k q rest_outside v d on) first.moves first.late refl
  where
    rest : HasRange (in_turn (b ∷ parts))
    rest = turn_range b parts ranges.1

    parted : (t : Transition) → Contains ts t → m ≤ t.from → t.from < m + (a.states + states_in (b ∷ parts)) - 1
        → Among (a.transitions m) (skip (m + a.states - 1) (m + a.states)) (transitions_in_turn (b ∷ parts) (m + a.states)) t
    parted t there low high = among_parts (a.transitions m) (skip (m + a.states - 1) (m + a.states)) (transitions_in_turn (b ∷ parts) (m + a.states)) t (closed t there low high)

    own_part : (t : Transition) → t.from < m + a.states - 1 → Among (a.transitions m) (skip (m + a.states - 1) (m + a.states)) (transitions_in_turn (b ∷ parts) (m + a.states)) t → Contains (a.transitions m) t
    own_part t high (before there) = there
    own_part t high (itself same) = absurd (omega (arith, high, ap (λ (u : Transition). u.from) same))
    own_part t high (behind there) = absurd (omega (arith, high, (rest.range (m + a.states) t there).0))

    rest_part : (t : Transition) → m + a.states ≤ t.from → Among (a.transitions m) (skip (m + a.states - 1) (m + a.states)) (transitions_in_turn (b ∷ parts) (m + a.states)) t
        → Contains (transitions_in_turn (b ∷ parts) (m + a.states)) t
    rest_part t low (before there) = absurd (omega (arith, low, (ranges.0.range m t there).1))
    rest_part t low (itself same) = absurd (omega (arith, low, ap (λ (u : Transition). u.from) same, ranges.0.some))
    rest_part t low (behind there) = there

    first : Leaves network ts P (m + a.states - 1) q n w c
    first = all.0 m ts (λ t there low high. own_part t high (parted t there low (omega (arith, high, rest.some)))) n q (λ low high. outside low (omega (arith, high, rest.some))) w c run

    rest_closed : Closed ts (in_turn (b ∷ parts)) (m + a.states)
    rest_closed t there low high = rest_part t low (parted t there (omega (arith, low)) (omega (arith, high)))

    rest_outside : Outside q (m + a.states) (m + a.states + states_in (b ∷ parts) - 1)
    rest_outside low high = outside (omega (arith, low)) (omega (arith, high))

    bridge : (t : Transition) → t.from ≡ m + a.states - 1 → Among (a.transitions m) (skip (m + a.states - 1) (m + a.states)) (transitions_in_turn (b ∷ parts) (m + a.states)) t
        → skip (m + a.states - 1) (m + a.states) ≡ t
    bridge t leaves (before there) = absurd (omega (arith, leaves, (ranges.0.range m t there).1))
    bridge t leaves (itself same) = same
    bridge t leaves (behind there) = absurd (omega (arith, leaves, ranges.0.some, (rest.range (m + a.states) t there).0))

    by : ((k : ℕ) (v : Walk) (d : ℕ) → RunsIn network ts k (m + a.states) q v d → Leaves network ts (InTurn (Q ∷ facts)) (m + a.states + states_in (b ∷ parts) - 1) q k v d)
        → (k : ℕ) → RunsIn network ts k (m + a.states - 1) q first.second first.second_cost → first.moves ≡ k
        → Leaves network ts (Follow P (InTurn (Q ∷ facts))) (m + (a.states + states_in (b ∷ parts)) - 1) q n w c
    by later zero run count = absurd (outside (omega (arith, run.0, ranges.0.some)) (omega (arith, run.0, rest.some, ranges.0.some)))
    by later (suc k) move count =
        let same = bridge move.transition move.leaves (parted move.transition move.among (omega (arith, move.leaves, ranges.0.some)) (omega (arith, move.leaves, rest.some, ranges.0.some))) in
        let over = skipped network ts P (m + a.states - 1) (m + a.states) q n k first.first first.second w first.first_cost first.second_cost c first.early (omega (arith, count, first.fewer)) move same first.meets first.whole first.cost in
        exit_at network ts (Follow P (InTurn (Q ∷ facts))) (m + a.states + states_in (b ∷ parts) - 1) (m + (a.states + states_in (b ∷ parts)) - 1) q n w c (omega arith)
        (then_leaves network ts P (InTurn (Q ∷ facts)) (m + a.states) (m + a.states + states_in (b ∷ parts) - 1) q n w c over (later over.moves over.second over.second_cost over.late))

-- the same split where something weaker is so
leaves_as : (network : Network) (ts : List Transition) (P Q : Fact) (exit to bound : ℕ) (w : Walk) (c : ℕ) → ((v : Walk) (d : ℕ) → P v d → Q v d)
    → Leaves network ts P exit to bound w c → Leaves network ts Q exit to bound w c
leaves_as network ts P Q exit to bound w c weaker l = record {
  first = l.first;
  second = l.second;
  first_cost = l.first_cost;
  second_cost = l.second_cost;
  early = weaker l.first l.first_cost l.early;
  moves = l.moves;
  fewer = l.fewer;
  late = l.late;
  meets = l.meets;
  whole = l.whole;
  cost = l.cost;
}

-- where a transition of branches stands, beside the first of them
data InBranches (from to : ℕ) (a : Automaton) (parts : List Automaton) (m : ℕ) (t : Transition) : Type 0 where
  inwards : skip from m ≡ t → InBranches from to a parts m t
  inside : Contains (a.transitions m) t → InBranches from to a parts m t
  outwards : skip (m + a.states - 1) to ≡ t → InBranches from to a parts m t
  elsewhere : Contains (transitions_of_branches from to parts (m + a.states)) t → InBranches from to a parts m t

in_branches : (from to : ℕ) (a : Automaton) (parts : List Automaton) (m : ℕ) (t : Transition) → Contains (transitions_of_branches from to (a ∷ parts) m) t → InBranches from to a parts m t
in_branches from to a parts m t h = first (among_more (skip from m) (a.transitions m ++ skip (m + a.states - 1) to ∷ transitions_of_branches from to parts (m + a.states)) t h)
  where
    second : Among (a.transitions m) (skip (m + a.states - 1) to) (transitions_of_branches from to parts (m + a.states)) t → InBranches from to a parts m t
    second (before there) = inside there
    second (itself same) = outwards same
    second (behind there) = elsewhere there

    first : (skip from m ≡ t) ⊎ Contains (a.transitions m ++ skip (m + a.states - 1) to ∷ transitions_of_branches from to parts (m + a.states)) t → InBranches from to a parts m t
    first (inl same) = inwards same
    first (inr there) = second (among_parts (a.transitions m) (skip (m + a.states - 1) to) (transitions_of_branches from to parts (m + a.states)) t there)

-- one of some branches: from the state before them to the one behind them
branches_exit : (network : Network) (from to : ℕ) (parts : List Automaton) (facts : List Fact) → HaveRanges parts → ExitAll network parts facts → (m : ℕ) (ts : List Transition)
    → Outside from m (m + states_in parts)
    → ((t : Transition) → Contains ts t → m ≤ t.from → t.from < m + states_in parts → Contains (transitions_of_branches from to parts m) t)
    → (n q : ℕ) → Outside q m (m + states_in parts) → (t : Transition) → Contains (transitions_of_branches from to parts m) t → t.from ≡ from → (w : Walk) (c : ℕ)
    → RunsIn network ts n t.to q w c → Leaves network ts (OneOf facts) to q n w c
unfolding Exits ExitAll HaveRanges
branches_exit network from to [] facts ranges all m ts apart closed n q outside t there leaves w c run = absurd (among_none t there)
branches_exit network from to (a ∷ parts) [] ranges all m ts apart closed n q outside t there leaves w c run = absurd all
branches_exit network from to (a ∷ parts) (P ∷ facts) ranges all m ts apart closed n q outside t there leaves w c run =
    by (λ behind. branches_exit network from to parts facts ranges.1 all.1 (m + a.states) ts rest_apart rest_closed n q rest_outside t behind leaves w c run)
    (in_branches from to a parts m t there)
  where
    rest_apart : Outside from (m + a.states) (m + a.states + states_in parts)
    rest_apart low high = apart (omega (arith, low)) (omega (arith, high))

    rest_outside : Outside q (m + a.states) (m + a.states + states_in parts)
    rest_outside low high = outside (omega (arith, low)) (omega (arith, high))

    -- no transition that leaves a state of a branch leaves the one before
    not_before : (u : Transition) → m ≤ u.from → u.from < m + (a.states + states_in parts) → from ≡ u.from → ⊥
    not_before u low high same = apart (omega (arith, low, same)) (omega (arith, high, same))

    elsewhere_low : (u : Transition) → m ≤ u.from → u.from < m + a.states → (from ≡ u.from) ⊎ ((m + a.states ≤ u.from) × (u.from < m + a.states + states_in parts)) → ⊥
    elsewhere_low u low high (inl same) = not_before u low (omega (arith, high)) same
    elsewhere_low u low high (inr r) = omega (arith, high, r.0)

    own_of : (u : Transition) → m ≤ u.from → u.from < m + a.states - 1 → InBranches from to a parts m u → Contains (a.transitions m) u
    own_of u low high (inwards same) = absurd (not_before u low (omega (arith, high)) (ap (λ (v : Transition). v.from) same))
    own_of u low high (inside there) = there
    own_of u low high (outwards same) = absurd (omega (arith, high, ap (λ (v : Transition). v.from) same))
    own_of u low high (elsewhere there) = absurd (elsewhere_low u low (omega (arith, high)) (branches_range from to parts ranges.1 (m + a.states) u there))

    own_closed : Closed ts a m
    own_closed u there low high = own_of u low high (in_branches from to a parts m u (closed u there low (omega (arith, high))))

    rest_of : (u : Transition) → m + a.states ≤ u.from → u.from < m + a.states + states_in parts → InBranches from to a parts m u → Contains (transitions_of_branches from to parts (m + a.states)) u
    rest_of u low high (inwards same) = absurd (not_before u (omega (arith, low)) (omega (arith, high)) (ap (λ (v : Transition). v.from) same))
    rest_of u low high (inside there) = absurd (omega (arith, low, (ranges.0.range m u there).1))
    rest_of u low high (outwards same) = absurd (omega (arith, low, ap (λ (v : Transition). v.from) same, ranges.0.some))
    rest_of u low high (elsewhere there) = there

    rest_closed : (u : Transition) → Contains ts u → m + a.states ≤ u.from → u.from < m + a.states + states_in parts → Contains (transitions_of_branches from to parts (m + a.states)) u
    rest_closed u there low high = rest_of u low high (in_branches from to a parts m u (closed u there (omega (arith, low)) (omega (arith, high))))

    -- from the last state of a branch a move leads out
    bridge : (u : Transition) → u.from ≡ m + a.states - 1 → InBranches from to a parts m u → skip (m + a.states - 1) to ≡ u
    bridge u last (inwards same) = absurd (not_before u (omega (arith, last, ranges.0.some)) (omega (arith, last, ranges.0.some)) (ap (λ (v : Transition). v.from) same))
    bridge u last (inside there) = absurd (omega (arith, last, (ranges.0.range m u there).1))
    bridge u last (outwards same) = same
    bridge u last (elsewhere there) = absurd (elsewhere_low u (omega (arith, last, ranges.0.some)) (omega (arith, last, ranges.0.some)) (branches_range from to parts ranges.1 (m + a.states) u there))

    passed : (l : Leaves network ts P (m + a.states - 1) q n w c) → (k : ℕ) → RunsIn network ts k (m + a.states - 1) q l.second l.second_cost → l.moves ≡ k → Leaves network ts P to q n w c
    passed l zero on count = absurd (outside (omega (arith, on.0, ranges.0.some)) (omega (arith, on.0, ranges.0.some)))
    passed l (suc k) move count =
        skipped network ts P (m + a.states - 1) to q n k l.first l.second w l.first_cost l.second_cost c l.early (omega (arith, count, l.fewer)) move
        (bridge move.transition move.leaves (in_branches from to a parts m move.transition
        (closed move.transition move.among (omega (arith, move.leaves, ranges.0.some)) (omega (arith, move.leaves, ranges.0.some)))))
        l.meets l.whole l.cost

    by : (Contains (transitions_of_branches from to parts (m + a.states)) t → Leaves network ts (OneOf facts) to q n w c) → InBranches from to a parts m t
        → Leaves network ts (OneOf (P ∷ facts)) to q n w c
    by later (inwards same) =
        let starts : RunsIn network ts n m q w c = subst (λ s. RunsIn network ts n s q w c) (sym (ap (λ (v : Transition). v.to) same)) run in
        let l = all.0 m ts own_closed n q (λ low high. outside low (omega (arith, high))) w c starts in
        leaves_as network ts P (OneOf (P ∷ facts)) to q n w c (λ v d p. inl p) (passed l l.moves l.late refl)
    by later (inside there) = absurd (not_before t (ranges.0.range m t there).0 (omega (arith, (ranges.0.range m t there).1)) (sym leaves))
    by later (outwards same) =
        let last : m + a.states - 1 ≡ t.from = ap (λ (v : Transition). v.from) same in
        absurd (not_before t (omega (arith, last, ranges.0.some)) (omega (arith, last, ranges.0.some)) (sym leaves))
    by later (elsewhere there) = leaves_as network ts (OneOf facts) (OneOf (P ∷ facts)) to q n w c (λ v d p. inr p) (later there)

-- into a branch a move goes along nothing
enters_free : (from to : ℕ) (parts : List Automaton) → HaveRanges parts → (m : ℕ) → Outside from m (m + states_in parts)
    → (t : Transition) → Contains (transitions_of_branches from to parts m) t → t.from ≡ from → t.on ≡ on.Empty
unfolding HaveRanges
enters_free from to [] ranges m apart t there leaves = absurd (among_none t there)
enters_free from to (a ∷ parts) ranges m apart t there leaves =
    by (λ behind. enters_free from to parts ranges.1 (m + a.states) (λ low high. apart (omega (arith, low)) (omega (arith, high))) t behind leaves) (in_branches from to a parts m t there)
  where
    by : (Contains (transitions_of_branches from to parts (m + a.states)) t → t.on ≡ on.Empty) → InBranches from to a parts m t → t.on ≡ on.Empty
    by later (inwards same) = sym (ap (λ (v : Transition). v.on) same)
    by later (inside there) = absurd (apart (omega (arith, leaves, (ranges.0.range m t there).0)) (omega (arith, leaves, (ranges.0.range m t there).1)))
    by later (outwards same) = sym (ap (λ (v : Transition). v.on) same)
    by later (elsewhere there) = later there

-- a run whose first move goes along nothing is the run behind it
behind_nothing : (network : Network) (ts : List Transition) (P : Fact) (exit to n : ℕ) (w : Walk) (c from : ℕ) (move : Move network ts (λ state. RunsIn network ts n state to) from w c)
    → move.transition.on ≡ on.Empty → Leaves network ts P exit to n move.second move.second_cost → Leaves network ts P exit to (suc n) w c
behind_nothing network ts P exit to n w c from move nothing l =
    let stays : Stays network move.first move.first_cost = subst (λ label. Goes network label move.first move.first_cost) nothing move.early in
    record {
      first = l.first;
      second = l.second;
      first_cost = l.first_cost;
      second_cost = l.second_cost;
      early = l.early;
      moves = l.moves;
      fewer = omega (arith, l.fewer);
      late = l.late;
      meets = l.meets;
      whole = move.whole ∙ still_first move.first move.second stays.still move.meets ∙ l.whole;
      cost = omega (arith, move.cost, stays.free, l.cost);
    }

one_exits : (network : Network) (parts : List Automaton) (facts : List Fact) → HaveRanges parts → ExitAll network parts facts → Exits network (one_of parts) (OneOf facts)
unfolding Exits
one_exits network parts facts ranges all m ts closed zero q outside w c run = absurd (outside (omega (arith, run.0)) (omega (arith, run.0)))
one_exits network parts facts ranges all m ts closed (suc n) q outside w c run =
    let last = m + 1 + states_in parts in
    let apart : Outside m (m + 1) (m + 1 + states_in parts) = λ low high. omega (arith, low) in
    let within = closed run.transition run.among (omega (arith, run.leaves)) (omega (arith, run.leaves)) in
    let l = branches_exit network m last parts facts ranges all (m + 1) ts apart (λ t there low high. closed t there (omega (arith, low)) (omega (arith, high))) n q
    (λ low high. outside (omega (arith, low)) (omega (arith, high))) run.transition within run.leaves run.second run.second_cost run.late in
    exit_at network ts (OneOf facts) last (m + (2 + states_in parts) - 1) q (suc n) w c (omega arith)
    (behind_nothing network ts (OneOf facts) last q n w c m run (enters_free m last parts ranges (m + 1) apart run.transition within run.leaves) l)

-- a turn before others; one that does not move is left out
with_turn : (network : Network) (P : Fact) → IsLawful network P → (n : ℕ) (first rest w : Walk) (c d e : ℕ) → P first c → Turns network P n rest d → end_of first ≡ rest.start
    → w ≡ joined first rest → e ≡ c + d → (k : ℕ) × Turns network P k w e
with_turn network P lawful n first rest w c d e is turns meets whole cost = by first.steps refl
  where
    by : (steps : List _) → first.steps ≡ steps → (k : ℕ) × Turns network P k w e
    by [] still =
        let same : w ≡ rest = whole ∙ still_first first rest still meets in
        let free = lawful.free first c still is in
        (n, subst (λ (v : Walk). Turns network P n v e) (sym same) (subst (λ f. Turns network P n rest f) {x = d} {y = e} (omega (arith, cost, free)) turns))
    by (step ∷ steps) moves = (
      suc n,
      record {
        first = first;
        second = rest;
        first_cost = c;
        second_cost = d;
        early = (omega (arith, ap length moves), is);
        late = turns;
        meets = meets;
        whole = whole;
        cost = cost;
      },
    )

-- the turns of a star from the first state of its part, in a run of at most so many moves
abbrev SomeTurns : Network → Fact → Fact
SomeTurns network P w c = (n : ℕ) × Turns network P n w c

star_loop : (network : Network) (a : Automaton) (P : Fact) → IsLawful network P → HasRange a → Exits network a P → (m : ℕ) (ts : List Transition) → Closed ts (star_of a) m
    → (q : ℕ) → Outside q m (m + 1 + a.states) → (fuel k : ℕ) → k ≤ fuel → (w : Walk) (c : ℕ) → RunsIn network ts k (m + 1) q w c
    → Leaves network ts (SomeTurns network P) (m + 1 + a.states) q k w c
unfolding Exits
star_loop network a P lawful range exits m ts closed q outside zero zero low w c run = absurd (outside (omega (arith, run.0)) (omega (arith, run.0, range.some)))
star_loop network a P lawful range exits m ts closed q outside zero (suc k) low w c run = absurd (omega (arith, low))
star_loop network a P lawful range exits m ts closed q outside (suc fuel) k low w c run =
    by (λ i v d fewer on. star_loop network a P lawful range exits m ts closed q outside fuel i (omega (arith, fewer, low)) v d on) first.moves first.late refl
  where
    own_of : (t : Transition) → m + 1 ≤ t.from → t.from < m + 1 + a.states - 1 → InStar a m t → Contains (a.transitions (m + 1)) t
    own_of t low high (into same) = absurd (omega (arith, low, ap (λ (u : Transition). u.from) same))
    own_of t low high (past same) = absurd (omega (arith, low, ap (λ (u : Transition). u.from) same))
    own_of t low high (own there) = there
    own_of t low high (again same) = absurd (omega (arith, high, ap (λ (u : Transition). u.from) same))
    own_of t low high (out same) = absurd (omega (arith, high, ap (λ (u : Transition). u.from) same))

    first : Leaves network ts P (m + 1 + a.states - 1) q k w c
    first = exits (m + 1) ts (λ t there low high. own_of t low high (in_star a m t (closed t there (omega (arith, low)) (omega (arith, high))))) k q
        (λ low high. outside (omega (arith, low)) (omega (arith, high))) w c run

    stop : (v : Walk) (d : ℕ) → P v d → (n : ℕ) × Turns network P n v d
    stop v d p = with_turn network P lawful 0 v (stay (end_of v)) v d 0 d p (record { there = lawful.ends v d p; still = refl; free = refl }) refl
        (sym (still_second v (stay (end_of v)) refl)) (omega arith)

    turned : (s : Leaves network ts P (m + 1) q k w c) → Leaves network ts (SomeTurns network P) (m + 1 + a.states) q s.moves s.second s.second_cost → Leaves network ts (SomeTurns network P) (m + 1 + a.states) q k w c
    turned s r =
        let meets : end_of s.first ≡ r.first.start = s.meets ∙ ap (λ (v : Walk). v.start) r.whole in
        record {
          first = joined s.first r.first;
          second = r.second;
          first_cost = s.first_cost + r.first_cost;
          second_cost = r.second_cost;
          early = with_turn network P lawful r.early.0 s.first r.first (joined s.first r.first) s.first_cost r.first_cost (s.first_cost + r.first_cost) s.early r.early.1 meets refl refl;
          moves = r.moves;
          fewer = omega (arith, s.fewer, r.fewer);
          late = r.late;
          meets = end_joined s.first r.first meets ∙ r.meets;
          whole = s.whole ∙ ap (joined s.first) r.whole ∙ sym (joined_assoc s.first r.first r.second);
          cost = omega (arith, s.cost, r.cost);
        }

    by : ((i : ℕ) (v : Walk) (d : ℕ) → i < k → RunsIn network ts i (m + 1) q v d → Leaves network ts (SomeTurns network P) (m + 1 + a.states) q i v d)
        → (j : ℕ) → RunsIn network ts j (m + 1 + a.states - 1) q first.second first.second_cost → first.moves ≡ j → Leaves network ts (SomeTurns network P) (m + 1 + a.states) q k w c
    by loop zero on count = absurd (outside (omega (arith, on.0)) (omega (arith, on.0, range.some)))
    by loop (suc i) move count = after (in_star a m move.transition (closed move.transition move.among (omega (arith, move.leaves)) (omega (arith, move.leaves))))
      where
        leaves : move.transition.from ≡ m + a.states
        leaves = omega (arith, move.leaves)

        at_end : (to : ℕ) → skip (m + a.states) to ≡ move.transition → skip (m + 1 + a.states - 1) to ≡ move.transition
        at_end to same = subst (λ s. skip s to ≡ move.transition) {x = m + a.states} {y = m + 1 + a.states - 1} (omega arith) same

        after : InStar a m move.transition → Leaves network ts (SomeTurns network P) (m + 1 + a.states) q k w c
        after (into same) = absurd (omega (arith, leaves, ap (λ (u : Transition). u.from) same, range.some))
        after (past same) = absurd (omega (arith, leaves, ap (λ (u : Transition). u.from) same, range.some))
        after (own there) = absurd (omega (arith, move.leaves, (range.range (m + 1) move.transition there).1))
        after (again same) =
            let over = skipped network ts P (m + 1 + a.states - 1) (m + 1) q k i first.first first.second w first.first_cost first.second_cost c first.early (omega (arith, count, first.fewer)) move
            (at_end (m + 1) same) first.meets first.whole first.cost in
            turned over (loop over.moves over.second over.second_cost over.fewer over.late)
        after (out same) =
            leaves_as network ts P (SomeTurns network P) (m + 1 + a.states) q k w c stop
            (skipped network ts P (m + 1 + a.states - 1) (m + 1 + a.states) q k i first.first first.second w first.first_cost first.second_cost c first.early (omega (arith, count, first.fewer)) move
            (at_end (m + 1 + a.states) same) first.meets first.whole first.cost)

star_exits : (network : Network) (a : Automaton) (P : Fact) → IsLawful network P → HasRange a → Exits network a P → Exits network (star_of a) (SomeTurns network P)
unfolding Exits
star_exits network a P lawful range exits m ts closed zero q outside w c run = absurd (outside (omega (arith, run.0)) (omega (arith, run.0)))
star_exits network a P lawful range exits m ts closed (suc n) q outside w c run =
    exit_at network ts (SomeTurns network P) (m + 1 + a.states) (m + (2 + a.states) - 1) q (suc n) w c (omega arith)
    (by (in_star a m run.transition (closed run.transition run.among (omega (arith, run.leaves)) (omega (arith, run.leaves)))))
  where
    by : InStar a m run.transition → Leaves network ts (SomeTurns network P) (m + 1 + a.states) q (suc n) w c
    by (into same) =
        let on : RunsIn network ts n (m + 1) q run.second run.second_cost = subst (λ s. RunsIn network ts n s q run.second run.second_cost) (sym (ap (λ (u : Transition). u.to) same)) run.late in
        behind_nothing network ts (SomeTurns network P) (m + 1 + a.states) q n w c m run (sym (ap (λ (u : Transition). u.on) same))
        (star_loop network a P lawful range exits m ts closed q (λ low high. outside low (omega (arith, high))) n n (omega arith) run.second run.second_cost on)
    by (past same) =
        let stays : Stays network run.first run.first_cost = subst (λ (t : Transition). Goes network t.on run.first run.first_cost) (sym same) run.early in
        record {
          first = run.first;
          second = run.second;
          first_cost = run.first_cost;
          second_cost = run.second_cost;
          early = (0, stays);
          moves = n;
          fewer = omega arith;
          late = subst (λ s. RunsIn network ts n s q run.second run.second_cost) (sym (ap (λ (u : Transition). u.to) same)) run.late;
          meets = run.meets;
          whole = run.whole;
          cost = run.cost;
        }
    by (own there) = absurd (omega (arith, run.leaves, (range.range (m + 1) run.transition there).0))
    by (again same) = absurd (omega (arith, run.leaves, ap (λ (u : Transition). u.from) same, range.some))
    by (out same) = absurd (omega (arith, run.leaves, ap (λ (u : Transition). u.from) same, range.some))

ExitsKind : Network → (k : Kind) → AutomataOf k → Facts k → Type 0
ExitsKind network ARegex a P = Exits network a P
ExitsKind network ARow parts facts = ExitAll network parts facts

some_exits : (network : Network) (parts : RegexTree ARow) → IsSome parts → HaveRanges (automaton_of parts) → ExitAll network (automaton_of parts) (conforms network parts)
    → Exits network (in_turn (automaton_of parts)) (InTurn (conforms network parts))
unfolding automaton_of conforms
some_exits network none some ranges all = absurd some
some_exits network (more part parts) some ranges all =
    turn_exits network (automaton_of part) (automaton_of parts) (conforms network part) (conforms network parts) ranges all

expression_exits : (network : Network) → IsNetwork network → {k : Kind} (tree : RegexTree k) → HasParts tree → ExitsKind network k (automaton_of tree) (conforms network tree)
unfolding ExitsKind ExitAll RangeOf Lawful IsFormed conforms automaton_of
expression_exits network is (Label l) parts = symbol_exits network (on.Label l)
expression_exits network is (Back l) parts = symbol_exits network (on.Back l)
expression_exits network is Any parts = symbol_exits network on.Any
expression_exits network is AnyBack parts = symbol_exits network on.AnyBack
expression_exits network is (Test l) parts = symbol_exits network (on.Test l)
expression_exits network is (View v) parts = symbol_exits network (on.View v)
expression_exits network is (Cat row) parts = some_exits network row parts.0 (expression_range row parts.1) (expression_exits network is row parts.1)
expression_exits network is (Alt row) parts = one_exits network (automaton_of row) (conforms network row) (expression_range row parts.1) (expression_exits network is row parts.1)
expression_exits network is (Star part) parts =
    star_exits network (automaton_of part) (conforms network part) (conforms_lawful network is part) (expression_range part parts) (expression_exits network is part parts)
expression_exits network is none parts = tt
expression_exits network is (more part row) parts = (expression_exits network is part parts.0, expression_exits network is row parts.1)

-- every walk that a run from the first state to the last passes conforms, at its cost
pub runs_conform : (network : Network) → IsNetwork network → (tree : RegexTree ARegex) → HasParts tree → (w : Walk) (c : ℕ)
    → Runs network ((automaton_of tree).transitions 0) 0 ((automaton_of tree).states - 1) w c → Conforms network tree w c
unfolding ExitsKind Exits RangeOf
runs_conform network is tree parts w c run = by whole.moves whole.late
  where
    a : Automaton
    a = automaton_of tree

    last : 0 + a.states - 1 ≡ a.states - 1
    last = omega arith

    whole : Leaves network (a.transitions 0) (conforms network tree) (0 + a.states - 1) (a.states - 1) run.0 w c
    whole = expression_exits network is tree parts 0 (a.transitions 0) (λ t there low high. there) run.0 (a.states - 1) (λ low high. omega (arith, high)) w c run.1

    by : (k : ℕ) → RunsIn network (a.transitions 0) k (0 + a.states - 1) (a.states - 1) whole.second whole.second_cost → Conforms network tree w c
    by zero on =
        let same : w ≡ whole.first = whole.whole ∙ still_second whole.first whole.second on.1.still in
        let cost : c ≡ whole.first_cost = omega (arith, whole.cost, on.1.free) in
        subst (λ (v : Walk). conforms network tree v c) (sym same) (subst (λ d. conforms network tree whole.first d) (sym cost) whole.early)
    by (suc k) move =
        absurd (omega (arith, move.leaves, ((expression_range tree parts).range 0 move.transition move.among).1))
