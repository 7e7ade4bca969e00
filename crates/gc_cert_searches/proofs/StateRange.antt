-- To which states the transitions of an automaton lead: to states that it has.
use Rattle.std.proofs.Common.{◌≡◌, ℕ, ◌+◌, ◌-◌, ◌<◌, ◌⊎◌, inl, inr, List, [], ◌∷◌, ◌++◌, ap, arith}
use Rattle.std.specs.List.{Contains}
use Rattle.std.proofs.lemmas.List.Sorted.{Contains-permutation, IsPermutation-sym}
use Rattle.gc_regx.specs.Trees.{Kind, RegexTree, ARegex, ARow, Label, Back, Any, AnyBack, Test, View, Cat, Alt, Star, none, more}
use Rattle.gc_regx.specs.Expressions.{IsFormed, IsSome, HasParts}
use Rattle.gc_automata.specs.declared.transition.On.{On}
use Rattle.gc_automata.specs.declared.transition.On.TheVariants as on
use Rattle.gc_automata.specs.declared.transition.Transition.{Transition}
use Rattle.gc_automata.specs.Automata.{Automaton, AutomataOf, go, skip, symbol, states_in, transitions_in_turn, in_turn, transitions_of_branches, one_of, star_of, automaton_of}
use Rattle.gc_automata.specs.Machines.{IsAutomatonOf, Machine}
use Rattle.gc_automata.proofs.Inclusion.{among_more, among_none}
use Rattle.gc_automata.proofs.Ranges.{Among, before, itself, behind, among_parts, InStar, into, past, own, again, out, in_star}

-- there are states, and each transition leads to one of them
record IsClosed (a : Automaton) : Type 0 where
  some : 0 < a.states
  range : (m : ℕ) (t : Transition) → Contains (a.transitions m) t → t.to < m + a.states

unfoldable AreClosed : List Automaton → Type 0
AreClosed [] = Unit {0}
AreClosed (a ∷ parts) = IsClosed a × AreClosed parts

symbol_closed : (label : On) → IsClosed (symbol label)
symbol_closed label = record { some = omega arith; range = λ m t h. by m t (among_more (go m (m + 1) label) [] t h) }
  where
    by : (m : ℕ) (t : Transition) → (go m (m + 1) label ≡ t) ⊎ Contains [] t → t.to < m + 2
    by m t (inl same) = let to : m + 1 ≡ t.to = ap (λ (u : Transition). u.to) same in omega (arith, to)
    by m t (inr there) = absurd (among_none t there)

turn_closed : (a : Automaton) (parts : List Automaton) → AreClosed (a ∷ parts) → IsClosed (in_turn (a ∷ parts))
unfolding AreClosed
turn_closed a [] all = record {
  some = omega (arith, all.0.some);
  range = λ m t h. let r = all.0.range m t h in omega (arith, r);
}
turn_closed a (b ∷ parts) all =
    let rest = turn_closed b parts all.1 in
    record {
      some = omega (arith, all.0.some);
      range = λ m t h. by rest m t (among_parts (a.transitions m) (skip (m + a.states - 1) (m + a.states)) (transitions_in_turn (b ∷ parts) (m + a.states)) t h);
    }
  where
    by : IsClosed (in_turn (b ∷ parts)) → (m : ℕ) (t : Transition) → Among (a.transitions m) (skip (m + a.states - 1) (m + a.states)) (transitions_in_turn (b ∷ parts) (m + a.states)) t
        → t.to < m + (a.states + states_in (b ∷ parts))
    by rest m t (before h) = let r = all.0.range m t h in omega (arith, r)
    by rest m t (itself same) = let to : m + a.states ≡ t.to = ap (λ (u : Transition). u.to) same in omega (arith, to, rest.some)
    by rest m t (behind h) = let r = rest.range (m + a.states) t h in omega (arith, r)

-- transitions of branches lead to the state behind them, or to one of theirs
branches_closed : (from to : ℕ) (parts : List Automaton) → AreClosed parts → (m : ℕ) (t : Transition) → Contains (transitions_of_branches from to parts m) t
    → (to ≡ t.to) ⊎ (t.to < m + states_in parts)
unfolding AreClosed
branches_closed from to [] all m t h = absurd (among_none t h)
branches_closed from to (a ∷ parts) all m t h =
    by (λ there. branches_closed from to parts all.1 (m + a.states) t there) (among_more (skip from m) _ t h)
  where
    widened : (to ≡ t.to) ⊎ (t.to < m + a.states + states_in parts) → (to ≡ t.to) ⊎ (t.to < m + (a.states + states_in parts))
    widened (inl same) = inl same
    widened (inr r) = inr (omega (arith, r))

    inner : (Contains (transitions_of_branches from to parts (m + a.states)) t → (to ≡ t.to) ⊎ (t.to < m + a.states + states_in parts))
        → Among (a.transitions m) (skip (m + a.states - 1) to) (transitions_of_branches from to parts (m + a.states)) t
        → (to ≡ t.to) ⊎ (t.to < m + (a.states + states_in parts))
    inner later (before h) = let r = all.0.range m t h in inr (omega (arith, r))
    inner later (itself same) = inl (ap (λ (u : Transition). u.to) same)
    inner later (behind h) = widened (later h)

    by : (Contains (transitions_of_branches from to parts (m + a.states)) t → (to ≡ t.to) ⊎ (t.to < m + a.states + states_in parts))
        → (skip from m ≡ t) ⊎ Contains (a.transitions m ++ skip (m + a.states - 1) to ∷ transitions_of_branches from to parts (m + a.states)) t
        → (to ≡ t.to) ⊎ (t.to < m + (a.states + states_in parts))
    by later (inl same) = let leads : m ≡ t.to = ap (λ (u : Transition). u.to) same in inr (omega (arith, leads, all.0.some))
    by later (inr there) = inner later (among_parts (a.transitions m) (skip (m + a.states - 1) to) (transitions_of_branches from to parts (m + a.states)) t there)

one_closed : (parts : List Automaton) → AreClosed parts → IsClosed (one_of parts)
one_closed parts all = record { some = omega arith; range = λ m t h. by m t (branches_closed m (m + 1 + states_in parts) parts all (m + 1) t h) }
  where
    by : (m : ℕ) (t : Transition) → (m + 1 + states_in parts ≡ t.to) ⊎ (t.to < m + 1 + states_in parts) → t.to < m + (2 + states_in parts)
    by m t (inl same) = omega (arith, same)
    by m t (inr r) = omega (arith, r)

star_closed : (a : Automaton) → IsClosed a → IsClosed (star_of a)
star_closed a has = record { some = omega arith; range = λ m t h. by m t (in_star a m t h) }
  where
    by : (m : ℕ) (t : Transition) → InStar a m t → t.to < m + (2 + a.states)
    by m t (into same) = let to : m + 1 ≡ t.to = ap (λ (u : Transition). u.to) same in omega (arith, to)
    by m t (past same) = let to : m + 1 + a.states ≡ t.to = ap (λ (u : Transition). u.to) same in omega (arith, to)
    by m t (own there) = let r = has.range (m + 1) t there in omega (arith, r)
    by m t (again same) = let to : m + 1 ≡ t.to = ap (λ (u : Transition). u.to) same in omega (arith, to)
    by m t (out same) = let to : m + 1 + a.states ≡ t.to = ap (λ (u : Transition). u.to) same in omega (arith, to)

unfoldable ClosedOf : (k : Kind) → AutomataOf k → Type 0
ClosedOf ARegex a = IsClosed a
ClosedOf ARow parts = AreClosed parts

some_closed : (parts : RegexTree ARow) → IsSome parts → AreClosed (automaton_of parts) → IsClosed (in_turn (automaton_of parts))
unfolding automaton_of
some_closed none some all = absurd some
some_closed (more part parts) some all = turn_closed (automaton_of part) (automaton_of parts) all

expression_closed : {k : Kind} (tree : RegexTree k) → HasParts tree → ClosedOf k (automaton_of tree)
unfolding ClosedOf AreClosed IsFormed automaton_of
expression_closed (Label l) is = symbol_closed (on.Label l)
expression_closed (Back l) is = symbol_closed (on.Back l)
expression_closed Any is = symbol_closed on.Any
expression_closed AnyBack is = symbol_closed on.AnyBack
expression_closed (Test l) is = symbol_closed (on.Test l)
expression_closed (View v) is = symbol_closed (on.View v)
expression_closed (Cat parts) is = some_closed parts is.0 (expression_closed parts is.1)
expression_closed (Alt parts) is = one_closed (automaton_of parts) (expression_closed parts is.1)
expression_closed (Star part) is = star_closed (automaton_of part) (expression_closed part is)
expression_closed none is = tt
expression_closed (more part parts) is = (expression_closed part is.0, expression_closed parts is.1)

own_closed : (tree : RegexTree ARegex) → HasParts tree → IsClosed (automaton_of {k = ARegex} tree)
unfolding ClosedOf
own_closed tree parts = expression_closed tree parts

module _ (tree : RegexTree ARegex) (parts : HasParts tree) (machine : Machine) (is : IsAutomatonOf tree machine) where
  -- a machine has a state, and its transitions lead to states that it has
  pub some_state : 0 < machine.states
  some_state = omega (arith, (own_closed tree parts).some, is.states)

  pub state_below : (t : Transition) → Contains machine.transitions t → t.to < machine.states
  state_below t h =
      let own = Contains-permutation machine.transitions ((automaton_of {k = ARegex} tree).transitions 0) t
      (IsPermutation-sym ((automaton_of {k = ARegex} tree).transitions 0) machine.transitions is.exact) h in
      omega (arith, (own_closed tree parts).range 0 t own, is.states)
