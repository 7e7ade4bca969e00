-- From which states the transitions of an automaton lead: never from its last one.
use Rattle.std.proofs.Common.{◌≡◌, ℕ, zero, suc, ◌+◌, ◌-◌, ◌<◌, ◌≤◌, ◌⊎◌, inl, inr, List, [], ◌∷◌, ◌++◌, refl, sym, ap, subst, ◌∙◌, arith}
use Rattle.std.specs.List.{Contains}
use Rattle.std.proofs.lemmas.List.Elements.{Contains-append_cases}
use Rattle.gc_regx.specs.Trees.{Kind, RegexTree, ARegex, ARow, Label, Back, Any, AnyBack, Test, View, Cat, Alt, Star, none, more}
use Rattle.gc_automata.specs.declared.transition.On.{On}
use Rattle.gc_automata.specs.declared.transition.On.TheVariants as on
use Rattle.gc_automata.specs.declared.transition.Transition.{Transition}
use Rattle.gc_automata.specs.Automata.{Automaton, AutomataOf, go, skip, symbol, states_in, transitions_in_turn, in_turn, transitions_of_branches, one_of, star_of, automaton_of}
use Rattle.gc_regx.specs.Expressions.{IsFormed, IsSome, HasParts}
use Rattle.gc_automata.proofs.Inclusion.{among_more, among_none}

-- there are states, and each transition leaves one of them that is not the last
pub record HasRange (a : Automaton) : Type 0 where
  pub some : 0 < a.states
  pub range : (m : ℕ) (t : Transition) → Contains (a.transitions m) t → (m ≤ t.from) × (t.from < m + a.states - 1)

unfoldable pub HaveRanges : List Automaton → Type 0
HaveRanges [] = Unit {0}
HaveRanges (a ∷ parts) = HasRange a × HaveRanges parts

-- what is among a front, an item and a back
pub data Among (front : List Transition) (item : Transition) (back : List Transition) (t : Transition) : Type 0 where
  before : Contains front t → Among front item back t
  itself : item ≡ t → Among front item back t
  behind : Contains back t → Among front item back t

pub among_parts : (front : List Transition) (item : Transition) (back : List Transition) (t : Transition) → Contains (front ++ item ∷ back) t → Among front item back t
among_parts front item back t h = by (Contains-append_cases front (item ∷ back) t h)
  where
    later : (item ≡ t) ⊎ Contains back t → Among front item back t
    later (inl same) = itself same
    later (inr there) = behind there

    by : Contains front t ⊎ Contains (item ∷ back) t → Among front item back t
    by (inl there) = before there
    by (inr there) = later (among_more item back t there)

symbol_range : (label : On) → HasRange (symbol label)
symbol_range label = record { some = omega arith; range = λ m t h. by m t (among_more (go m (m + 1) label) [] t h) }
  where
    by : (m : ℕ) (t : Transition) → (go m (m + 1) label ≡ t) ⊎ Contains [] t → (m ≤ t.from) × (t.from < m + 2 - 1)
    by m t (inl same) = let from : m ≡ t.from = ap (λ (u : Transition). u.from) same in (omega (arith, from), omega (arith, from))
    by m t (inr there) = absurd (among_none t there)

pub turn_range : (a : Automaton) (parts : List Automaton) → HaveRanges (a ∷ parts) → HasRange (in_turn (a ∷ parts))
unfolding HaveRanges
turn_range a [] all = record {
  some = omega (arith, all.0.some);
  range = λ m t h. let r = all.0.range m t h in (r.0, omega (arith, r.1));
}
turn_range a (b ∷ parts) all =
    let rest = turn_range b parts all.1 in
    record {
      some = omega (arith, all.0.some);
      range = λ m t h. by rest m t (among_parts (a.transitions m) (skip (m + a.states - 1) (m + a.states)) (transitions_in_turn (b ∷ parts) (m + a.states)) t h);
    }
  where
    by : HasRange (in_turn (b ∷ parts)) → (m : ℕ) (t : Transition) → Among (a.transitions m) (skip (m + a.states - 1) (m + a.states)) (transitions_in_turn (b ∷ parts) (m + a.states)) t
        → (m ≤ t.from) × (t.from < m + (a.states + states_in (b ∷ parts)) - 1)
    by rest m t (before h) = let r = all.0.range m t h in (r.0, omega (arith, r.1, rest.some))
    by rest m t (itself same) =
        let from : m + a.states - 1 ≡ t.from = ap (λ (u : Transition). u.from) same in
        (omega (arith, from, all.0.some), omega (arith, from, all.0.some, rest.some))
    by rest m t (behind h) = let r = rest.range (m + a.states) t h in (omega (arith, r.0), omega (arith, r.1))

-- transitions of branches leave the state before them, or one of theirs
pub branches_range : (from to : ℕ) (parts : List Automaton) → HaveRanges parts → (m : ℕ) (t : Transition) → Contains (transitions_of_branches from to parts m) t
    → (from ≡ t.from) ⊎ ((m ≤ t.from) × (t.from < m + states_in parts))
unfolding HaveRanges
branches_range from to [] all m t h = absurd (among_none t h)
branches_range from to (a ∷ parts) all m t h =
    by (λ there. branches_range from to parts all.1 (m + a.states) t there) (among_more (skip from m) _ t h)
  where
    widened : (from ≡ t.from) ⊎ ((m + a.states ≤ t.from) × (t.from < m + a.states + states_in parts)) → (from ≡ t.from) ⊎ ((m ≤ t.from) × (t.from < m + (a.states + states_in parts)))
    widened (inl same) = inl same
    widened (inr r) = inr (omega (arith, r.0), omega (arith, r.1))

    inner : (Contains (transitions_of_branches from to parts (m + a.states)) t → (from ≡ t.from) ⊎ ((m + a.states ≤ t.from) × (t.from < m + a.states + states_in parts)))
        → Among (a.transitions m) (skip (m + a.states - 1) to) (transitions_of_branches from to parts (m + a.states)) t
        → (from ≡ t.from) ⊎ ((m ≤ t.from) × (t.from < m + (a.states + states_in parts)))
    inner later (before h) = let r = all.0.range m t h in inr (r.0, omega (arith, r.1))
    inner later (itself same) =
        let leaves : m + a.states - 1 ≡ t.from = ap (λ (u : Transition). u.from) same in
        inr (omega (arith, leaves, all.0.some), omega (arith, leaves, all.0.some))
    inner later (behind h) = widened (later h)

    by : (Contains (transitions_of_branches from to parts (m + a.states)) t → (from ≡ t.from) ⊎ ((m + a.states ≤ t.from) × (t.from < m + a.states + states_in parts)))
        → (skip from m ≡ t) ⊎ Contains (a.transitions m ++ skip (m + a.states - 1) to ∷ transitions_of_branches from to parts (m + a.states)) t
        → (from ≡ t.from) ⊎ ((m ≤ t.from) × (t.from < m + (a.states + states_in parts)))
    by later (inl same) = inl (ap (λ (u : Transition). u.from) same)
    by later (inr there) = inner later (among_parts (a.transitions m) (skip (m + a.states - 1) to) (transitions_of_branches from to parts (m + a.states)) t there)

one_range : (parts : List Automaton) → HaveRanges parts → HasRange (one_of parts)
one_range parts all = record { some = omega arith; range = λ m t h. by m t (branches_range m (m + 1 + states_in parts) parts all (m + 1) t h) }
  where
    by : (m : ℕ) (t : Transition) → (m ≡ t.from) ⊎ ((m + 1 ≤ t.from) × (t.from < m + 1 + states_in parts)) → (m ≤ t.from) × (t.from < m + (2 + states_in parts) - 1)
    by m t (inl same) = (omega (arith, same), omega (arith, same))
    by m t (inr r) = (omega (arith, r.0), omega (arith, r.1))

-- where a transition of a star comes from
pub data InStar (a : Automaton) (m : ℕ) (t : Transition) : Type 0 where
  into : skip m (m + 1) ≡ t → InStar a m t
  past : skip m (m + 1 + a.states) ≡ t → InStar a m t
  own : Contains (a.transitions (m + 1)) t → InStar a m t
  again : skip (m + a.states) (m + 1) ≡ t → InStar a m t
  out : skip (m + a.states) (m + 1 + a.states) ≡ t → InStar a m t

pub in_star : (a : Automaton) (m : ℕ) (t : Transition) → Contains ((star_of a).transitions m) t → InStar a m t
in_star a m t h =
    first (among_more (skip m (m + 1)) (skip m (m + 1 + a.states) ∷ a.transitions (m + 1) ++ skip (m + a.states) (m + 1) ∷ skip (m + a.states) (m + 1 + a.states) ∷ []) t h)
  where
    last : (skip (m + a.states) (m + 1 + a.states) ≡ t) ⊎ Contains [] t → InStar a m t
    last (inl same) = out same
    last (inr there) = absurd (among_none t there)

    third : Among (a.transitions (m + 1)) (skip (m + a.states) (m + 1)) (skip (m + a.states) (m + 1 + a.states) ∷ []) t → InStar a m t
    third (before there) = own there
    third (itself same) = again same
    third (behind there) = last (among_more (skip (m + a.states) (m + 1 + a.states)) [] t there)

    second : (skip m (m + 1 + a.states) ≡ t) ⊎ Contains (a.transitions (m + 1) ++ skip (m + a.states) (m + 1) ∷ skip (m + a.states) (m + 1 + a.states) ∷ []) t → InStar a m t
    second (inl same) = past same
    second (inr there) = third (among_parts (a.transitions (m + 1)) (skip (m + a.states) (m + 1)) (skip (m + a.states) (m + 1 + a.states) ∷ []) t there)

    first : (skip m (m + 1) ≡ t) ⊎ Contains (skip m (m + 1 + a.states) ∷ a.transitions (m + 1) ++ skip (m + a.states) (m + 1) ∷ skip (m + a.states) (m + 1 + a.states) ∷ []) t → InStar a m t
    first (inl same) = into same
    first (inr there) =
        second (among_more (skip m (m + 1 + a.states)) (a.transitions (m + 1) ++ skip (m + a.states) (m + 1) ∷ skip (m + a.states) (m + 1 + a.states) ∷ []) t there)

star_range : (a : Automaton) → HasRange a → HasRange (star_of a)
star_range a has = record { some = omega arith; range = λ m t h. by m t (in_star a m t h) }
  where
    by : (m : ℕ) (t : Transition) → InStar a m t → (m ≤ t.from) × (t.from < m + (2 + a.states) - 1)
    by m t (into same) = let leaves : m ≡ t.from = ap (λ (u : Transition). u.from) same in (omega (arith, leaves), omega (arith, leaves))
    by m t (past same) = let leaves : m ≡ t.from = ap (λ (u : Transition). u.from) same in (omega (arith, leaves), omega (arith, leaves))
    by m t (own there) = let r = has.range (m + 1) t there in (omega (arith, r.0), omega (arith, r.1))
    by m t (again same) = let leaves : m + a.states ≡ t.from = ap (λ (u : Transition). u.from) same in (omega (arith, leaves), omega (arith, leaves))
    by m t (out same) = let leaves : m + a.states ≡ t.from = ap (λ (u : Transition). u.from) same in (omega (arith, leaves), omega (arith, leaves))

unfoldable pub RangeOf : (k : Kind) → AutomataOf k → Type 0
RangeOf ARegex a = HasRange a
RangeOf ARow parts = HaveRanges parts

some_range : (parts : RegexTree ARow) → IsSome parts → HaveRanges (automaton_of parts) → HasRange (in_turn (automaton_of parts))
unfolding automaton_of
some_range none some all = absurd some
some_range (more part parts) some all = turn_range (automaton_of part) (automaton_of parts) all

pub expression_range : {k : Kind} (tree : RegexTree k) → HasParts tree → RangeOf k (automaton_of tree)
unfolding RangeOf HaveRanges IsFormed automaton_of
expression_range (Label l) is = symbol_range (on.Label l)
expression_range (Back l) is = symbol_range (on.Back l)
expression_range Any is = symbol_range on.Any
expression_range AnyBack is = symbol_range on.AnyBack
expression_range (Test l) is = symbol_range (on.Test l)
expression_range (View v) is = symbol_range (on.View v)
expression_range (Cat parts) is = some_range parts is.0 (expression_range parts is.1)
expression_range (Alt parts) is = one_range (automaton_of parts) (expression_range parts is.1)
expression_range (Star part) is = star_range (automaton_of part) (expression_range part is)
expression_range none is = tt
expression_range (more part parts) is = (expression_range part is.0, expression_range parts is.1)
