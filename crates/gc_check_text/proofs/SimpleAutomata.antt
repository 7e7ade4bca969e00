-- From a state to a state of an automaton there is one transition at most.
use Rattle.std.proofs.Common.{◌≡◌, ℕ, ◌+◌, ◌-◌, ◌<◌, ◌≤◌, ◌⊎◌, inl, inr, List, [], ◌∷◌, ◌++◌, refl, sym, ap, ◌∙◌, arith}
use Rattle.std.specs.List.{Contains}
use Rattle.gc_automata.specs.Automata.{Automaton, AutomataOf, automaton_of, go, in_turn, one_of, skip, star_of, states_in, symbol, transitions_in_turn, transitions_of_branches}
use Rattle.gc_automata.specs.declared.transition.On.{On}
use Rattle.gc_automata.specs.declared.transition.On.TheVariants as on
use Rattle.gc_automata.specs.declared.transition.Transition.{Transition}
use Rattle.gc_automata.proofs.Inclusion.{among_more, among_none}
use Rattle.gc_automata.proofs.Ranges.{Among, HasRange, HaveRanges, InStar, RangeOf, again, among_parts, before, behind, branches_range, expression_range, in_star, into, itself, out, own, past, turn_range}
use Rattle.gc_regx.specs.Expressions.{HasParts, IsFormed, IsSome}
use Rattle.gc_regx.specs.Trees.{Kind, RegexTree, ARegex, ARow, Label, Back, Any, AnyBack, Test, View, Cat, Alt, Star, none, more}

-- transitions with the same ends are the same
AreSimple : List Transition → Type 0
AreSimple ts = (s t : Transition) → Contains ts s → Contains ts t → s.from ≡ t.from → s.to ≡ t.to → s ≡ t

abbrev IsSimple : Automaton → Type 0
IsSimple a = (m : ℕ) → AreSimple (a.transitions m)

unfoldable EachSimple : List Automaton → Type 0
EachSimple [] = Unit {0}
EachSimple (a ∷ parts) = IsSimple a × EachSimple parts

-- transitions without symbols are the same where their ends are
same_skip : (s t : Transition) (a b d e : ℕ) → skip a b ≡ s → skip d e ≡ t → s.from ≡ t.from → s.to ≡ t.to → s ≡ t
same_skip s t a b d e is are from to =
    let leaves : a ≡ d = ap (λ (u : Transition). u.from) is ∙ (from ∙ sym (ap (λ (u : Transition). u.from) are)) in
    let leads : b ≡ e = ap (λ (u : Transition). u.to) is ∙ (to ∙ sym (ap (λ (u : Transition). u.to) are)) in
    sym is ∙ ((λ i. skip (leaves i) (leads i)) ∙ are)

left_by : (t : Transition) (a b : ℕ) → skip a b ≡ t → a ≡ t.from
left_by t a b is = ap (λ (u : Transition). u.from) is

symbol_simple : (label : On) → IsSimple (symbol label)
unfolding AreSimple
symbol_simple label m s t h g from to = by (among_more (go m (m + 1) label) [] s h) (among_more (go m (m + 1) label) [] t g)
  where
    by : (go m (m + 1) label ≡ s) ⊎ Contains [] s → (go m (m + 1) label ≡ t) ⊎ Contains [] t → s ≡ t
    by (inl is) (inl are) = sym is ∙ are
    by (inr there) other = absurd (among_none s there)
    by (inl is) (inr there) = absurd (among_none t there)

-- a front, an item and a back that leave other states each
apart : (front back : List Transition) (item : Transition) → AreSimple front → AreSimple back
    → ((t : Transition) → Contains front t → t.from < item.from) → ((t : Transition) → Contains back t → item.from < t.from) → AreSimple (front ++ item ∷ back)
unfolding AreSimple
apart front back item one other low high s t h g from to = by (among_parts front item back s h) (among_parts front item back t g)
  where
    is_item : (u : Transition) → item ≡ u → item.from ≡ u.from
    is_item u is = ap (λ (x : Transition). x.from) is

    by : Among front item back s → Among front item back t → s ≡ t
    by (before a) (before b) = one s t a b from to
    by (before a) (itself b) = absurd (omega (arith, low s a, is_item t b, from))
    by (before a) (behind b) = absurd (omega (arith, low s a, high t b, from))
    by (itself a) (before b) = absurd (omega (arith, low t b, is_item s a, from))
    by (itself a) (itself b) = sym a ∙ b
    by (itself a) (behind b) = absurd (omega (arith, high t b, is_item s a, from))
    by (behind a) (before b) = absurd (omega (arith, low t b, high s a, from))
    by (behind a) (itself b) = absurd (omega (arith, high s a, is_item t b, from))
    by (behind a) (behind b) = other s t a b from to

turn_simple : (a : Automaton) (parts : List Automaton) → HaveRanges (a ∷ parts) → EachSimple (a ∷ parts) → IsSimple (in_turn (a ∷ parts))
unfolding HaveRanges EachSimple
turn_simple a [] ranges simple m = simple.0 m
turn_simple a (b ∷ parts) ranges simple m =
    let rest = turn_range b parts ranges.1 in
    apart (a.transitions m) (transitions_in_turn (b ∷ parts) (m + a.states)) (skip (m + a.states - 1) (m + a.states)) (simple.0 m)
    (turn_simple b parts ranges.1 simple.1 (m + a.states))
    (λ t h. let r = ranges.0.range m t h in omega (arith, r.1))
    (λ t h. let r = rest.range (m + a.states) t h in omega (arith, r.0, ranges.0.some))

-- branches, which the state before them leads into
module _ (from to : ℕ) where
  -- where a transition of branches comes from
  data InBranches (a : Automaton) (parts : List Automaton) (m : ℕ) (t : Transition) : Type 0 where
    enters : skip from m ≡ t → InBranches a parts m t
    inside : Contains (a.transitions m) t → InBranches a parts m t
    leaves : skip (m + a.states - 1) to ≡ t → InBranches a parts m t
    later : Contains (transitions_of_branches from to parts (m + a.states)) t → InBranches a parts m t

  in_branches : (a : Automaton) (parts : List Automaton) (m : ℕ) (t : Transition) → Contains (transitions_of_branches from to (a ∷ parts) m) t → InBranches a parts m t
  in_branches a parts m t h =
      first (among_more (skip from m) (a.transitions m ++ skip (m + a.states - 1) to ∷ transitions_of_branches from to parts (m + a.states)) t h)
    where
      second : Among (a.transitions m) (skip (m + a.states - 1) to) (transitions_of_branches from to parts (m + a.states)) t → InBranches a parts m t
      second (before there) = inside there
      second (itself is) = leaves is
      second (behind there) = later there

      first : (skip from m ≡ t) ⊎ Contains (a.transitions m ++ skip (m + a.states - 1) to ∷ transitions_of_branches from to parts (m + a.states)) t → InBranches a parts m t
      first (inl is) = enters is
      first (inr there) =
          second (among_parts (a.transitions m) (skip (m + a.states - 1) to) (transitions_of_branches from to parts (m + a.states)) t there)

  -- a transition that leaves the state before the branches leads into one of them
  enters_later : (parts : List Automaton) → HaveRanges parts → (m : ℕ) → from < m → (t : Transition) → Contains (transitions_of_branches from to parts m) t → from ≡ t.from
      → (k : ℕ) × (m ≤ k) × (skip from k ≡ t)
  unfolding HaveRanges
  enters_later [] ranges m less t h is = absurd (among_none t h)
  enters_later (a ∷ parts) ranges m less t h is = by (λ there. enters_later parts ranges.1 (m + a.states) (omega (arith, less)) t there is) (in_branches a parts m t h)
    where
      by : (Contains (transitions_of_branches from to parts (m + a.states)) t → (k : ℕ) × (m + a.states ≤ k) × (skip from k ≡ t)) → InBranches a parts m t
          → (k : ℕ) × (m ≤ k) × (skip from k ≡ t)
      by rest (enters same) = (m, omega arith, same)
      by rest (inside there) = let r = ranges.0.range m t there in absurd (omega (arith, r.0, less, is))
      by rest (leaves same) = absurd (omega (arith, left_by t (m + a.states - 1) to same, less, is, ranges.0.some))
      by rest (later there) = let found = rest there in (found.0, omega (arith, found.1), found.2)

  branches_simple : (parts : List Automaton) → HaveRanges parts → EachSimple parts → (m : ℕ) → from < m → AreSimple (transitions_of_branches from to parts m)
  unfolding AreSimple HaveRanges EachSimple
  branches_simple [] ranges simple m less s t h g leave lead = absurd (among_none s h)
  branches_simple (a ∷ parts) ranges simple m less s t h g leave lead =
      by (branches_simple parts ranges.1 simple.1 (m + a.states) (omega (arith, less)) s t) (in_branches a parts m s h) (in_branches a parts m t g)
    where
      -- a later transition leaves the state before the branches, or one past these
      past_these : (u : Transition) → Contains (transitions_of_branches from to parts (m + a.states)) u → (from ≡ u.from) ⊎ (m + a.states ≤ u.from)
      past_these u there = either (branches_range from to parts ranges.1 (m + a.states) u there)
        where
          either : (from ≡ u.from) ⊎ ((m + a.states ≤ u.from) × (u.from < m + a.states + states_in parts)) → (from ≡ u.from) ⊎ (m + a.states ≤ u.from)
          either (inl same) = inl same
          either (inr r) = inr r.0

      enter_and_later : (u w : Transition) → skip from m ≡ u → Contains (transitions_of_branches from to parts (m + a.states)) w → u.from ≡ w.from → u.to ≡ w.to → u ≡ w
      enter_and_later u w is there same_from same_to =
          let found = enters_later parts ranges.1 (m + a.states) (omega (arith, less)) w there (left_by u from m is ∙ same_from) in
          same_skip u w from m from found.0 is found.2 same_from same_to

      inside_and_later : (u w : Transition) → Contains (a.transitions m) u → Contains (transitions_of_branches from to parts (m + a.states)) w → u.from ≡ w.from → ⊥
      inside_and_later u w here there same = split (past_these w there)
        where
          split : (from ≡ w.from) ⊎ (m + a.states ≤ w.from) → ⊥
          split (inl is) = let r = ranges.0.range m u here in omega (arith, r.0, less, is, same)
          split (inr above) = let r = ranges.0.range m u here in omega (arith, r.1, above, same)

      leaves_and_later : (u w : Transition) → skip (m + a.states - 1) to ≡ u → Contains (transitions_of_branches from to parts (m + a.states)) w → u.from ≡ w.from → ⊥
      leaves_and_later u w is there same = split (past_these w there)
        where
          split : (from ≡ w.from) ⊎ (m + a.states ≤ w.from) → ⊥
          split (inl at) = omega (arith, left_by u (m + a.states - 1) to is, less, at, same, ranges.0.some)
          split (inr above) = omega (arith, left_by u (m + a.states - 1) to is, above, same, ranges.0.some)

      enter_and_inside : (u w : Transition) → skip from m ≡ u → Contains (a.transitions m) w → u.from ≡ w.from → ⊥
      enter_and_inside u w is here same = let r = ranges.0.range m w here in omega (arith, left_by u from m is, r.0, less, same)

      inside_and_leaves : (u w : Transition) → Contains (a.transitions m) u → skip (m + a.states - 1) to ≡ w → u.from ≡ w.from → ⊥
      inside_and_leaves u w here is same = let r = ranges.0.range m u here in omega (arith, left_by w (m + a.states - 1) to is, r.1, same)

      by : (Contains (transitions_of_branches from to parts (m + a.states)) s → Contains (transitions_of_branches from to parts (m + a.states)) t → s.from ≡ t.from → s.to ≡ t.to → s ≡ t)
          → InBranches a parts m s → InBranches a parts m t → s ≡ t
      by rest (enters p) (enters q) = sym p ∙ q
      by rest (enters p) (inside q) = absurd (enter_and_inside s t p q leave)
      by rest (enters p) (leaves q) = same_skip s t from m (m + a.states - 1) to p q leave lead
      by rest (enters p) (later q) = enter_and_later s t p q leave lead
      by rest (inside p) (enters q) = absurd (enter_and_inside t s q p (sym leave))
      by rest (inside p) (inside q) = simple.0 m s t p q leave lead
      by rest (inside p) (leaves q) = absurd (inside_and_leaves s t p q leave)
      by rest (inside p) (later q) = absurd (inside_and_later s t p q leave)
      by rest (leaves p) (enters q) = same_skip s t (m + a.states - 1) to from m p q leave lead
      by rest (leaves p) (inside q) = absurd (inside_and_leaves t s q p (sym leave))
      by rest (leaves p) (leaves q) = sym p ∙ q
      by rest (leaves p) (later q) = absurd (leaves_and_later s t p q leave)
      by rest (later p) (enters q) = sym (enter_and_later t s q p (sym leave) (sym lead))
      by rest (later p) (inside q) = absurd (inside_and_later t s q p (sym leave))
      by rest (later p) (leaves q) = absurd (leaves_and_later t s q p (sym leave))
      by rest (later p) (later q) = rest p q leave lead

one_simple : (parts : List Automaton) → HaveRanges parts → EachSimple parts → IsSimple (one_of parts)
one_simple parts ranges simple m = branches_simple m (m + 1 + states_in parts) parts ranges simple (m + 1) (omega arith)

star_simple : (a : Automaton) → HasRange a → IsSimple a → IsSimple (star_of a)
unfolding AreSimple
star_simple a range simple m s t h g leave lead = by (in_star a m s h) (in_star a m t g)
  where
    own_and : (u w : Transition) (q k : ℕ) → Contains (a.transitions (m + 1)) u → skip q k ≡ w → u.from ≡ w.from → (q ≡ m) ⊎ (q ≡ m + a.states) → ⊥
    own_and u w q k there is same (inl first) = let r = range.range (m + 1) u there in omega (arith, r.0, left_by w q k is, same, first)
    own_and u w q k there is same (inr last) = let r = range.range (m + 1) u there in omega (arith, r.1, left_by w q k is, same, last)

    by : InStar a m s → InStar a m t → s ≡ t
    by (own p) (own q) = simple (m + 1) s t p q leave lead
    by (own p) (into q) = absurd (own_and s t m (m + 1) p q leave (inl refl))
    by (own p) (past q) = absurd (own_and s t m (m + 1 + a.states) p q leave (inl refl))
    by (own p) (again q) = absurd (own_and s t (m + a.states) (m + 1) p q leave (inr refl))
    by (own p) (out q) = absurd (own_and s t (m + a.states) (m + 1 + a.states) p q leave (inr refl))
    by (into p) (own q) = absurd (own_and t s m (m + 1) q p (sym leave) (inl refl))
    by (past p) (own q) = absurd (own_and t s m (m + 1 + a.states) q p (sym leave) (inl refl))
    by (again p) (own q) = absurd (own_and t s (m + a.states) (m + 1) q p (sym leave) (inr refl))
    by (out p) (own q) = absurd (own_and t s (m + a.states) (m + 1 + a.states) q p (sym leave) (inr refl))
    by (into p) (into q) = sym p ∙ q
    by (into p) (past q) = same_skip s t m (m + 1) m (m + 1 + a.states) p q leave lead
    by (into p) (again q) = same_skip s t m (m + 1) (m + a.states) (m + 1) p q leave lead
    by (into p) (out q) = same_skip s t m (m + 1) (m + a.states) (m + 1 + a.states) p q leave lead
    by (past p) (into q) = same_skip s t m (m + 1 + a.states) m (m + 1) p q leave lead
    by (past p) (past q) = sym p ∙ q
    by (past p) (again q) = same_skip s t m (m + 1 + a.states) (m + a.states) (m + 1) p q leave lead
    by (past p) (out q) = same_skip s t m (m + 1 + a.states) (m + a.states) (m + 1 + a.states) p q leave lead
    by (again p) (into q) = same_skip s t (m + a.states) (m + 1) m (m + 1) p q leave lead
    by (again p) (past q) = same_skip s t (m + a.states) (m + 1) m (m + 1 + a.states) p q leave lead
    by (again p) (again q) = sym p ∙ q
    by (again p) (out q) = same_skip s t (m + a.states) (m + 1) (m + a.states) (m + 1 + a.states) p q leave lead
    by (out p) (into q) = same_skip s t (m + a.states) (m + 1 + a.states) m (m + 1) p q leave lead
    by (out p) (past q) = same_skip s t (m + a.states) (m + 1 + a.states) m (m + 1 + a.states) p q leave lead
    by (out p) (again q) = same_skip s t (m + a.states) (m + 1 + a.states) (m + a.states) (m + 1) p q leave lead
    by (out p) (out q) = sym p ∙ q

abbrev SimpleOf : (k : Kind) → AutomataOf k → Type 0
SimpleOf ARegex a = IsSimple a
SimpleOf ARow parts = EachSimple parts

some_simple : (parts : RegexTree ARow) → IsSome parts → HaveRanges (automaton_of parts) → EachSimple (automaton_of parts) → IsSimple (in_turn (automaton_of parts))
unfolding automaton_of
some_simple none some ranges simple = absurd some
some_simple (more part parts) some ranges simple = turn_simple (automaton_of part) (automaton_of parts) ranges simple

expression_simple : {k : Kind} (tree : RegexTree k) → HasParts tree → SimpleOf k (automaton_of tree)
unfolding RangeOf IsFormed automaton_of EachSimple
expression_simple (Label l) is = symbol_simple (on.Label l)
expression_simple (Back l) is = symbol_simple (on.Back l)
expression_simple Any is = symbol_simple on.Any
expression_simple AnyBack is = symbol_simple on.AnyBack
expression_simple (Test l) is = symbol_simple (on.Test l)
expression_simple (View v) is = symbol_simple (on.View v)
expression_simple (Cat parts) is = some_simple parts is.0 (expression_range parts is.1) (expression_simple parts is.1)
expression_simple (Alt parts) is = one_simple (automaton_of parts) (expression_range parts is.1) (expression_simple parts is.1)
expression_simple (Star part) is = star_simple (automaton_of part) (expression_range part is) (expression_simple part is)
expression_simple none is = tt
expression_simple (more part parts) is = (expression_simple part is.0, expression_simple parts is.1)

pub simple : (tree : RegexTree ARegex) → HasParts tree → (s t : Transition) → Contains ((automaton_of {k = ARegex} tree).transitions 0) s
    → Contains ((automaton_of {k = ARegex} tree).transitions 0) t → s.from ≡ t.from → s.to ≡ t.to → s ≡ t
unfolding AreSimple
simple tree is = expression_simple tree is 0
