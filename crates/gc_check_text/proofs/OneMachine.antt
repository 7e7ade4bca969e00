-- An expression has one automaton in memory.
use Rattle.std.proofs.Common.{◌≡◌, ℕ, suc, ◌<◌, List, [], ◌∷◌, refl, sym, ◌∙◌, arith}
use Rattle.std.proofs.lemmas.List.Sorted.{Contains-permutation, IsPermutation-sym}
use Rattle.std.specs.Cmp.{ranks}
use Rattle.std.specs.List.{AllByRecursion, Contains}
use Rattle.std.specs.List.Sorted.{IsPermutation}
use Rattle.std.specs.Ordering.{MatchOrdering, nat_cmp, ordering_then}
use Rattle.std.specs.declared.cmp.Ordering.{Ordering}
use Rattle.std.specs.declared.cmp.Ordering.TheVariants.{Less, Equal, Greater}
use Rattle.gc_automata.specs.Automata.{automaton_of}
use Rattle.gc_automata.specs.Machines.{IsAutomatonOf, Machine, transition_order}
use Rattle.gc_automata.specs.declared.transition.Transition.{Transition}
use Rattle.gc_automata.proofs.Orders.{transition_order_total}
use Rattle.gc_regx.specs.Expressions.{HasParts}
use Rattle.gc_regx.specs.Trees.{RegexTree, ARegex}
use Rattle.gc_check_text.proofs.SimpleAutomata.{simple}
use Rattle.gc_check_text.proofs.SortedOnce.{sorted_once}

tied : (a b : ℕ) → nat_cmp a b ≡ Equal → a ≡ b
tied a b h = by (nat_cmp a b) h (ranks a b)
  where
    by : (o : Ordering) → o ≡ Equal → MatchOrdering o (a < b) (a ≡ b) (b < a) → a ≡ b
    by Less is m = absurd (cc)
    by Equal is m = m
    by Greater is m = absurd (cc)

both_equal : (o p : Ordering) → ordering_then o p ≡ Equal → (o ≡ Equal) × (p ≡ Equal)
both_equal Less p h = absurd (cc)
both_equal Equal p h = (refl, h)
both_equal Greater p h = absurd (cc)

each_among : {X : Type 0} (P : X → Type 0) (xs : List X) → ((x : X) → Contains xs x → P x) → AllByRecursion P xs
each_among P [] h = tt
each_among P (x ∷ xs) h = (h x (0, omega arith, refl), each_among P xs (λ y there. h y (suc there.0, omega (arith, there.1), there.2)))

module _ (tree : RegexTree ARegex) (has : HasParts tree) where
  abbrev all : List Transition
  all = (automaton_of {k = ARegex} tree).transitions 0

  same : (s t : Transition) → Contains all s → Contains all t → transition_order s t ≡ Equal → s ≡ t
  same s t h g tie =
      let ends = both_equal (nat_cmp s.from t.from) (nat_cmp s.to t.to) tie in
      simple tree has s t h g (tied s.from t.from ends.0) (tied s.to t.to ends.1)

  own : (ts : List Transition) → IsPermutation all ts → AllByRecursion (Contains all) ts
  own ts shuffled = each_among (Contains all) ts (λ t. Contains-permutation ts all t (IsPermutation-sym all ts shuffled))

  pub one_machine : (m n : Machine) → IsAutomatonOf tree m → IsAutomatonOf tree n → m ≡ n
  one_machine m n is are =
      let states : m.states ≡ n.states = is.states ∙ sym are.states in
      let transitions : m.transitions ≡ n.transitions =
      sorted_once transition_order transition_order_total (Contains all) same all m.transitions n.transitions (own m.transitions is.exact) (own n.transitions are.exact)
      is.exact are.exact is.ascend are.ascend in
      λ i. record { states = states i; transitions = transitions i }
