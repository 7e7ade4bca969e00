-- How many moves pairs have together, each once.
use Rattle.std.proofs.Common.{◌≡◌, ℕ, ◌+◌, ◌*◌, ◌≤◌, Bool, true, false, cond, ◌||◌, ◌&&◌, ◌==◌, List, [], ◌∷◌, map, length, refl, ap, ap₂, subst, ◌∙◌, arith, sum_by, length-append}
use Rattle.std.specs.List.{flat_map}
use Rattle.std.proofs.lemmas.Bool.Decides.{nat_tests}
use Rattle.std.proofs.lemmas.List.{length-map}
use Rattle.std.proofs.lemmas.List.Sums.{sum_by-cons}
use Rattle.gc_automata.specs.Moves.{Network}
use Rattle.gc_automata.specs.declared.transition.Transition.{Transition}
use Rattle.gc_prod.specs.declared.moves.Hop.{Hop}
use Rattle.gc_prod.specs.declared.moves.Pair.{Pair}
use Rattle.gc_prod.specs.Keys.{at_key}
use Rattle.gc_prod.specs.Leading.{pair}
use Rattle.gc_prod.specs.Products.{Setting, bundle_of, leaving, moved, moves_by}
use Rattle.gc_prod.specs.SymbolHops.{hops}
use Rattle.gc_prod.proofs.HopCounts.{elements, hops_most}
use Rattle.gc_reach.specs.Exploring.{AreApart, work, most_moves}
use Rattle.gc_reach.specs.Marking.{same_pair, has_pair}

abbrev one : Bool → ℕ
one b = cond b 1 0

module _ {X : Type 0} where
  -- sums of sums
  sum_both : (f g h : X → ℕ) (xs : List X) → ((x : X) → h x ≡ f x + g x) → sum_by h xs ≡ sum_by f xs + sum_by g xs
  sum_both f g h [] each = omega arith
  sum_both f g h (x ∷ xs) each = omega (arith, each x, sum_both f g h xs each, sum_by-cons f x xs, sum_by-cons g x xs, sum_by-cons h x xs)

  sum_none : (f : X → ℕ) (xs : List X) → ((x : X) → f x ≡ 0) → sum_by f xs ≡ 0
  sum_none f [] each = omega arith
  sum_none f (x ∷ xs) each = omega (arith, each x, sum_none f xs each, sum_by-cons f x xs)

  sum_same : (f g : X → ℕ) (xs : List X) → ((x : X) → f x ≡ g x) → sum_by f xs ≡ sum_by g xs
  sum_same f g [] each = refl
  sum_same f g (x ∷ xs) each = omega (arith, each x, sum_same f g xs each, sum_by-cons f x xs, sum_by-cons g x xs)

  sum_most : (f : X → ℕ) (most : ℕ) (xs : List X) → ((x : X) → f x ≤ most) → sum_by f xs ≤ length xs * most
  sum_most f most [] each = omega arith
  sum_most f most (x ∷ xs) each =
      let rest = sum_most f most xs each in
      omega (arith, each x, rest, sum_by-cons f x xs)

-- of pairs that are apart, one at most is a given one
none_same : (pairs : List Pair) (q : Pair) → has_pair pairs q ≡ false → sum_by (λ p. one (same_pair p q)) pairs ≡ 0
none_same [] q h = omega arith
none_same (p ∷ pairs) q h = by (none_same pairs q) (same_pair p q) refl h
  where
    by : (has_pair pairs q ≡ false → sum_by (λ r. one (same_pair r q)) pairs ≡ 0) → (b : Bool) → same_pair p q ≡ b → (b || has_pair pairs q) ≡ false → sum_by (λ r. one (same_pair r q)) (p ∷ pairs) ≡ 0
    by next true e k = cc
    by next false e k = omega (arith, ap one e, next k, sum_by-cons (λ (r : Pair). one (same_pair r q)) p pairs)

eqb_same : (a b : ℕ) → (a == b) ≡ true → a ≡ b
eqb_same a b h = grind (arith, nat_tests)

and_both : (a b : Bool) → (a && b) ≡ true → (a ≡ true) × (b ≡ true)
and_both true b h = (refl, h)
and_both false b h = cc

same_is : (p q : Pair) → same_pair p q ≡ true → p ≡ q
same_is p q h =
    let both = and_both _ _ h in
    let node = eqb_same p.node q.node both.0 in
    let state = eqb_same p.state q.state both.1 in
    λ j. record { node = node j; state = state j }

one_same : (pairs : List Pair) (q : Pair) → AreApart pairs → sum_by (λ p. one (same_pair p q)) pairs ≤ 1
one_same [] q apart = omega arith
one_same (p ∷ pairs) q apart = by (one_same pairs q apart.1) (same_pair p q) refl
  where
    by : sum_by (λ r. one (same_pair r q)) pairs ≤ 1 → (b : Bool) → same_pair p q ≡ b → sum_by (λ r. one (same_pair r q)) (p ∷ pairs) ≤ 1
    by rest true e =
        let others = none_same pairs q (subst (λ r. has_pair pairs r ≡ false) (same_is p q e) apart.0) in
        omega (arith, ap one e, others, sum_by-cons (λ (r : Pair). one (same_pair r q)) p pairs)
    by rest false e = omega (arith, ap one e, rest, sum_by-cons (λ (r : Pair). one (same_pair r q)) p pairs)

eqb_turned : (a b : ℕ) → (a == b) ≡ (b == a)
eqb_turned a b = grind (arith, nat_tests)

one_or_none : (x y : Bool) (h : Hop) (rest : List Hop) → cond x (length (cond y (h ∷ rest) rest)) 0 ≡ one (y && x) + cond x (length rest) 0
one_or_none true true h rest = omega arith
one_or_none true false h rest = omega arith
one_or_none false true h rest = omega arith
one_or_none false false h rest = omega arith

nothing : (b : Bool) → cond b (length {A = Hop} []) 0 ≡ 0
nothing true = refl
nothing false = refl

-- along one symbol, pairs of one state that are apart have no more hops than there are
module _ (state : ℕ) (pairs : List Pair) (apart : AreApart pairs) where
  abbrev hops_at : List Hop → Pair → ℕ
  hops_at found p = cond (state == p.state) (length (at_key (λ h. h.from) p.node found)) 0

  one_hop : (h : Hop) (found : List Hop) (p : Pair) → hops_at (h ∷ found) p ≡ one (same_pair p (pair h.from state)) + hops_at found p
  one_hop h found p =
      one_or_none (state == p.state) (h.from == p.node) h (at_key (λ h. h.from) p.node found)
      ∙ ap₂ (λ a b. one (a && b) + hops_at found p) (eqb_turned h.from p.node) (eqb_turned state p.state)

  along_most : (found : List Hop) → sum_by (hops_at found) pairs ≤ length found
  along_most [] = let none = sum_none (hops_at []) pairs (λ p. nothing (state == p.state)) in omega (arith, none)
  along_most (h ∷ found) =
      let split = sum_both (λ (p : Pair). one (same_pair p (pair h.from state))) (hops_at found) (hops_at (h ∷ found)) pairs (one_hop h found) in
      omega (arith, split, one_same pairs (pair h.from state) apart, along_most found)

module _ (network : Network) (pairs : List Pair) (apart : AreApart pairs) where
  -- the moves of a pair along some transitions
  abbrev count_along : List Transition → Pair → ℕ
  count_along ts p = length (flat_map moves_by (map (bundle_of network p.node) (leaving p.state ts)))

  first_and_rest : (t : Transition) (ts : List Transition) (p : Pair) → count_along (t ∷ ts) p ≡ hops_at t.from pairs apart (hops network t.on) p + count_along ts p
  first_and_rest t ts p =
      let b = bundle_of network p.node t in
      elim (t.from == p.state) as (λ x. length (flat_map moves_by (map (bundle_of network p.node) (cond x (t ∷ leaving p.state ts) (leaving p.state ts)))) ≡ cond x (length b.hops) 0 + count_along ts p) [
        | true ↦ length-append (moves_by b) (flat_map moves_by (map (bundle_of network p.node) (leaving p.state ts))) ∙ ap (λ n. n + count_along ts p) (length-map b.hops (moved b.state))
        | false ↦ omega arith
      ]

  most_along : (ts : List Transition) → sum_by (count_along ts) pairs ≤ length ts * elements network
  most_along [] = let none = sum_none (count_along []) pairs (λ p. refl) in omega (arith, none)
  most_along (t ∷ ts) =
      let split = sum_both (hops_at t.from pairs apart (hops network t.on)) (count_along ts) (count_along (t ∷ ts)) pairs (first_and_rest t ts) in
      omega (arith, split, along_most t.from pairs apart (hops network t.on), hops_most network t.on, most_along ts)

pub work_most : (setting : Setting) (pairs : List Pair) → AreApart pairs → work setting pairs ≤ most_moves setting
work_most setting pairs apart = most_along setting.network pairs apart setting.machine.transitions
