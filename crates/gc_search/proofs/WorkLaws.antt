-- How many moves walks have behind them, of which no pair has more than k.
use Rattle.std.proofs.Common.{◌≡◌, ℕ, suc, ◌+◌, ◌*◌, ◌<◌, ◌≤◌, Bool, true, false, cond, ◌&&◌, ◌==◌, List, [], ◌∷◌, ◌++◌, inl, inr, map, length, nat_lt, refl, ap, ap₂, subst, ◌∙◌, arith, sum_by, length-append}
use Rattle.std.specs.List.{flat_map}
use Rattle.std.proofs.Math.Nat.{mul-le-mul_left}
use Rattle.std.proofs.lemmas.Bool.Decides.{nat_tests}
use Rattle.std.proofs.lemmas.List.{length-map}
use Rattle.std.proofs.lemmas.List.Sums.{sum_by-cons, sum_by-append}
use Rattle.gc_automata.specs.Moves.{Network}
use Rattle.gc_automata.specs.declared.transition.Transition.{Transition}
use Rattle.gc_prod.specs.declared.moves.Hop.{Hop}
use Rattle.gc_prod.specs.declared.moves.Move.{Move}
use Rattle.gc_prod.specs.declared.moves.Pair.{Pair}
use Rattle.gc_prod.specs.Keys.{at_key}
use Rattle.gc_prod.specs.Leading.{pair, target_of}
use Rattle.gc_prod.specs.Products.{Setting, bundle_of, leaving, moved, moves_by}
use Rattle.gc_prod.specs.SymbolHops.{hops}
use Rattle.gc_prod.proofs.HopCounts.{elements, hops_most}
use Rattle.gc_search.specs.Arrivals.{FoundWalk, entry_of, same_pair, arrivals_at, settled_at, open_moves}
use Rattle.gc_search.specs.Counting.{degree, asked, most_moves}
use Rattle.gc_search.proofs.Flat.{settled_here, settled_elsewhere}

abbrev one : Bool → ℕ
one b = cond b 1 0

module _ {X : Type 0} where
  -- sums of sums
  sum_both : (f g h : X → ℕ) (xs : List X) → ((x : X) → h x ≡ f x + g x) → sum_by h xs ≡ sum_by f xs + sum_by g xs
  sum_both f g h [] each = omega arith
  sum_both f g h (x ∷ xs) each = omega (arith, each x, sum_both f g h xs each, sum_by-cons f x xs, sum_by-cons g x xs, sum_by-cons h x xs)

  sum_none : (f : X → ℕ) (xs : List X) → ((x : X) → f x ≡ 0) → sum_by f xs ≡ 0
  sum_none f [] each = omega arith
  sum_none f (x ∷ xs) each = omega (arith, each x, sum_none f xs each, sum_by-cons f x xs)

one_length : (b : Bool) (a : FoundWalk) (rest : List FoundWalk) → length (cond b (a ∷ rest) rest) ≡ one b + length rest
one_length true a rest = omega arith
one_length false a rest = omega arith

-- so many walks arrive at a pair
count_same : (walks : List FoundWalk) (q : Pair) → sum_by (λ a. one (same_pair a.at q)) walks ≡ length (arrivals_at walks q)
count_same [] q = omega arith
count_same (a ∷ walks) q =
    omega (arith, sum_by-cons (λ (b : FoundWalk). one (same_pair b.at q)) a walks, one_length (same_pair a.at q) a (arrivals_at walks q), count_same walks q)

eqb_turned : (a b : ℕ) → (a == b) ≡ (b == a)
eqb_turned a b = grind (arith, nat_tests)

one_or_none : (x y : Bool) (h : Hop) (rest : List Hop) → cond x (length (cond y (h ∷ rest) rest)) 0 ≡ one (y && x) + cond x (length rest) 0
one_or_none true true h rest = omega arith
one_or_none true false h rest = omega arith
one_or_none false true h rest = omega arith
one_or_none false false h rest = omega arith

nothing : (b : Bool) → cond b (length {A = Hop} []) 0 ≡ 0
nothing true = refl
nothing false = refl

times_more : (k n : ℕ) → k * suc n ≡ k * n + k
times_more k n = omega arith

-- along one symbol, walks that end in one state have no more hops behind them than k for each that there is
module _ (walks : List FoundWalk) (k : ℕ) (few : (q : Pair) → length (arrivals_at walks q) ≤ k) where
  abbrev hops_at : ℕ → List Hop → FoundWalk → ℕ
  hops_at state found a = cond (state == a.at.state) (length (at_key (λ h. h.from) a.at.node found)) 0

  one_hop : (state : ℕ) (h : Hop) (found : List Hop) (a : FoundWalk) → hops_at state (h ∷ found) a ≡ one (same_pair a.at (pair h.from state)) + hops_at state found a
  one_hop state h found a =
      one_or_none (state == a.at.state) (h.from == a.at.node) h (at_key (λ h. h.from) a.at.node found)
      ∙ ap₂ (λ x y. one (x && y) + hops_at state found a) (eqb_turned h.from a.at.node) (eqb_turned state a.at.state)

  along_most : (state : ℕ) (found : List Hop) → sum_by (hops_at state found) walks ≤ k * length found
  along_most state [] = let none = sum_none (hops_at state []) walks (λ a. nothing (state == a.at.state)) in omega (arith, none)
  along_most state (h ∷ found) =
      let q = pair h.from state in
      let split = sum_both (λ (a : FoundWalk). one (same_pair a.at q)) (hops_at state found) (hops_at state (h ∷ found)) walks (one_hop state h found) in
      omega (arith, split, count_same walks q, few q, along_most state found, times_more k (length found))

  module _ (network : Network) where
    -- the moves behind a walk along some transitions
    abbrev count_along : List Transition → FoundWalk → ℕ
    count_along ts a = length (flat_map moves_by (map (bundle_of network a.at.node) (leaving a.at.state ts)))

    first_and_rest : (t : Transition) (ts : List Transition) (a : FoundWalk) → count_along (t ∷ ts) a ≡ hops_at t.from (hops network t.on) a + count_along ts a
    first_and_rest t ts a =
        let b = bundle_of network a.at.node t in
        elim (t.from == a.at.state) as (λ x. length (flat_map moves_by (map (bundle_of network a.at.node) (cond x (t ∷ leaving a.at.state ts) (leaving a.at.state ts)))) ≡ cond x (length b.hops) 0 + count_along ts a) [
          | true ↦ length-append (moves_by b) (flat_map moves_by (map (bundle_of network a.at.node) (leaving a.at.state ts))) ∙ ap (λ n. n + count_along ts a) (length-map b.hops (moved b.state))
          | false ↦ omega arith
        ]

    most_along : (most : ℕ) → k * elements network ≤ most → (ts : List Transition) → sum_by (count_along ts) walks ≤ length ts * most
    most_along most le [] = let none = sum_none (count_along []) walks (λ a. refl) in omega (arith, none)
    most_along most le (t ∷ ts) =
        let split = sum_both (hops_at t.from (hops network t.on)) (count_along ts) (count_along (t ∷ ts)) walks (first_and_rest t ts) in
        let each : k * length (hops network t.on) ≤ k * elements network = mul-le-mul_left k (hops_most network t.on) in
        omega (arith, split, along_most t.from (hops network t.on), each, le, most_along most le ts)

turned : (a b c : ℕ) → a * (b * c) ≡ b * (a * c)
turned a b c = omega arith

module _ (setting : Setting) (k : ℕ) (walks : List FoundWalk) (few : (q : Pair) → length (settled_at walks q) ≤ k) where
  pub asked_most : asked setting walks ≤ k * most_moves setting
  asked_most =
      let least : (q : Pair) → length (arrivals_at walks q) ≤ k = λ q. let f = few q in omega (arith, f, length-map (arrivals_at walks q) entry_of) in
      let most = most_along walks k least setting.network (k * elements setting.network) (omega arith) setting.machine.transitions in
      omega (arith, most, turned (length setting.machine.transitions) k (elements setting.network))

-- one walk more, where there is room
pub asked_more : (setting : Setting) (k : ℕ) (walks : List FoundWalk) → ((q : Pair) → length (settled_at walks q) ≤ k) → (c : FoundWalk) → length (settled_at walks c.at) < k
    → asked setting walks + degree setting c ≤ k * most_moves setting
asked_more setting k walks few c room =
    let few_more : (q : Pair) → length (settled_at (walks ++ c ∷ []) q) ≤ k = λ q.
    elim (settled_elsewhere walks c q) [
      | inl same ↦ let n = ap length same in let f = few q in omega (arith, n, f)
      | inr at ↦
          subst (λ (r : Pair). length (settled_at (walks ++ c ∷ []) r) ≤ k) at
          (omega (arith, ap length (settled_here walks c), length-append (settled_at walks c.at) (entry_of c ∷ []), room))
    ] in
    let all = asked_most setting k (walks ++ c ∷ []) few_more in
    let single : sum_by (degree setting) (c ∷ []) ≡ degree setting c = omega arith in
    omega (arith, all, sum_by-append (degree setting) walks (c ∷ []), single)

-- those of some moves that lead where there is room are no more than these
pub open_fewer : (walks : List FoundWalk) (k : ℕ) (ms : List Move) → length (open_moves walks k ms) ≤ length ms
open_fewer walks k [] = omega arith
open_fewer walks k (m ∷ ms) = by (nat_lt (length (arrivals_at walks (target_of m))) k) (open_fewer walks k ms)
  where
    by : (b : Bool) → length (open_moves walks k ms) ≤ length ms → length (cond b (m ∷ open_moves walks k ms) (open_moves walks k ms)) ≤ length (m ∷ ms)
    by true le = omega (arith, le)
    by false le = omega (arith, le)
