-- The marks of pairs, one for each state and node.
use Rattle.std.proofs.Common.{◌≡◌, ◌≢◌, ℕ, zero, suc, ◌+◌, ◌*◌, ◌<◌, ◌≤◌, Bool, true, false, not, cond, ◌||◌, ◌&&◌, ◌==◌, List, [], ◌∷◌, ◌++◌, ◌⊎◌, inl, inr, length, get_or, set, count_by, refl, sym, ap, ap₂, subst, ◌∙◌, arith, length-append, length-set, get_or-set_other, get_or-set_same}
use Rattle.std.specs.Ordering.{nat_cmp}
use Rattle.std.proofs.Math.Nat.{mul-le-mul_right, mul_comm}
use Rattle.std.proofs.lemmas.Bool.{eq-eqb}
use Rattle.std.proofs.lemmas.Bool.Decides.{nat_tests}
use Rattle.std.proofs.lemmas.List.Folds.{list_any-append}
use Rattle.std.proofs.lemmas.List.Sums.{sum_by-set}
use Rattle.gc_base.specs.Ascending.{Ascends}
use Rattle.gc_base.proofs.SetLaws.{AllByRecursion-append}
use Rattle.gc_prod.proofs.PlaceLaws.{above_differs}
use Rattle.gc_prod.specs.declared.moves.Pair.{Pair}
use Rattle.gc_prod.specs.Leading.{pair}
use Rattle.gc_reach.specs.Numbering.{IsNumbered}
use Rattle.gc_reach.specs.Marking.{same_pair, has_pair, Marking, IsMarked}

-- the mark of a place and a state is within the marks
pub mark_within : (n w p s : ℕ) → p < n → s < w → p * w + s < n * w
mark_within n w p s below less = let le : suc p ≤ n = omega arith in omega (arith, mul-le-mul_right w le)

-- two places and states of one mark are the same
later_differs : (w p s q t : ℕ) → p < q → s < w → p * w + s ≢ q * w + t
later_differs w p s q t less below same = let le : suc p ≤ q = omega arith in absurd (omega (arith, mul-le-mul_right w le, same))

by_order : (p q : ℕ) → (p < q) ⊎ ((p ≡ q) ⊎ (q < p))
by_order zero zero = inr (inl refl)
by_order zero (suc q) = inl (omega arith)
by_order (suc p) zero = inr (inr (omega arith))
by_order (suc p) (suc q) = by (by_order p q)
  where
    by : (p < q) ⊎ ((p ≡ q) ⊎ (q < p)) → (suc p < suc q) ⊎ ((suc p ≡ suc q) ⊎ (suc q < suc p))
    by (inl less) = inl (omega arith)
    by (inr (inl same)) = inr (inl (ap suc same))
    by (inr (inr more)) = inr (inr (omega arith))

pub same_place : (w p s q t : ℕ) → s < w → t < w → p * w + s ≡ q * w + t → p ≡ q
same_place w p s q t low high same = by (by_order p q)
  where
    by : (p < q) ⊎ ((p ≡ q) ⊎ (q < p)) → p ≡ q
    by (inl less) = absurd (later_differs w p s q t less low same)
    by (inr (inl is)) = is
    by (inr (inr more)) = absurd (later_differs w q t p s more high (sym same))

rises : (xs : List ℕ) (i j : ℕ) → Ascends nat_cmp xs → i < j → j < length xs → get_or xs i 0 < get_or xs j 0
rises [] i j up less below = absurd (omega arith)
rises (x ∷ xs) i zero up less below = absurd (omega arith)
rises (x ∷ xs) zero (suc j) up less below = above_differs x xs j up.0 (omega arith)
rises (x ∷ xs) (suc i) (suc j) up less below = rises xs i j up.1 (omega arith) (omega arith)

others_differ : (xs : List ℕ) (i j : ℕ) → Ascends nat_cmp xs → i < length xs → j < length xs → i ≢ j → get_or xs i 0 ≢ get_or xs j 0
others_differ xs i j up low high other same = by (by_order i j)
  where
    by : (i < j) ⊎ ((i ≡ j) ⊎ (j < i)) → ⊥
    by (inl less) = let r = rises xs i j up less high in absurd (omega (arith, r, same))
    by (inr (inl is)) = other is
    by (inr (inr more)) = let r = rises xs j i up more low in absurd (omega (arith, r, same))

differs : (a b : ℕ) → a ≢ b → (a == b) ≡ false
differs a b h = grind (arith, nat_tests)

or_false : (b : Bool) → (b || false) ≡ b
or_false true = refl
or_false false = refl

or_true : (b : Bool) → (b || true) ≡ true
or_true true = refl
or_true false = refl

and_false : (b : Bool) → (b && false) ≡ false
and_false true = refl
and_false false = refl

-- one more pair
pub has_more : (pairs : List Pair) (p q : Pair) → has_pair (pairs ++ p ∷ []) q ≡ (has_pair pairs q || same_pair p q)
has_more pairs p q = list_any-append (λ r. same_pair r q) pairs (p ∷ []) ∙ ap (λ b. has_pair pairs q || b) (or_false (same_pair p q))

pub itself : (p : Pair) → same_pair p p ≡ true
itself p = ap₂ (λ a b. a && b) (eq-eqb p.node p.node refl) (eq-eqb p.state p.state refl)

count_set : (marked : List Bool) (i : ℕ) → i < length marked → get_or marked i false ≡ false → suc (count_by not (set marked i true)) ≡ count_by not marked
count_set marked i below is =
    let one : Bool → ℕ = λ b. cond (not b) 1 0 in
    omega (arith, sum_by-set one marked i true false below, ap one is)

eqb_same : (a b : ℕ) → (a == b) ≡ true → a ≡ b
eqb_same a b h = grind (arith, nat_tests)

eqb_other : (a b : ℕ) → (a == b) ≡ false → a ≢ b
eqb_other a b h = grind (arith, nat_tests)

module _ (m : Marking) (marked : List Bool) (is : IsMarked m marked) (place state : ℕ) (below : place < length m.nodes) (less : state < m.width) where
  abbrev mark_at : ℕ
  mark_at = state * length m.nodes + place

  abbrev pub new_pair : Pair
  new_pair = pair (get_or m.nodes place 0) state

  abbrev IsRight : ℕ → ℕ → Type 0
  IsRight p s = get_or (set marked mark_at true) (s * length m.nodes + p) false ≡ has_pair (m.pairs ++ new_pair ∷ []) (pair (get_or m.nodes p 0) s)

  within : mark_at < length marked
  within = omega (arith, is.size, mul_comm (length m.nodes) m.width, mark_within m.width (length m.nodes) state place less below)

  right_here : IsRight place state
  right_here =
      get_or-set_same marked mark_at true false within
      ∙ sym (has_more m.pairs new_pair new_pair ∙ (ap (λ b. has_pair m.pairs new_pair || b) (itself new_pair) ∙ or_true (has_pair m.pairs new_pair)))

  right_there : (p s : ℕ) → p < length m.nodes → s < m.width → s * length m.nodes + p ≢ mark_at → same_pair new_pair (pair (get_or m.nodes p 0) s) ≡ false → IsRight p s
  right_there p s low high other fails =
      let q = pair (get_or m.nodes p 0) s in
      get_or-set_other marked mark_at (s * length m.nodes + p) true false other
      ∙ (is.exact p s low high ∙ sym (has_more m.pairs new_pair q ∙ (ap (λ b. has_pair m.pairs q || b) fails ∙ or_false (has_pair m.pairs q))))

  right : (p s : ℕ) → p < length m.nodes → s < m.width → (b c : Bool) → (p == place) ≡ b → (s == state) ≡ c → IsRight p s
  right p s low high true true same alike =
      subst (λ q. IsRight q s) (sym (eqb_same p place same)) (subst (λ t. IsRight place t) (sym (eqb_same s state alike)) right_here)
  right p s low high true false same other =
      let apart : s ≢ state = eqb_other s state other in
      right_there p s low high
      (λ e. apart (same_place (length m.nodes) s p state place low below e))
      (ap (λ b. (get_or m.nodes place 0 == get_or m.nodes p 0) && b) (differs state s (λ e. apart (sym e))) ∙ and_false _)
  right p s low high false true other alike =
      let apart : p ≢ place = eqb_other p place other in
      let is_state = eqb_same s state alike in
      right_there p s low high
      (λ e. apart (let row : s * length m.nodes ≡ state * length m.nodes = ap (λ t. t * length m.nodes) is_state in omega (arith, e, row)))
      (ap (λ b. b && (state == s)) (differs (get_or m.nodes place 0) (get_or m.nodes p 0) (λ e. others_differ m.nodes place p is.ascend below low (λ f. apart (sym f)) e)))
  right p s low high false false other unlike =
      let apart : s ≢ state = eqb_other s state unlike in
      right_there p s low high
      (λ e. apart (same_place (length m.nodes) s p state place low below e))
      (ap (λ b. (get_or m.nodes place 0 == get_or m.nodes p 0) && b) (differs state s (λ e. apart (sym e))) ∙ and_false _)

  pub marked_more : get_or marked mark_at false ≡ false → IsNumbered m.nodes m.width new_pair
      → IsMarked (record { nodes = m.nodes; width = m.width; pairs = m.pairs ++ new_pair ∷ [] }) (set marked mark_at true)
  marked_more fresh numbered = record {
    numbered = AllByRecursion-append (IsNumbered m.nodes m.width) m.pairs (new_pair ∷ []) is.numbered (numbered, tt);
    ascend = is.ascend;
    size = length-set marked mark_at true ∙ is.size;
    exact = λ p s low high. right p s low high (p == place) (s == state) refl refl;
    room = omega (arith, is.room, count_set marked mark_at within fresh, length-append m.pairs (new_pair ∷ []), length-set marked mark_at true);
  }
