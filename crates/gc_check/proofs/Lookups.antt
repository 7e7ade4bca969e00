-- Potentials that ascend: when they do, and where one stands.
use Rattle.std.proofs.Common.{◌≡◌, ℕ, zero, suc, ◌+◌, ◌<◌, true, false, ◌&&◌, List, [], ◌∷◌, length, get_or, Some, None, Ok, Err}
use Rattle.std.proofs.Common.{refl, sym, ap, subst, ◌∙◌, arith}
use Rattle.std.specs.declared.cmp.Ordering.{Ordering}
use Rattle.std.specs.declared.cmp.Ordering.TheVariants.{Less, Equal, Greater}
use Rattle.std.specs.Cmp.{IsTotalOrder, nat_cmp_total, unsigned_tied, then_total, on_total}
use Rattle.std.specs.List.{AllByRecursion, find}
use Rattle.std.specs.List.Sorted.{IsSearchInRange, IsBinarySearchResult}
use Rattle.std.specs.Option.{option_map}
use Rattle.std.specs.Ordering.{is_eq, is_lt, ordering_then, nat_cmp}
use Rattle.std.proofs.lemmas.Option.{slice_get-get_or}
use Rattle.gc_base.specs.Ascending.{Ascends}
use Rattle.gc_base.proofs.Search.{searched}
use Rattle.gc_prod.specs.declared.moves.Pair.{Pair}
use Rattle.gc_cert.specs.declared.document.Potential.{Potential}
use Rattle.gc_cert.specs.Potentials.{at_pair, pair_order, potential_order, is_of_pair, potential_of}

pub pair_order_total : IsTotalOrder pair_order
pair_order_total = then_total (on_total (λ (p : Pair). p.node) nat_cmp_total) (on_total (λ (p : Pair). p.state) nat_cmp_total)

potential_order_total : IsTotalOrder potential_order
potential_order_total = on_total at_pair pair_order_total

tied_then : (o r : Ordering) → is_eq (ordering_then o r) ≡ (is_eq o && is_eq r)
tied_then Less r = refl
tied_then Equal r = refl
tied_then Greater r = refl

-- a pair ties with that of a potential where it is the pair of the potential
tied : (p : Pair) (q : Potential) → is_eq (pair_order (at_pair q) p) ≡ is_of_pair p q
tied p q =
    tied_then (nat_cmp q.node p.node) (nat_cmp q.state p.state)
    ∙ (λ j. unsigned_tied q.node p.node j && unsigned_tied q.state p.state j)

-- what a search by halving finds
module _ (potentials : List Potential) (p : Pair) (up : Ascends potential_order potentials) where
  as_found : find (λ q. is_eq (pair_order (at_pair q) p)) potentials ≡ find (is_of_pair p) potentials
  as_found j = find (λ q. tied p q j) potentials

  pub found : (place : ℕ) (d : Potential) → IsSearchInRange (Ok place) (length potentials)
      → IsBinarySearchResult (λ q. pair_order (at_pair q) p) potentials (Ok place) → Some (get_or potentials place d).cost ≡ potential_of potentials p
  found place d within is =
      let at = searched at_pair pair_order pair_order_total potentials p (Ok place) up within is in
      ap (option_map (λ (q : Potential). q.cost)) (sym (slice_get-get_or potentials place d at.within) ∙ (sym at.first ∙ as_found))

  pub missed : (gap : ℕ) → IsSearchInRange (Err gap) (length potentials)
      → IsBinarySearchResult (λ q. pair_order (at_pair q) p) potentials (Err gap) → None ≡ potential_of potentials p
  missed gap within is =
      let at = searched at_pair pair_order pair_order_total potentials p (Err gap) up within is in
      ap (option_map (λ (q : Potential). q.cost)) (sym at.first ∙ as_found)

-- neighbours that ascend
below_more : (x y : Potential) (ys : List Potential) → potential_order x y ≡ Less → AllByRecursion (λ z. potential_order y z ≡ Less) ys
    → AllByRecursion (λ z. potential_order x z ≡ Less) ys
below_more x y [] less all = tt
below_more x y (z ∷ ys) less all = (potential_order_total.trans x y z less all.0, below_more x y ys less all.1)

is_less : (o : Ordering) → true ≡ is_lt o → o ≡ Less
is_less Less h = refl
is_less Equal h = cc
is_less Greater h = cc

pub ascends_near : (xs : List Potential)
    → ((k : ℕ) (d : Potential) → k + 1 < length xs → true ≡ is_lt (potential_order (get_or xs k d) (get_or xs (k + 1) d))) → Ascends potential_order xs
ascends_near [] near = tt
ascends_near (x ∷ []) near = (tt, tt)
ascends_near (x ∷ y ∷ xs) near =
    let rest = ascends_near (y ∷ xs)
    (λ k d below.
    let e : suc k + 1 ≡ suc (k + 1) = omega arith in
    subst (λ n. true ≡ is_lt (potential_order (get_or (x ∷ y ∷ xs) (suc k) d) (get_or (x ∷ y ∷ xs) n d))) e (near (suc k) d (omega arith))) in
    let less : potential_order x y ≡ Less = is_less (potential_order x y) (near 0 x (omega arith)) in
    ((less, below_more x y xs less rest.0), rest)

pub near_fails : (xs : List Potential) (k : ℕ) → k + 1 < length xs
    → ((d : Potential) → false ≡ is_lt (potential_order (get_or xs k d) (get_or xs (k + 1) d))) → Ascends potential_order xs → ⊥
near_fails [] k below fails up = absurd (omega arith)
near_fails (x ∷ []) k below fails up = absurd (omega arith)
near_fails (x ∷ y ∷ xs) zero below fails up = let e = fails x in let l = up.0.0 in cc
near_fails (x ∷ y ∷ xs) (suc k) below fails up =
    let e : suc k + 1 ≡ suc (k + 1) = omega arith in
    near_fails (y ∷ xs) k (omega arith)
    (λ d. subst (λ n. false ≡ is_lt (potential_order (get_or (x ∷ y ∷ xs) (suc k) d) (get_or (x ∷ y ∷ xs) n d))) e (fails d)) up.1
