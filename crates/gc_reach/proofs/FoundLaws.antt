-- Pairs that are found, and all of them.
use Rattle.std.proofs.Common.{◌≡◌, ℕ, zero, suc, ◌+◌, ◌≤◌, true, List, [], ◌∷◌, take, length, Some, refl, sym, ap, subst, ◌∙◌, arith, sum_by}
use Rattle.std.specs.List.{AllByRecursion, Contains, slice_get}
use Rattle.std.proofs.lemmas.List.Sums.{sum_by-append}
use Rattle.gc_base.proofs.Search.{AllByRecursion-weaker}
use Rattle.gc_base.proofs.SetLaws.{AllByRecursion-append}
use Rattle.gc_spec.specs.PropertyGraph.{is_among, node_ids}
use Rattle.gc_automata.specs.Moves.{IsNetwork, IsThere}
use Rattle.gc_prod.specs.declared.moves.Pair.{Pair}
use Rattle.gc_prod.specs.Leading.{Leads, target_of}
use Rattle.gc_prod.specs.Products.{Setting, moves}
use Rattle.gc_prod.proofs.BundleLaws.{all_from}
use Rattle.gc_prod.proofs.FanLaws.{all_at}
use Rattle.gc_prod.proofs.LeadLaws.{move_there}
use Rattle.gc_prod.proofs.Members.{from_map, in_map}
use Rattle.gc_prod.proofs.Networks.{among_all}
use Rattle.gc_reach.specs.Exploring.{targets, Led, IsLed, IsClosed, AreApart, AreFound, AreAll, work, most_moves}
use Rattle.gc_reach.specs.Marking.{has_pair, visit_all}
use Rattle.gc_reach.proofs.VisitLaws.{Grown, visit_all_grows, has_grown, has_all, all_visited, apart_visited, has_contains, taken, apart_taken}
use Rattle.gc_reach.proofs.WorkLaws.{work_most}

module _ (setting : Setting) where
  -- being led by moves, said in the two ways
  pub led_leads : (n : ℕ) (p q : Pair) → Led (targets setting) n p q → Leads setting n p q
  led_leads zero p q is = is
  led_leads (suc n) p q led =
      let image = from_map target_of (moves setting p.node p.state) led.0 led.1 in
      (image.origin, image.among, subst (λ (r : Pair). Leads setting n r q) (sym image.is) (led_leads n led.0 q led.2))

  pub leads_led : (n : ℕ) (p q : Pair) → Leads setting n p q → Led (targets setting) n p q
  leads_led zero p q is = is
  leads_led (suc n) p q h = (target_of h.0, in_map target_of (moves setting p.node p.state) h.0 h.1, leads_led n (target_of h.0) q h.2)

  pub targets_there : (nodes : List ℕ) (at : Pair) → IsNetwork setting.network → nodes ≡ node_ids setting.network.graph.nodes
      → AllByRecursion (λ q. is_among nodes q.node ≡ true) (targets setting at)
  targets_there nodes at law same =
      all_from (λ (q : Pair). is_among nodes q.node ≡ true) (targets setting at)
      (λ q k.
      let image = from_map target_of (moves setting at.node at.state) q k in
      let is : IsThere setting.network image.origin.node = move_there setting law at.node at.state image.origin image.among in
      subst (λ (r : Pair). is_among nodes r.node ≡ true) image.is (ap (λ ids. is_among ids image.origin.node) same ∙ is))

  -- the moves of one more pair
  pub work_more : (pairs ys : List Pair) (i : ℕ) (at : Pair) → Grown pairs ys → slice_get pairs i ≡ Some at
      → work setting (take (i + 1) ys) ≡ work setting (take i pairs) + length (moves setting at.node at.state)
  work_more pairs ys i at grown here =
      let count : Pair → ℕ = λ p. length (moves setting p.node p.state) in
      let single : sum_by count (at ∷ []) ≡ count at = omega arith in
      ap (work setting) (taken pairs ys i at grown here) ∙ (sum_by-append count (take i pairs) (at ∷ []) ∙ ap (λ n. work setting (take i pairs) + n) single)

  pub few_taken : (pairs : List Pair) (i : ℕ) → AreApart pairs → work setting (take i pairs) ≤ most_moves setting
  few_taken pairs i apart = work_most setting (take i pairs) (apart_taken pairs i apart)

  pub few_more : (at : Pair) (pairs : List Pair) (i : ℕ) → AreApart pairs → slice_get pairs i ≡ Some at
      → work setting (take i pairs) + length (moves setting at.node at.state) ≤ most_moves setting
  few_more at pairs i apart here =
      let whole : Grown pairs pairs = visit_all_grows pairs [] in
      omega (arith, work_more pairs pairs i at whole here, few_taken pairs (i + 1) apart)

module _ (behind : Pair → List Pair) where
  -- once more
  pub led_more : (n : ℕ) (p q r : Pair) → Led behind n p q → Contains (behind q) r → Led behind (suc n) p r
  led_more zero p q r is among = (r, subst (λ (s : Pair). Contains (behind s) r) (sym is) among, refl)
  led_more (suc n) p q r led among = (led.0, led.1, led_more n led.0 q r led.2 among)

  led_further : (from at : Pair) → IsLed behind from at → AllByRecursion (IsLed behind from) (behind at)
  led_further from at led = all_from (IsLed behind from) (behind at) (λ q k. (suc led.0, led_more led.0 from at q led.1 k))

  -- what is found stays found where a pair among it is gone over
  pub found_more : (nodes : List ℕ) (from at : Pair) (pairs : List Pair) (i : ℕ) → AllByRecursion (λ q. is_among nodes q.node ≡ true) (behind at)
      → slice_get pairs i ≡ Some at → AreFound behind nodes from pairs → AreFound behind nodes from (visit_all pairs (behind at))
  found_more nodes from at pairs i fits here found = record {
    start = has_grown pairs (visit_all pairs (behind at)) from (visit_all_grows pairs (behind at)) found.start;
    sound = all_visited (IsLed behind from) pairs (behind at) found.sound (led_further from at (all_at (IsLed behind from) pairs i at found.sound here));
    there = all_visited (λ (q : Pair). is_among nodes q.node ≡ true) pairs (behind at) found.there fits;
    apart = apart_visited pairs (behind at) found.apart;
  }

  -- pairs stay closed
  still_closed : (xs ys : List Pair) → Grown xs ys → (p : Pair) → IsClosed behind xs p → IsClosed behind ys p
  still_closed xs ys g p = AllByRecursion-weaker (λ (q : Pair). has_pair xs q ≡ true) (λ (q : Pair). has_pair ys q ≡ true) (λ q. has_grown xs ys q g) (behind p)

  pub closed_more : (pairs : List Pair) (i : ℕ) (at : Pair) → slice_get pairs i ≡ Some at → AllByRecursion (IsClosed behind pairs) (take i pairs)
      → AllByRecursion (IsClosed behind (visit_all pairs (behind at))) (take (i + 1) (visit_all pairs (behind at)))
  closed_more pairs i at here closed =
      let after = visit_all pairs (behind at) in
      let grown = visit_all_grows pairs (behind at) in
      subst (λ (l : List Pair). AllByRecursion (IsClosed behind after) l) (sym (taken pairs after i at grown here))
      (AllByRecursion-append (IsClosed behind after) (take i pairs) (at ∷ [])
      (AllByRecursion-weaker (IsClosed behind pairs) (IsClosed behind after) (still_closed pairs after grown) (take i pairs) closed)
      (has_all pairs (behind at), tt))

  -- all that one is led to is among all pairs
  pub complete : (nodes : List ℕ) (from : Pair) (pairs : List Pair) → AreAll behind nodes from pairs → (n : ℕ) (p q : Pair) → has_pair pairs p ≡ true → Led behind n p q → has_pair pairs q ≡ true
  complete nodes from pairs all zero p q h is = subst (λ r. has_pair pairs r ≡ true) is h
  complete nodes from pairs all (suc n) p q h led =
      let closed = among_all (IsClosed behind pairs) pairs p all.closed (has_contains pairs p h) in
      let next = among_all (λ (r : Pair). has_pair pairs r ≡ true) (behind p) led.0 closed led.1 in
      complete nodes from pairs all n led.0 q next led.2
