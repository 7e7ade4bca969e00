-- A list of the pairs that runs reach, each with its least cost, is accepted as the potentials of a document.
use Rattle.std.proofs.Common.{◌≡◌, ℕ, ◌+◌, ◌≤◌, Bool, true, false, cond, ◌&&◌, ◌==◌, nat_le, List, [], ◌∷◌, ◌⊎◌, inl, inr, Option, Some, is_some, refl, ap, subst, ◌∙◌, arith, find}
use Rattle.std.specs.List.{AllByRecursion, Contains, list_all}
use Rattle.std.specs.Option.{option_map, option_map_or}
use Rattle.std.proofs.lemmas.Bool.{eq-eqb}
use Rattle.std.proofs.lemmas.Bool.Decides.{nat_tests}
use Rattle.gc_automata.specs.Machines.{IsAutomatonOf}
use Rattle.gc_automata.specs.Moves.{IsNetwork, IsThere}
use Rattle.gc_automata.proofs.Inclusion.{among_more, among_none}
use Rattle.gc_regx.specs.Expressions.{HasParts}
use Rattle.gc_regx.specs.Trees.{RegexTree, ARegex}
use Rattle.gc_rows.proofs.Members.{contains_here, contains_later, each_member}
use Rattle.gc_prod.specs.declared.moves.Move.{Move}
use Rattle.gc_prod.specs.declared.moves.Pair.{Pair}
use Rattle.gc_prod.specs.Leading.{Passed, pair, target_of}
use Rattle.gc_prod.specs.Products.{Setting, moves}
use Rattle.gc_search.specs.Finding.{IsLeastCost}
use Rattle.gc_cert.specs.declared.document.Potential.{Potential}
use Rattle.gc_cert.specs.declared.document.WalkDoc.{WalkDoc}
use Rattle.gc_cert.specs.Acceptance.{AreBounded, AreCovered, AreListed, IsPotential, end_pair, is_bounded, is_covered, is_least}
use Rattle.gc_cert.specs.Potentials.{at_pair, is_of_pair, potential_of, potential_order}
use Rattle.gc_cert.specs.Runs.{run_cost}
use Rattle.gc_cert_searches.specs.Searches.{AreThose, IsReachedAt, IsTold}
use Rattle.gc_cert_searches.proofs.Reaching.{move_behind, one_least, reached_inside, stays}

same_number : (a b : ℕ) → (a == b) ≡ true → a ≡ b
same_number a b h = grind (arith, nat_tests)

le_is : (a b : ℕ) → a ≤ b → nat_le a b ≡ true
le_is a b h = grind (arith, nat_tests)

left : (a b : Bool) → (a && b) ≡ true → a ≡ true
left true b h = refl
left false b h = cc

right : (a b : Bool) → (a && b) ≡ true → b ≡ true
right true b h = h
right false b h = cc

both : (a b : Bool) → a ≡ true → b ≡ true → (a && b) ≡ true
both true b h k = k
both false b h k = cc

-- what each passes, all do
passes_all : {X : Type 0} (test : X → Bool) (xs : List X) → ((x : X) → Contains xs x → test x ≡ true) → list_all test xs ≡ true
passes_all test [] h = refl
passes_all test (x ∷ xs) h = both (test x) (list_all test xs) (h x (contains_here x xs)) (passes_all test xs (λ y m. h y (contains_later x xs y m)))

-- a potential that is in a list is found, where all of its pair have its cost
found_cost : (ps : List Potential) (p : Pair) (c : ℕ) → Contains ps (record { node = p.node; state = p.state; cost = c })
    → ((q : Potential) → Contains ps q → at_pair q ≡ p → q.cost ≡ c) → potential_of ps p ≡ Some c
found_cost [] p c h one = absurd (among_none (record { node = p.node; state = p.state; cost = c }) h)
found_cost (q ∷ ps) p c h one = by (λ behind. found_cost ps p c behind (λ r m at. one r (contains_later q ps r m) at)) (is_of_pair p q) refl
  where
    pair_is : is_of_pair p q ≡ true → at_pair q ≡ p
    pair_is e =
        let node : q.node ≡ p.node = same_number q.node p.node (left (q.node == p.node) (q.state == p.state) e) in
        let state : q.state ≡ p.state = same_number q.state p.state (right (q.node == p.node) (q.state == p.state) e) in
        λ i. record { node = node i; state = state i }

    other : is_of_pair p q ≡ false → q ≡ record { node = p.node; state = p.state; cost = c } → ⊥
    other e same =
        let yes : is_of_pair p q ≡ true =
        both (q.node == p.node) (q.state == p.state) (eq-eqb q.node p.node (ap (λ (r : Potential). r.node) same)) (eq-eqb q.state p.state (ap (λ (r : Potential). r.state) same)) in
        cc

    later : (Contains ps (record { node = p.node; state = p.state; cost = c }) → potential_of ps p ≡ Some c) → is_of_pair p q ≡ false
        → (q ≡ record { node = p.node; state = p.state; cost = c }) ⊎ Contains ps (record { node = p.node; state = p.state; cost = c }) → potential_of ps p ≡ Some c
    later next e (inl same) = absurd (other e same)
    later next e (inr behind) = next behind

    by : (Contains ps (record { node = p.node; state = p.state; cost = c }) → potential_of ps p ≡ Some c) → (b : Bool) → is_of_pair p q ≡ b
        → option_map (λ (r : Potential). r.cost) (cond b (Some q) (find (is_of_pair p) ps)) ≡ Some c
    by next true e = ap Some (one q (contains_here q ps) (pair_is e))
    by next false e = later next e (among_more q ps (record { node = p.node; state = p.state; cost = c }) h)

module _ (setting : Setting) (law : IsNetwork setting.network) (tree : RegexTree ARegex) (parts : HasParts tree) (is : IsAutomatonOf tree setting.machine)
    (source : ℕ) (begins : IsThere setting.network source) (potentials : List Potential) (those : AreThose potential_order (IsReachedAt setting source) potentials)
    (least : (q : Pair) → Passed setting (pair source 0) q → (c : ℕ) × IsLeastCost setting source q c) where
  -- the least cost of a pair is found
  pub has_least : (p : Pair) (c : ℕ) → IsLeastCost setting source p c → potential_of potentials p ≡ Some c
  has_least p c h =
      found_cost potentials p c ((those.exact (record { node = p.node; state = p.state; cost = c })).1 h)
      (λ q m at. one_least setting source p q.cost c (subst (λ (r : Pair). IsLeastCost setting source r q.cost) at ((those.exact q).0 m)) h)

  pub are_listed : AreListed setting potentials
  are_listed = record {
    ascend = those.ascend;
    each = each_member (IsPotential setting) potentials (λ q m.
        let inside = reached_inside setting law tree parts is source begins (at_pair q) ((those.exact q).0 m).some in
        record { there = inside.there; below = inside.below });
  }

  pub begins_free : potential_of potentials (pair source 0) ≡ Some 0
  begins_free = has_least (pair source 0) 0 (stays setting law tree parts is source begins)

  -- the potential to which a move leads
  record Onward (from : Potential) (m : Move) : Type 0 where
    cost : ℕ
    known : potential_of potentials (target_of m) ≡ Some cost
    small : cost ≤ from.cost + m.cost

  onward : (from : Potential) (m : Move) → Contains potentials from → Contains (moves setting from.node from.state) m → Onward from m
  onward from m there among =
      let h = (those.exact from).0 there in
      let more = move_behind setting law tree parts is source (at_pair from) m h.some among in
      let to = least (target_of m) more.passed in
      record {
        cost = to.0;
        known = has_least (target_of m) to.0 to.1;
        small = omega (arith, to.1.least more.passed, more.costs, h.reached);
      }

  covered_by : (o : Option ℕ) (c : ℕ) → o ≡ Some c → is_some o ≡ true
  covered_by o c h = ap is_some h

  bounded_by : (o : Option ℕ) (c n : ℕ) → o ≡ Some c → c ≤ n → option_map_or (λ to. nat_le to n) o true ≡ true
  bounded_by o c n h le = ap (λ (p : Option ℕ). option_map_or (λ to. nat_le to n) p true) h ∙ le_is c n le

  pub are_covered : AreCovered setting potentials
  are_covered =
      passes_all (λ from. list_all (is_covered potentials from) (moves setting from.node from.state)) potentials (λ from there.
      passes_all (is_covered potentials from) (moves setting from.node from.state) (λ m among.
      let to = onward from m there among in covered_by (potential_of potentials (target_of m)) to.cost to.known))

  pub are_bounded : AreBounded setting potentials
  are_bounded =
      passes_all (λ from. list_all (is_bounded potentials from) (moves setting from.node from.state)) potentials (λ from there.
      passes_all (is_bounded potentials from) (moves setting from.node from.state) (λ m among.
      let to = onward from m there among in bounded_by (potential_of potentials (target_of m)) to.cost (from.cost + m.cost) to.known to.small))

  least_by : (w : WalkDoc) (o : Option ℕ) → o ≡ Some w.cost → option_map_or (λ c. c == w.cost) o false ≡ true
  least_by w o h = ap (λ (p : Option ℕ). option_map_or (λ c. c == w.cost) p false) h ∙ eq-eqb w.cost w.cost refl

  -- a walk whose run costs the least cost of its last pair
  pub walk_least : (w : WalkDoc) → IsTold setting tree source w → IsLeastCost setting source (end_pair setting w) w.cost → is_least setting potentials w ≡ true
  walk_least w told h =
      both (run_cost setting.network.segments w.run == w.cost) (option_map_or (λ c. c == w.cost) (potential_of potentials (end_pair setting w)) false)
      (eq-eqb (run_cost setting.network.segments w.run) w.cost told.price)
      (least_by w (potential_of potentials (end_pair setting w)) (has_least (end_pair setting w) w.cost h))

  pub walks_least : (walks : List WalkDoc) → AllByRecursion (IsTold setting tree source) walks → AllByRecursion (λ w. IsLeastCost setting source (end_pair setting w) w.cost) walks
      → list_all (is_least setting potentials) walks ≡ true
  walks_least [] told h = refl
  walks_least (w ∷ walks) told h = both (is_least setting potentials w) (list_all (is_least setting potentials) walks) (walk_least w told.0 h.0) (walks_least walks told.1 h.1)
