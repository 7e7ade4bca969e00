-- The potentials that are read of a search are those of all pairs that runs reach, in order.
use Rattle.std.proofs.Common.{◌≡◌, ⊎_elim, ℕ, zero, suc, ◌+◌, ◌<◌, ◌≤◌, true, false, ◌||◌, ◌==◌, List, [], ◌∷◌, ◌++◌, Option, None, Some, refl, sym, ap, ◌∙◌, subst, append_assoc, arith}
use Rattle.std.specs.declared.cmp.Ordering.{Ordering}
use Rattle.std.specs.declared.cmp.Ordering.TheVariants.{Less, Equal}
use Rattle.std.specs.Ordering.{nat_cmp, ordering_then}
use Rattle.std.specs.List.{Contains, flat_map, range_with_len}
use Rattle.std.proofs.lemmas.Bool.Decides.{nat_tests}
use Rattle.std.proofs.lemmas.List.{append-nil}
use Rattle.std.proofs.lemmas.List.Elements.{Contains-append_cases, Contains-append_left, Contains-append_right}
use Rattle.gc_base.specs.Ascending.{Ascends}
use Rattle.gc_spec.specs.PropertyGraph.{is_among, node_ids}
use Rattle.gc_automata.specs.Machines.{IsAutomatonOf}
use Rattle.gc_automata.specs.Moves.{IsNetwork, IsThere}
use Rattle.gc_automata.proofs.Inclusion.{among_more, among_none}
use Rattle.gc_regx.specs.Expressions.{HasParts}
use Rattle.gc_regx.specs.Trees.{RegexTree, ARegex}
use Rattle.gc_rows.proofs.Members.{contains_here, contains_later, each_member, of_member, to_flat_map, from_flat_map}
use Rattle.gc_prod.specs.declared.moves.Pair.{Pair}
use Rattle.gc_prod.specs.Leading.{Passed, pair}
use Rattle.gc_prod.specs.Products.{Setting}
use Rattle.gc_search.specs.Finding.{Finding, IsLeastCost, IsPotential, potential_of}
use Rattle.gc_cert.specs.declared.document.Potential.{Potential}
use Rattle.gc_cert.specs.Potentials.{at_pair, potential_order}
use Rattle.gc_cert_searches.specs.Readings.{potential_if, potentials_at, potentials_in}
use Rattle.gc_cert_searches.specs.Searches.{AreThose, IsReachedAt}
use Rattle.gc_cert_searches.proofs.Reaching.{one_least, reached_inside}

less_is : (a b : ℕ) → a < b → nat_cmp a b ≡ Less
less_is a b h = grind (arith, nat_tests)

less_told : (a b : ℕ) → nat_cmp a b ≡ Less → a < b
less_told a b h = grind (arith, nat_tests)

equal_is : (a b : ℕ) → a ≡ b → nat_cmp a b ≡ Equal
equal_is a b h = grind (arith, nat_tests)

same_number : (a b : ℕ) → (a == b) ≡ true → a ≡ b
same_number a b h = grind (arith, nat_tests)

-- two lists, one below the other
both_ascend : {X : Type 0} (cmp : X → X → Ordering) (xs ys : List X) → Ascends cmp xs → Ascends cmp ys → ((x y : X) → Contains xs x → Contains ys y → cmp x y ≡ Less) → Ascends cmp (xs ++ ys)
both_ascend cmp [] ys a b below = b
both_ascend cmp (x ∷ xs) ys a b below = (
  each_member (λ y. cmp x y ≡ Less) (xs ++ ys)
      (λ y m. ⊎_elim (λ k. of_member (λ z. cmp x z ≡ Less) xs y a.0 k) (λ k. below x y (contains_here x xs) k) (Contains-append_cases xs ys y m)),
  both_ascend cmp xs ys a.1 b (λ z y m n. below z y (contains_later x xs z m) n),
)

by_node : (p q : Potential) → p.node < q.node → potential_order p q ≡ Less
by_node p q h = ap (λ (o : Ordering). ordering_then o (nat_cmp p.state q.state)) (less_is p.node q.node h)

by_state : (p q : Potential) → p.node ≡ q.node → p.state < q.state → potential_order p q ≡ Less
by_state p q same h = ap (λ (o : Ordering). ordering_then o (nat_cmp p.state q.state)) (equal_is p.node q.node same) ∙ less_is p.state q.state h

-- a potential is of a node, of a state in a range, and known
record IsIn (po : Pair → Option ℕ) (n low high : ℕ) (q : Potential) : Type 0 where
  node : q.node ≡ n
  above : low ≤ q.state
  below : q.state < high
  known : po (at_pair q) ≡ Some q.cost

abbrev the : (node state cost : ℕ) → Potential
the node state cost = record { node = node; state = state; cost = cost }

module _ (po : Pair → Option ℕ) where
  abbrev at_state : ℕ → ℕ → List Potential
  at_state node state = potential_if node state (po (pair node state))

  abbrev at_states : ℕ → ℕ → ℕ → List Potential
  at_states node low n = flat_map (at_state node) (range_with_len low n)

  of_if : (node state : ℕ) (o : Option ℕ) (q : Potential) → po (pair node state) ≡ o → Contains (potential_if node state o) q → IsIn po node state (suc state) q
  of_if node state None q is m = absurd (among_none q m)
  of_if node state (Some c) q is m =
      ⊎_elim
      (λ same.
      let n : q.node ≡ node = ap (λ (r : Potential). r.node) (sym same) in
      let s : q.state ≡ state = ap (λ (r : Potential). r.state) (sym same) in
      let k : q.cost ≡ c = ap (λ (r : Potential). r.cost) (sym same) in
      record {
        node = n;
        above = omega (arith, s);
        below = omega (arith, s);
        known = ap po (λ i. record { node = n i; state = s i }) ∙ (is ∙ ap Some (sym k));
      })
      (λ k. absurd (among_none q k)) (among_more (the node state c) [] q m)

  to_if : (node state c : ℕ) (o : Option ℕ) → o ≡ Some c → Contains (potential_if node state o) (the node state c)
  to_if node state c None h = absurd (cc h)
  to_if node state c (Some d) h =
      let same : d ≡ c = cc in
      subst (λ e. Contains (the node state d ∷ []) (the node state e)) same
      (contains_here (the node state d) [])

  of_states : (node low n : ℕ) (q : Potential) → Contains (at_states node low n) q → IsIn po node low (low + n) q
  of_states node low zero q m = absurd (among_none q m)
  of_states node low (suc n) q m =
      ⊎_elim
      (λ k. let i = of_if node low (po (pair node low)) q refl k in record { node = i.node; above = i.above; below = omega (arith, i.below); known = i.known })
      (λ k. let i = of_states node (low + 1) n q k in record { node = i.node; above = omega (arith, i.above); below = omega (arith, i.below); known = i.known })
      (Contains-append_cases (at_state node low) (at_states node (low + 1) n) q m)

  to_states : (node low n state c : ℕ) → low ≤ state → state < low + n → po (pair node state) ≡ Some c → Contains (at_states node low n) (the node state c)
  to_states node low zero state c above below known = absurd (omega arith)
  to_states node low (suc n) state c above below known =
      elim (low == state) as (λ t. (low == state) ≡ t → Contains (at_states node low (suc n)) (the node state c)) [
        | true ↦ λ e.
            let same : low ≡ state = same_number low state e in
            Contains-append_left (at_state node low) (at_states node (low + 1) n) (the node state c)
            (subst (λ s. Contains (at_state node s) (the node state c)) (sym same) (to_if node state c (po (pair node state)) known))
        | false ↦ λ e.
            let more : low + 1 ≤ state = grind (arith, nat_tests) in
            Contains-append_right (at_state node low) (at_states node (low + 1) n) (the node state c)
            (to_states node (low + 1) n state c more (omega arith) known)
      ] refl

  if_ascends : (node state : ℕ) (o : Option ℕ) → Ascends potential_order (potential_if node state o)
  if_ascends node state None = tt
  if_ascends node state (Some c) = (tt, tt)

  states_ascend : (node low n : ℕ) → Ascends potential_order (at_states node low n)
  states_ascend node low zero = tt
  states_ascend node low (suc n) =
      both_ascend potential_order (at_state node low) (at_states node (low + 1) n) (if_ascends node low (po (pair node low))) (states_ascend node (low + 1) n)
      (λ p q m k.
      let i = of_if node low (po (pair node low)) p refl m in
      let j = of_states node (low + 1) n q k in
      by_state p q (i.node ∙ sym j.node) (omega (arith, i.below, j.above)))

  abbrev in_nodes : ℕ → List ℕ → List Potential
  in_nodes states nodes = flat_map (λ node. at_states node 0 states) nodes

  nodes_ascend : (states : ℕ) (nodes : List ℕ) → Ascends nat_cmp nodes → Ascends potential_order (in_nodes states nodes)
  nodes_ascend states [] up = tt
  nodes_ascend states (node ∷ nodes) up =
      both_ascend potential_order (at_states node 0 states) (in_nodes states nodes) (states_ascend node 0 states) (nodes_ascend states nodes up.1)
      (λ p q m k.
      let i = of_states node 0 states p m in
      let from = from_flat_map (λ n. at_states n 0 states) nodes q k in
      let j = of_states from.0 0 states q from.2 in
      let less : node < from.0 = less_told node from.0 (of_member (λ n. nat_cmp node n ≡ Less) nodes from.0 up.0 from.1) in
      by_node p q (omega (arith, less, i.node, j.node)))

-- a node that is among some is a member of them
among_member : (ids : List ℕ) (id : ℕ) → is_among ids id ≡ true → Contains ids id
among_member [] id h = absurd (cc h)
among_member (x ∷ ids) id h =
    elim (x == id) as (λ t. (x == id) ≡ t → (t || is_among ids id) ≡ true → Contains (x ∷ ids) id) [
      | true ↦ λ e k. subst (Contains (x ∷ ids)) (same_number x id e) (contains_here x ids)
      | false ↦ λ e k. contains_later x ids id (among_member ids id k)
    ] refl h

module _ (setting : Setting) (law : IsNetwork setting.network) (tree : RegexTree ARegex) (parts : HasParts tree) (is : IsAutomatonOf tree setting.machine)
    (source : ℕ) (begins : IsThere setting.network source) (found : Finding) (exact : (q : Pair) → IsPotential setting source q (potential_of found q)) where
  abbrev po : Pair → Option ℕ
  po q = potential_of found q

  least_by : (q : Pair) (o : Option ℕ) → IsPotential setting source q o → Passed setting (pair source 0) q → (c : ℕ) × (o ≡ Some c) × IsLeastCost setting source q c
  least_by q None h passed = absurd (h passed)
  least_by q (Some c) h passed = (c, refl, h)

  -- a pair that a run reaches has a least cost
  pub least_of : (q : Pair) → Passed setting (pair source 0) q → (c : ℕ) × IsLeastCost setting source q c
  least_of q passed = let l = least_by q (po q) (exact q) passed in (l.0, l.2)

  sound : (q : Potential) → po (at_pair q) ≡ Some q.cost → IsReachedAt setting source q
  sound q known = subst (IsPotential setting source (at_pair q)) known (exact (at_pair q))

  pub those : (ids : List ℕ) → ids ≡ node_ids setting.network.graph.nodes → Ascends nat_cmp ids → AreThose potential_order (IsReachedAt setting source) (potentials_in found setting.machine.states ids)
  those ids same up = record {
    ascend = nodes_ascend po setting.machine.states ids up;
    exact = λ q. (
      λ m.
          let from = from_flat_map (potentials_at found setting.machine.states) ids q m in
          sound q (of_states po from.0 0 setting.machine.states q from.2).known,
      λ h.
          let inside = reached_inside setting law tree parts is source begins (at_pair q) h.some in
          let l = least_by (at_pair q) (po (at_pair q)) (exact (at_pair q)) h.some in
          let cost : l.0 ≡ q.cost = one_least setting source (at_pair q) l.0 q.cost l.2 h in
          let node = among_member ids q.node (subst (λ ns. is_among ns q.node ≡ true) (sym same) inside.there) in
          to_flat_map (potentials_at found setting.machine.states) ids q.node q node
          (to_states po q.node 0 setting.machine.states q.state q.cost (omega arith) (omega (arith, inside.below)) (l.1 ∙ ap Some cost)),
    );
  }

-- one state more
pub more_states : {X : Type 0} (f : ℕ → List X) (low n : ℕ) → flat_map f (range_with_len low (suc n)) ≡ flat_map f (range_with_len low n) ++ f (low + n)
more_states f low zero = let e : low ≡ low + 0 = omega arith in append-nil (f low) ∙ ap f e
more_states f low (suc n) =
    let e : low + 1 + n ≡ low + suc n = omega arith in
    ap (λ xs. f low ++ xs) (more_states f (low + 1) n) ∙ (sym (append_assoc (f low) (flat_map f (range_with_len (low + 1) n)) (f (low + 1 + n)))
    ∙ ap (λ k. (f low ++ flat_map f (range_with_len (low + 1) n)) ++ f k) e)

pub more_potentials : (found : Finding) (node state : ℕ) (before so_far now : List Potential) (o : Option ℕ) → so_far ≡ before ++ potentials_at found state node
    → o ≡ potential_of found (pair node state) → now ≡ so_far ++ potential_if node state o → now ≡ before ++ potentials_at found (state + 1) node
more_potentials found node state before so_far now o h is more =
    let f : ℕ → List Potential = λ s. potential_if node s (potential_of found (pair node s)) in
    let all = flat_map f (range_with_len 0 state) in
    let one : state + 1 ≡ suc state = omega arith in
    let zero_state : 0 + state ≡ state = omega arith in
    more ∙ (ap (λ p. so_far ++ potential_if node state p) is ∙ (ap (λ xs. xs ++ f state) h ∙ (append_assoc before all (f state)
    ∙ ap (λ xs. before ++ xs) (ap (λ s. all ++ f s) (sym zero_state) ∙ (sym (more_states f 0 state) ∙ ap (λ s. flat_map f (range_with_len 0 s)) (sym one))))))
