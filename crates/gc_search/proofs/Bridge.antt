-- Going along passages is going along runs: what is passed are the walks of runs at their costs.
use Rattle.std.proofs.Common.{◌≡◌, ℕ, zero, suc, ◌+◌, List, [], ◌∷◌, ◌++◌, inl, inr, map, refl, sym, ap, subst, ◌∙◌, arith, append_assoc}
use Rattle.std.specs.List.{Contains}
use Rattle.std.specs.List.Sorted.{IsPermutation}
use Rattle.std.proofs.lemmas.List.{append-nil, map-append}
use Rattle.std.proofs.lemmas.List.Sorted.{Contains-permutation}
use Rattle.gc_base.specs.Walks.{end_of, end_of_steps, edges_of}
use Rattle.gc_base.specs.declared.walk.Step.{Step}
use Rattle.gc_base.specs.declared.walk.Walk.{Walk}
use Rattle.gc_automata.specs.Moves.{IsNetwork, IsThere, joined}
use Rattle.gc_automata.specs.Runs.{RunsIn}
use Rattle.gc_automata.proofs.Inclusion.{among_more, among_none}
use Rattle.gc_automata.proofs.WalkLaws.{end_joined, still_end}
use Rattle.gc_prod.specs.declared.moves.Move.{Move}
use Rattle.gc_prod.specs.declared.moves.Pair.{Pair}
use Rattle.gc_prod.specs.declared.moves.RunMove.{RunMove}
use Rattle.gc_prod.specs.Leading.{pair, target_of, steps_of}
use Rattle.gc_prod.specs.Products.{Setting, moved, moves}
use Rattle.gc_prod.proofs.GoesLaws.{hop_goes, goes_hop}
use Rattle.gc_prod.proofs.LeadLaws.{by_move, move_by, move_there}
use Rattle.gc_prod.proofs.Members.{here, there}
use Rattle.gc_search.specs.Arrivals.{edges_along, passage, passages}
use Rattle.gc_search.specs.Entries.{Entry, extend}
use Rattle.gc_search.specs.Finding.{Follows}
use Rattle.gc_search.specs.Passages.{Has, Passage, Goes}
use Rattle.gc_search.proofs.Flat.{Has_map, Has_from_map}
use Rattle.gc_search.proofs.Order.{entry_eq}

pub has_of : {X : Type 0} (xs : List X) (x : X) → Contains xs x → Has xs x
has_of [] x h = absurd (among_none x h)
has_of (y ∷ xs) x h = elim (among_more y xs x h) [ inl same ↦ inl same | inr behind ↦ inr (has_of xs x behind) ]

pub contains_of : {X : Type 0} (xs : List X) (x : X) → Has xs x → Contains xs x
contains_of [] x h = elim h [ ]
contains_of (y ∷ xs) x (inl e) = subst (λ z. Contains (y ∷ xs) z) e (here y xs)
contains_of (y ∷ xs) x (inr h) = there y xs x (contains_of xs x h)

pub has_permuted : {X : Type 0} (xs ys : List X) (x : X) → IsPermutation xs ys → Has xs x → Has ys x
has_permuted xs ys x p h = has_of ys x (Contains-permutation xs ys x p (contains_of xs x h))

extend_none : (e : Entry) (c : ℕ) (w : List ℕ) → c ≡ 0 → w ≡ [] → e ≡ extend e c w
extend_none e c w free still =
    let n : e.cost ≡ e.cost + c = omega (arith, free) in
    let v : e.edges ≡ e.edges ++ w = sym (ap (λ l. e.edges ++ l) still ∙ append-nil e.edges) in
    entry_eq e (extend e c w) n v

edges_joined : (first second : Walk) → edges_of (joined first second) ≡ edges_of first ++ edges_of second
edges_joined first second = map-append (λ (s : Step). s.edge) first.steps second.steps

-- a first part and a second part make the whole
extend_joined : (e : Entry) (a b c x : ℕ) (es : List ℕ) (first second w : Walk) → x ≡ a → es ≡ edges_of first → w ≡ joined first second → c ≡ a + b
    → extend (extend e x es) b (edges_of second) ≡ extend e c (edges_of w)
extend_joined e a b c x es first second w same edges whole cost =
    let n : e.cost + x + b ≡ e.cost + c = omega (arith, same, cost) in
    let v : (e.edges ++ es) ++ edges_of second ≡ e.edges ++ edges_of w =
    append_assoc e.edges es (edges_of second)
    ∙ ap (λ l. e.edges ++ l) (ap (λ l. l ++ edges_of second) edges ∙ (sym (edges_joined first second) ∙ ap (λ (u : Walk). edges_of u) (sym whole))) in
    entry_eq (extend (extend e x es) b (edges_of second)) (extend e c (edges_of w)) n v

module _ (setting : Setting) where
  -- a run goes along passages
  pub run_goes : (n from to : ℕ) (w : Walk) (c : ℕ) (e : Entry) → RunsIn setting.network setting.machine.transitions n from to w c
      → (run : List (Passage Pair)) × Goes (passages setting) (pair w.start from) e run (pair (end_of w) to) (extend e c (edges_of w))
  run_goes zero from to w c e run = (
    [],
    ((λ j. pair (sym (still_end w run.1.still) j) (run.0 j)), extend_none e c (edges_of w) run.1.free (ap (map (λ (s : Step). s.edge)) run.1.still)),
  )
  run_goes (suc n) from to w c e run =
      let hop = goes_hop setting.network run.transition.on run.first run.first_cost run.early in
      let t = run.transition in
      let m : Move = moved t.to hop.hop in
      let start : hop.hop.from ≡ w.start = hop.starts ∙ ap (λ (v : Walk). v.start) (sym run.whole) in
      let among : Contains (moves setting w.start from) m =
      subst (λ s. Contains (moves setting w.start s) m) run.leaves (subst (λ v. Contains (moves setting v t.from) m) start (move_by setting t hop.hop run.among hop.along)) in
      let x = passage setting m in
      let behind = run_goes n t.to to run.second run.second_cost (extend e x.cost x.edges) run.late in
      let node : run.second.start ≡ hop.hop.to = sym run.meets ∙ sym hop.ends in
      let ends : end_of run.second ≡ end_of w = sym (end_joined run.first run.second run.meets) ∙ ap (λ (v : Walk). end_of v) (sym run.whole) in
      let edges : x.edges ≡ edges_of run.first = ap edges_along hop.steps in
      let last : extend (extend e x.cost x.edges) run.second_cost (edges_of run.second) ≡ extend e c (edges_of w) =
      extend_joined e run.first_cost run.second_cost c x.cost x.edges run.first run.second w hop.cost edges run.whole run.cost in (
        x ∷ behind.0,
        (
          Has_map (passage setting) (moves setting w.start from) m (has_of (moves setting w.start from) m among),
          subst (λ (f : Entry). Goes (passages setting) x.to (extend e x.cost x.edges) behind.0 (pair (end_of w) to) f) last
              (subst (λ v. Goes (passages setting) x.to (extend e x.cost x.edges) behind.0 (pair v to) (extend (extend e x.cost x.edges) run.second_cost (edges_of run.second))) ends
              (subst (λ v. Goes (passages setting) (pair v t.to) (extend e x.cost x.edges) behind.0 (pair (end_of run.second) to) (extend (extend e x.cost x.edges) run.second_cost (edges_of run.second))) node behind.1)),
        ),
      )

  -- a walk of a run, by some steps and at a cost
  pub record Ran (p q : Pair) (steps : List Step) (cost : ℕ) : Type 0 where
    pub count : ℕ
    pub runs : RunsIn setting.network setting.machine.transitions count p.state q.state (record { start = p.node; steps = steps }) cost
    pub ends : end_of (record { start = p.node; steps = steps }) ≡ q.node

  walk_is : (w : Walk) (node : ℕ) (steps : List Step) → w.start ≡ node → w.steps ≡ steps → w ≡ record { start = node; steps = steps }
  walk_is w node steps start same = λ j. record { start = start j; steps = same j }

  -- a move before a run
  ran_more : IsNetwork setting.network → (p q : Pair) (m : Move) (steps : List Step) (cost : ℕ) → Contains (moves setting p.node p.state) m → Ran (target_of m) q steps cost
      → Ran p q (steps_of setting m ++ steps) (m.cost + cost)
  ran_more law p q m steps cost among rest =
      let by = by_move setting p.node p.state m among in
      let first = hop_goes setting.network by.transition.on by.hop by.along in
      let one : first.walk ≡ record { start = p.node; steps = steps_of setting m } =
      walk_is first.walk p.node (steps_of setting m) (first.starts ∙ by.starts) (first.steps ∙ ap (steps_of setting) by.is) in
      let second : Walk = record { start = m.node; steps = steps } in
      let meets : end_of first.walk ≡ m.node = first.ends ∙ ap (λ (k : Move). k.node) by.is in
      let whole : record { start = p.node; steps = steps_of setting m ++ steps } ≡ joined first.walk second = ap (λ (u : Walk). joined u second) (sym one) in
      let cost_is : by.hop.cost ≡ m.cost = ap (λ (k : Move). k.cost) by.is in
      record {
        count = suc rest.count;
        runs = record {
          transition = by.transition;
          among = by.among;
          leaves = by.leaves;
          first = first.walk;
          second = second;
          first_cost = by.hop.cost;
          second_cost = cost;
          early = first.goes;
          late = subst (λ s. RunsIn setting.network setting.machine.transitions rest.count s q.state second cost) (sym (ap (λ (k : Move). k.state) by.is)) rest.runs;
          meets = meets;
          whole = whole;
          cost = ap (λ n. n + cost) (sym cost_is);
        };
        ends = ap (λ (u : Walk). end_of u) whole ∙ (end_joined first.walk second meets ∙ rest.ends);
      }

  -- moves that follow one another are a run
  pub follows_ran : IsNetwork setting.network → (run : List RunMove) (p q : Pair) (steps : List Step) (cost : ℕ) → IsThere setting.network p.node → Follows setting p run q steps cost → Ran p q steps cost
  follows_ran law [] p q steps cost begins h = record {
    count = 0;
    runs = (ap (λ (r : Pair). r.state) h.0, record { there = begins; still = h.1; free = h.2 });
    ends = ap (end_of_steps p.node) h.1 ∙ ap (λ (r : Pair). r.node) h.0;
  }
  follows_ran law (r ∷ run) p q steps cost begins h =
      let m = h.0 in
      let rest = follows_ran law run (target_of m) q h.3 h.4 (move_there setting law p.node p.state m h.1) h.7 in
      let more = ran_more law p q m h.3 h.4 h.1 rest in
      subst (λ n. Ran p q steps n) (sym h.6) (subst (λ (l : List Step). Ran p q l (m.cost + h.4)) (sym h.5) more)

  -- going along passages is following moves
  pub record Followed (p q : Pair) (e f : Entry) : Type 0 where
    pub run : List RunMove
    pub steps : List Step
    pub cost : ℕ
    pub follows : Follows setting p run q steps cost
    pub is : f ≡ extend e cost (edges_along steps)

  pub goes_followed : (run : List (Passage Pair)) (p q : Pair) (e f : Entry) → Goes (passages setting) p e run q f → Followed p q e f
  goes_followed [] p q e f h = record { run = []; steps = []; cost = 0; follows = (h.0, refl, refl); is = sym h.1 ∙ extend_none e 0 [] refl refl }
  goes_followed (x ∷ run) p q e f h =
      let from = Has_from_map (passage setting) (moves setting p.node p.state) x h.0 in
      let m = from.0 in
      let rest = goes_followed run x.to q (extend e x.cost x.edges) f h.1 in
      let to : x.to ≡ target_of m = ap (λ (y : Passage Pair). y.to) (sym from.2) in
      let cost : x.cost ≡ m.cost = ap (λ (y : Passage Pair). y.cost) (sym from.2) in
      let edges : x.edges ≡ edges_along (steps_of setting m) = ap (λ (y : Passage Pair). y.edges) (sym from.2) in
      record {
        run = record { by = m.by; to = m.state } ∷ rest.run;
        steps = steps_of setting m ++ rest.steps;
        cost = m.cost + rest.cost;
        follows = (
          m,
          contains_of (moves setting p.node p.state) m from.1,
          refl,
          rest.steps,
          rest.cost,
          refl,
          refl,
          subst (λ (r : Pair). Follows setting r rest.run q rest.steps rest.cost) to rest.follows,
        );
        is =
            rest.is
            ∙ extend_joined e m.cost rest.cost (m.cost + rest.cost) x.cost x.edges (record { start = p.node; steps = steps_of setting m }) (record { start = m.node; steps = rest.steps })
            (record { start = p.node; steps = steps_of setting m ++ rest.steps }) cost edges refl refl;
      }

  -- a move behind moves
  pub follows_push : (run : List RunMove) (p q : Pair) (steps : List Step) (cost : ℕ) (m : Move) → Follows setting p run q steps cost → Contains (moves setting q.node q.state) m
      → Follows setting p (run ++ record { by = m.by; to = m.state } ∷ []) (target_of m) (steps ++ steps_of setting m) (cost + m.cost)
  follows_push [] p q steps cost m h among = (
    m,
    subst (λ (r : Pair). Contains (moves setting r.node r.state) m) (sym h.0) among,
    refl,
    [],
    0,
    ap (λ (l : List Step). l ++ steps_of setting m) h.1 ∙ sym (append-nil (steps_of setting m)),
    omega (arith, h.2),
    (refl, refl, refl),
  )
  follows_push (r ∷ run) p q steps cost m h among =
      let rest = follows_push run (target_of h.0) q h.3 h.4 m h.7 among in (
        h.0,
        h.1,
        h.2,
        h.3 ++ steps_of setting m,
        h.4 + m.cost,
        ap (λ (l : List Step). l ++ steps_of setting m) h.5 ∙ append_assoc (steps_of setting h.0) h.3 (steps_of setting m),
        omega (arith, h.6),
        rest,
      )
