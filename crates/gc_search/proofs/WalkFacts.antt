-- Walks of runs are walks of the graph; of those with one start, the edges tell the walk.
use Rattle.std.proofs.Common.{◌≡◌, ℕ, zero, suc, ◌<◌, Bool, true, false, ◌||◌, ◌&&◌, ◌==◌, List, [], ◌∷◌, ◌++◌, ◌⊎◌, inl, inr, length, refl, sym, ap, subst, ◌∙◌, arith}
use Rattle.std.specs.declared.cmp.Ordering.TheVariants.{Less}
use Rattle.std.specs.List.{Contains, list_any}
use Rattle.std.specs.Ordering.{nat_cmp}
use Rattle.std.proofs.lemmas.Bool.{eq-eqb}
use Rattle.std.proofs.lemmas.Bool.Decides.{nat_tests}
use Rattle.gc_base.specs.Ascending.{Ascends}
use Rattle.gc_base.specs.Walks.{end_of_steps, edges_of}
use Rattle.gc_base.specs.declared.walk.Step.{Step}
use Rattle.gc_base.specs.declared.walk.Walk.{Walk}
use Rattle.gc_spec.specs.PropertyGraph.{Edge, edge_order, is_joined, are_steps_from}
use Rattle.gc_automata.specs.Moves.{Network, Goes}
use Rattle.gc_automata.specs.Runs.{RunsIn}
use Rattle.gc_automata.specs.declared.transition.On.{On}
use Rattle.gc_automata.specs.declared.transition.On.TheVariants as on
use Rattle.gc_automata.proofs.Inclusion.{among_more, among_none}
use Rattle.gc_prod.specs.declared.moves.Move.{Move}
use Rattle.gc_prod.specs.declared.moves.Pair.{Pair}
use Rattle.gc_prod.specs.Leading.{steps_of}
use Rattle.gc_prod.specs.Products.{Setting, moves}
use Rattle.gc_prod.specs.Segments.{IsSegment, AreSegments}
use Rattle.gc_prod.proofs.GoesLaws.{hop_goes}
use Rattle.gc_prod.proofs.LeadLaws.{by_move}
use Rattle.gc_prod.proofs.Members.{here, there}
use Rattle.gc_prod.proofs.Networks.{among_all}
use Rattle.gc_search.specs.Arrivals.{edges_along, passage, passages}
use Rattle.gc_search.specs.Entries.{IsMoveCost}
use Rattle.gc_search.specs.Passages.{Has, Passage, IsOnward, IsCounted}
use Rattle.gc_search.proofs.Bridge.{contains_of}
use Rattle.gc_search.proofs.Flat.{Has_from_map}

eqb_same : (a b : ℕ) → (a == b) ≡ true → a ≡ b
eqb_same a b h = grind (arith, nat_tests)

not_level : (a b : ℕ) → nat_cmp a b ≡ Less → a < b
not_level a b h = grind (arith, nat_tests)

and_both : (a b : Bool) → (a && b) ≡ true → (a ≡ true) × (b ≡ true)
and_both true b h = (refl, h)
and_both false b h = cc

and_true : (a b : Bool) → a ≡ true → b ≡ true → (a && b) ≡ true
and_true true b h g = g
and_true false b h g = cc

either : (a b : Bool) → (a || b) ≡ true → (a ≡ true) ⊎ (b ≡ true)
either true b h = inl refl
either false b h = inr h

true_or : (a b : Bool) → a ≡ true → (a || b) ≡ true
true_or a b h = ap (λ x. x || b) h

or_true : (a b : Bool) → b ≡ true → (a || b) ≡ true
or_true true b h = refl
or_true false b h = h

-- some item that passes
record Some {X : Type 0} (f : X → Bool) (xs : List X) : Type 0 where
  pub item : X
  pub among : Contains xs item
  pub passes : f item ≡ true

any_from : {X : Type 0} (f : X → Bool) (xs : List X) → list_any f xs ≡ true → Some f xs
any_from f [] h = cc
any_from {X = X} f (x ∷ xs) h = by (any_from f xs) (f x) refl h
  where
    later : Some f xs → Some f (x ∷ xs)
    later r = record { item = r.item; among = there x xs r.item r.among; passes = r.passes }

    by : (list_any f xs ≡ true → Some f xs) → (b : Bool) → f x ≡ b → (b || list_any f xs) ≡ true → Some f (x ∷ xs)
    by next true e k = record { item = x; among = here x xs; passes = e }
    by next false e k = later (next k)

in_any : {X : Type 0} (f : X → Bool) (xs : List X) (x : X) → Contains xs x → f x ≡ true → list_any f xs ≡ true
in_any f [] x h e = absurd (among_none x h)
in_any f (y ∷ xs) x h e = elim (among_more y xs x h) [
  | inl same ↦ true_or (f y) (list_any f xs) (ap f same ∙ e)
  | inr behind ↦ or_true (f y) (list_any f xs) (in_any f xs x behind e)
]

module _ (edges : List Edge) where
  -- an edge of an identity joins two nodes
  record Joins (id a b : ℕ) : Type 0 where
    pub edge : Edge
    pub among : Contains edges edge
    pub id_is : edge.id ≡ id
    pub ends : ((edge.from ≡ a) × (edge.to ≡ b)) ⊎ ((edge.from ≡ b) × (edge.to ≡ a))

  joins : (id a b : ℕ) → is_joined edges id a b ≡ true → Joins id a b
  joins id a b h =
      let found = any_from (λ (e : Edge). (e.id == id) && ((e.from == a && e.to == b) || (e.from == b && e.to == a))) edges h in
      let e = found.item in
      let both = and_both (e.id == id) _ found.passes in
      record {
        edge = e;
        among = found.among;
        id_is = eqb_same e.id id both.0;
        ends = elim (either (e.from == a && e.to == b) (e.from == b && e.to == a) both.1) [
          | inl k ↦ let p = and_both (e.from == a) (e.to == b) k in inl (eqb_same e.from a p.0, eqb_same e.to b p.1)
          | inr k ↦ let p = and_both (e.from == b) (e.to == a) k in inr (eqb_same e.from b p.0, eqb_same e.to a p.1)
        ];
      }

  forward : (e : Edge) → Contains edges e → is_joined edges e.id e.from e.to ≡ true
  forward e h =
      in_any (λ (f : Edge). (f.id == e.id) && ((f.from == e.from && f.to == e.to) || (f.from == e.to && f.to == e.from))) edges e h
      (and_true _ _ (eq-eqb e.id e.id refl) (true_or _ _ (and_true _ _ (eq-eqb e.from e.from refl) (eq-eqb e.to e.to refl))))

  backward : (e : Edge) → Contains edges e → is_joined edges e.id e.to e.from ≡ true
  backward e h =
      in_any (λ (f : Edge). (f.id == e.id) && ((f.from == e.to && f.to == e.from) || (f.from == e.from && f.to == e.to))) edges e h
      (and_true _ _ (eq-eqb e.id e.id refl) (or_true (e.from == e.to && e.to == e.from) _ (and_true _ _ (eq-eqb e.from e.from refl) (eq-eqb e.to e.to refl))))

  steps_both : (a : ℕ) (xs ys : List Step) → are_steps_from edges a xs ≡ true → are_steps_from edges (end_of_steps a xs) ys ≡ true → are_steps_from edges a (xs ++ ys) ≡ true
  steps_both a [] ys h g = g
  steps_both a (x ∷ xs) ys h g = let b = and_both (is_joined edges x.edge a x.node) _ h in and_true _ _ b.0 (steps_both x.node xs ys b.1 g)

  other_end : (id a b c : ℕ) → (j : Joins id a b) (k : Joins id a c) → j.edge ≡ k.edge → b ≡ c
  other_end id a b c j k same =
      let from : j.edge.from ≡ k.edge.from = ap (λ (e : Edge). e.from) same in
      let to : j.edge.to ≡ k.edge.to = ap (λ (e : Edge). e.to) same in
      elim j.ends [
        | inl p ↦ elim k.ends [ inl q ↦ omega (arith, from, to, p.0, p.1, q.0, q.1) | inr q ↦ omega (arith, from, to, p.0, p.1, q.0, q.1) ]
        | inr p ↦ elim k.ends [ inl q ↦ omega (arith, from, to, p.0, p.1, q.0, q.1) | inr q ↦ omega (arith, from, to, p.0, p.1, q.0, q.1) ]
      ]

-- no two edges have one identity
one_edge : (edges : List Edge) → Ascends edge_order edges → (e f : Edge) → Contains edges e → Contains edges f → e.id ≡ f.id → e ≡ f
one_edge [] up e f he hf same = absurd (among_none e he)
one_edge (x ∷ edges) up e f he hf same = by (one_edge edges up.1 e f) (among_more x edges e he) (among_more x edges f hf)
  where
    above : (g : Edge) → Contains edges g → x.id < g.id
    above g h = not_level x.id g.id (among_all (λ (y : Edge). edge_order x y ≡ Less) edges g up.0 h)

    by : (Contains edges e → Contains edges f → e.id ≡ f.id → e ≡ f) → (x ≡ e) ⊎ Contains edges e → (x ≡ f) ⊎ Contains edges f → e ≡ f
    by next (inl d) (inl g) = sym d ∙ g
    by next (inl d) (inr h) = let n : x.id ≡ e.id = ap (λ (y : Edge). y.id) d in let l = above f h in absurd (omega (arith, n, same, l))
    by next (inr h) (inl g) = let n : x.id ≡ f.id = ap (λ (y : Edge). y.id) g in let l = above e h in absurd (omega (arith, n, same, l))
    by next (inr h) (inr k) = next h k same

-- walks with one start and the same edges take the same steps
pub steps_one : (edges : List Edge) → Ascends edge_order edges → (a : ℕ) (xs ys : List Step) → are_steps_from edges a xs ≡ true → are_steps_from edges a ys ≡ true → edges_along xs ≡ edges_along ys → xs ≡ ys
steps_one edges up a [] [] h g e = refl
steps_one edges up a [] (y ∷ ys) h g e = cc
steps_one edges up a (x ∷ xs) [] h g e = cc
steps_one edges up a (x ∷ xs) (y ∷ ys) h g e =
    let id : x.edge ≡ y.edge = cc in
    let rest : edges_along xs ≡ edges_along ys = cc in
    let p = and_both (is_joined edges x.edge a x.node) (are_steps_from edges x.node xs) h in
    let q = and_both (is_joined edges y.edge a y.node) (are_steps_from edges y.node ys) g in
    let j = joins edges x.edge a x.node p.0 in
    let k = joins edges x.edge a y.node (subst (λ n. is_joined edges n a y.node ≡ true) (sym id) q.0) in
    let node : x.node ≡ y.node = other_end edges x.edge a x.node y.node j k (one_edge edges up j.edge k.edge j.among k.among (j.id_is ∙ sym k.id_is)) in
    let tail = steps_one edges up x.node xs ys p.1 (subst (λ n. are_steps_from edges n ys ≡ true) (sym node) q.1) rest in
    let step : x ≡ y = λ i. record { edge = id i; node = node i } in
    ap (λ (s : Step). s ∷ xs) step ∙ ap (λ (l : List Step). y ∷ l) tail

module _ (network : Network) (segments : AreSegments network.graph network.segments) where
  abbrev AreWalked : Walk → Type 0
  AreWalked w = are_steps_from network.graph.edges w.start w.steps ≡ true

  along_steps : (e : Edge) → Contains network.graph.edges e → are_steps_from network.graph.edges e.from (record { edge = e.id; node = e.to } ∷ []) ≡ true
  along_steps e h = and_true _ _ (forward network.graph.edges e h) refl

  against_steps : (e : Edge) → Contains network.graph.edges e → are_steps_from network.graph.edges e.to (record { edge = e.id; node = e.from } ∷ []) ≡ true
  against_steps e h = and_true _ _ (backward network.graph.edges e h) refl

  goes_walks : (label : On) (w : Walk) (c : ℕ) → Goes network label w c → AreWalked w
  goes_walks on.Empty w c g = ap (are_steps_from network.graph.edges w.start) g.still
  goes_walks (on.Label l) w c g = subst AreWalked (sym g.goes) (along_steps g.edge g.there)
  goes_walks (on.Back l) w c g = subst AreWalked (sym g.goes) (against_steps g.edge g.there)
  goes_walks on.Any w c g = subst AreWalked (sym g.goes) (along_steps g.edge g.there)
  goes_walks on.AnyBack w c g = subst AreWalked (sym g.goes) (against_steps g.edge g.there)
  goes_walks (on.Test l) w c g = subst AreWalked (sym g.still) refl
  goes_walks (on.View v) w c g =
      let is = among_all (IsSegment network.graph) network.segments (record { view = v; walk = w; cost = c }) segments g in
      (and_both _ (are_steps_from network.graph.edges w.start w.steps) is.walk).1

  goes_cost : (label : On) (w : Walk) (c : ℕ) → Goes network label w c → IsMoveCost c (edges_of w)
  goes_cost on.Empty w c g = inr (g.free, ap edges_along g.still)
  goes_cost (on.Label l) w c g = inl (omega (arith, g.cost))
  goes_cost (on.Back l) w c g = inl (omega (arith, g.cost))
  goes_cost on.Any w c g = inl (omega (arith, g.cost))
  goes_cost on.AnyBack w c g = inl (omega (arith, g.cost))
  goes_cost (on.Test l) w c g = inr (g.free, ap (λ (v : Walk). edges_of v) g.still)
  goes_cost (on.View v) w c g =
      let is = among_all (IsSegment network.graph) network.segments (record { view = v; walk = w; cost = c }) segments g in
      inl (omega (arith, is.costs))

module _ (setting : Setting) (segments : AreSegments setting.network.graph setting.network.segments) where
  -- a run passes a walk of the graph
  pub run_walks : (n from to : ℕ) (w : Walk) (c : ℕ) → RunsIn setting.network setting.machine.transitions n from to w c → are_steps_from setting.network.graph.edges w.start w.steps ≡ true
  run_walks zero from to w c run = ap (are_steps_from setting.network.graph.edges w.start) run.1.still
  run_walks (suc n) from to w c run =
      let edges = setting.network.graph.edges in
      let first = goes_walks setting.network segments run.transition.on run.first run.first_cost run.early in
      let second = run_walks n run.transition.to to run.second run.second_cost run.late in
      subst (λ (v : Walk). are_steps_from edges v.start v.steps ≡ true) (sym run.whole)
      (steps_both edges run.first.start run.first.steps run.second.steps first (subst (λ s. are_steps_from edges s run.second.steps ≡ true) (sym run.meets) second))

  -- a move costs at least 1, or it costs nothing and passes no edge
  pub passage_onward : (q : Pair) (x : Passage Pair) → Has (passages setting q) x → IsOnward x
  passage_onward q x h =
      let from = Has_from_map (passage setting) (moves setting q.node q.state) x h in
      let by = by_move setting q.node q.state from.0 (contains_of (moves setting q.node q.state) from.0 from.1) in
      let first = hop_goes setting.network by.transition.on by.hop by.along in
      let cost : by.hop.cost ≡ x.cost = ap (λ (k : Move). k.cost) by.is ∙ ap (λ (y : Passage Pair). y.cost) from.2 in
      let edges : edges_of first.walk ≡ x.edges = ap edges_along (first.steps ∙ ap (steps_of setting) by.is) ∙ ap (λ (y : Passage Pair). y.edges) from.2 in
      let goes = goes_cost setting.network segments by.transition.on first.walk by.hop.cost first.goes in
      subst (λ (l : List ℕ). IsMoveCost x.cost l) edges (subst (λ n. IsMoveCost n (edges_of first.walk)) cost goes)

-- without segments a move costs 1 for each edge
goes_counted : (network : Network) → network.segments ≡ [] → (label : On) (w : Walk) (c : ℕ) → Goes network label w c → c ≡ length (edges_of w)
goes_counted network none on.Empty w c g = g.free ∙ sym (ap (λ (l : List Step). length (edges_along l)) g.still)
goes_counted network none (on.Label l) w c g = g.cost ∙ sym (ap (λ (v : Walk). length (edges_of v)) g.goes)
goes_counted network none (on.Back l) w c g = g.cost ∙ sym (ap (λ (v : Walk). length (edges_of v)) g.goes)
goes_counted network none on.Any w c g = g.cost ∙ sym (ap (λ (v : Walk). length (edges_of v)) g.goes)
goes_counted network none on.AnyBack w c g = g.cost ∙ sym (ap (λ (v : Walk). length (edges_of v)) g.goes)
goes_counted network none (on.Test l) w c g = g.free ∙ sym (ap (λ (v : Walk). length (edges_of v)) g.still)
goes_counted network none (on.View v) w c g = absurd (among_none (record { view = v; walk = w; cost = c }) (subst (λ l. Contains l (record { view = v; walk = w; cost = c })) none g))

pub passage_counted : (setting : Setting) → setting.network.segments ≡ [] → (q : Pair) (x : Passage Pair) → Has (passages setting q) x → IsCounted x
passage_counted setting none q x h =
    let from = Has_from_map (passage setting) (moves setting q.node q.state) x h in
    let by = by_move setting q.node q.state from.0 (contains_of (moves setting q.node q.state) from.0 from.1) in
    let first = hop_goes setting.network by.transition.on by.hop by.along in
    let cost : by.hop.cost ≡ x.cost = ap (λ (k : Move). k.cost) by.is ∙ ap (λ (y : Passage Pair). y.cost) from.2 in
    let edges : edges_of first.walk ≡ x.edges = ap edges_along (first.steps ∙ ap (steps_of setting) by.is) ∙ ap (λ (y : Passage Pair). y.edges) from.2 in
    sym cost ∙ (goes_counted setting.network none by.transition.on first.walk by.hop.cost first.goes ∙ ap length edges)
