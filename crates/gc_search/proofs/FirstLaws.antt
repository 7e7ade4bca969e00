-- The lists that are settled at the pairs of a state are the first walks of runs to that state.
use Rattle.std.proofs.Common.{◌≡◌, ℕ, ◌+◌, ◌<◌, ◌≤◌, List, [], ◌∷◌, ◌⊎◌, inl, inr, map, length, refl, sym, ap, subst, ◌∙◌, arith, Ordering, zero-add, true}
use Rattle.std.specs.Cmp.Lexicographic.{slice_cmp}
use Rattle.std.specs.List.{AllByRecursion, Contains, slice_get}
use Rattle.std.specs.Option.{option_map}
use Rattle.std.specs.declared.cmp.Ordering.TheVariants.{Less, Equal}
use Rattle.std.specs.Ordering.{nat_cmp, ordering_then}
use Rattle.std.proofs.lemmas.Bool.Decides.{nat_tests}
use Rattle.std.proofs.lemmas.List.{length-map}
use Rattle.gc_base.specs.Ascending.{Ascends}
use Rattle.gc_base.specs.Walks.{end_of, edges_of}
use Rattle.gc_base.specs.declared.walk.Step.{Step}
use Rattle.gc_base.specs.declared.walk.Walk.{Walk}
use Rattle.gc_spec.specs.PropertyGraph.{IsGraph, are_steps_from}
use Rattle.gc_automata.specs.Moves.{IsNetwork, IsThere}
use Rattle.gc_prod.specs.declared.moves.Pair.{Pair}
use Rattle.gc_prod.specs.Leading.{pair}
use Rattle.gc_prod.specs.Products.{Setting}
use Rattle.gc_prod.specs.Segments.{AreSegments}
use Rattle.gc_prod.proofs.Members.{in_map, from_map, from_filter}
use Rattle.gc_prod.proofs.Networks.{among_all}
use Rattle.gc_search.specs.Arrivals.{FoundWalk, edges_along, entry_of, same_pair, arrivals_at, settled_at, passages}
use Rattle.gc_search.specs.Entries.{Entry, entry, LexLess, Before, Cheaper, Shorter, Lower}
use Rattle.gc_search.specs.Finding.{IsFollowed, IsPotential, costed}
use Rattle.gc_search.specs.FirstWalks.{CostedWalk, costed_order, IsLeast, AreFirst, IsRunTo}
use Rattle.gc_search.specs.Passages.{Has, Goes, Reach, IsFirstK, Rises, Listed, Past}
use Rattle.gc_search.proofs.Bridge.{has_of, contains_of, run_goes, Ran, follows_ran, goes_followed}
use Rattle.gc_search.proofs.Flat.{same_is, Has_map, Has_from_map}
use Rattle.gc_search.proofs.WalkFacts.{steps_one, run_walks}

less_is : (a b : ℕ) → a < b → nat_cmp a b ≡ Less
less_is a b h = grind (arith, nat_tests)

equal_is : (a b : ℕ) → a ≡ b → nat_cmp a b ≡ Equal
equal_is a b h = grind (arith, nat_tests)

lex_is : (xs ys : List ℕ) → LexLess xs ys → slice_cmp nat_cmp xs ys ≡ Less
lex_is [] ys h = elim h [ ]
lex_is (x ∷ xs) [] h = elim h [ ]
lex_is (x ∷ xs) (y ∷ ys) (inl l) = ap (λ (o : Ordering). ordering_then o (slice_cmp nat_cmp xs ys)) (less_is x y l)
lex_is (x ∷ xs) (y ∷ ys) (inr h) = ap (λ (o : Ordering). ordering_then o (slice_cmp nat_cmp xs ys)) (equal_is x y h.0) ∙ lex_is xs ys h.1

-- the order of walks is that of their entries
abbrev seen : CostedWalk → Entry
seen w = entry w.cost (edges_of w.walk)

before_is : (v w : CostedWalk) → Before (seen v) (seen w) → costed_order v w ≡ Less
before_is v w (Cheaper l) =
    ap (λ (o : Ordering). ordering_then o (ordering_then (nat_cmp (length v.walk.steps) (length w.walk.steps)) (slice_cmp nat_cmp (edges_of v.walk) (edges_of w.walk)))) (less_is v.cost w.cost l)
before_is v w (Shorter e l) =
    let n : length v.walk.steps < length w.walk.steps = omega (arith, l, length-map v.walk.steps (λ (s : Step). s.edge), length-map w.walk.steps (λ (s : Step). s.edge)) in
    ap (λ (o : Ordering). ordering_then o (ordering_then (nat_cmp (length v.walk.steps) (length w.walk.steps)) (slice_cmp nat_cmp (edges_of v.walk) (edges_of w.walk)))) (equal_is v.cost w.cost e)
    ∙ ap (λ (o : Ordering). ordering_then o (slice_cmp nat_cmp (edges_of v.walk) (edges_of w.walk))) (less_is (length v.walk.steps) (length w.walk.steps) n)
before_is v w (Lower e n l) =
    let same : length v.walk.steps ≡ length w.walk.steps = omega (arith, n, length-map v.walk.steps (λ (s : Step). s.edge), length-map w.walk.steps (λ (s : Step). s.edge)) in
    ap (λ (o : Ordering). ordering_then o (ordering_then (nat_cmp (length v.walk.steps) (length w.walk.steps)) (slice_cmp nat_cmp (edges_of v.walk) (edges_of w.walk)))) (equal_is v.cost w.cost e)
    ∙ (ap (λ (o : Ordering). ordering_then o (slice_cmp nat_cmp (edges_of v.walk) (edges_of w.walk))) (equal_is (length v.walk.steps) (length w.walk.steps) same)
    ∙ lex_is (edges_of v.walk) (edges_of w.walk) l)

before_cost : (a b : Entry) → Before a b → a.cost ≤ b.cost
before_cost a b (Cheaper l) = omega (arith, l)
before_cost a b (Shorter e l) = omega (arith, e)
before_cost a b (Lower e n l) = omega (arith, e)

above_all : (source : ℕ) (a : FoundWalk) (arrivals : List FoundWalk) → ((y : Entry) → Has (map entry_of arrivals) y → Before (entry_of a) y)
    → AllByRecursion (λ w. costed_order (costed source a) w ≡ Less) (map (costed source) arrivals)
above_all source a [] h = tt
above_all source a (b ∷ arrivals) h = (before_is (costed source a) (costed source b) (h (entry_of b) (inl refl)), above_all source a arrivals (λ y g. h y (inr g)))

ascends : (source : ℕ) (arrivals : List FoundWalk) → Rises (map entry_of arrivals) → Ascends costed_order (map (costed source) arrivals)
ascends source [] rises = tt
ascends source (a ∷ arrivals) rises = (above_all source a arrivals rises.0, ascends source arrivals rises.1)

module _ (setting : Setting) (graph : IsGraph setting.network.graph) (segments : AreSegments setting.network.graph setting.network.segments) (law : IsNetwork setting.network)
    (source : ℕ) (begins : IsThere setting.network source) where
  abbrev IsReached : Pair → Entry → Type 0
  IsReached q e = Reach (passages setting) (pair source 0) q e

  -- what a run passes is reached
  run_reached : (target state : ℕ) (w : Walk) (c : ℕ) → w.start ≡ source → end_of w ≡ target → IsRunTo setting state w c → IsReached (pair target state) (entry c (edges_of w))
  run_reached target state w c starts ends run =
      let goes = run_goes setting run.0 0 state w c (entry 0 []) run.1 in (
        goes.0,
        subst (λ n. Goes (passages setting) (pair source 0) (entry 0 []) goes.0 (pair target state) (entry n (edges_of w))) (zero-add c)
            (subst (λ n. Goes (passages setting) (pair n 0) (entry 0 []) goes.0 (pair target state) (entry (0 + c) (edges_of w))) starts
            (subst (λ n. Goes (passages setting) (pair w.start 0) (entry 0 []) goes.0 (pair n state) (entry (0 + c) (edges_of w))) ends goes.1)),
      )

  -- and what is reached, a run passes
  pub record RunFor (q : Pair) (e : Entry) : Type 0 where
    pub steps : List Step
    pub ran : Ran setting (pair source 0) q steps e.cost
    pub edges : e.edges ≡ edges_along steps

  pub reached_run : (q : Pair) (e : Entry) → IsReached q e → RunFor q e
  reached_run q e r =
      let f = goes_followed setting r.0 (pair source 0) q (entry 0 []) e r.1 in
      let cost : f.cost ≡ e.cost = sym (ap (λ (x : Entry). x.cost) f.is ∙ zero-add f.cost) in
      record {
        steps = f.steps;
        ran = subst (λ n. Ran setting (pair source 0) q f.steps n) cost (follows_ran setting law f.run (pair source 0) q f.steps f.cost begins f.follows);
        edges = ap (λ (x : Entry). x.edges) f.is;
      }

  -- the first of those that are settled at a pair has the least cost
  potential_at : (k : ℕ) → 0 < k → (q : Pair) (arrivals : List FoundWalk) → IsFirstK k (IsReached q) (map entry_of arrivals)
      → IsPotential setting source q (option_map (λ a. a.cost) (slice_get arrivals 0))
  potential_at k some q [] first = λ p.
      elim (first.covers (entry p.cost (edges_of p.walk)) (run_reached q.node q.state p.walk p.cost p.starts p.ends p.runs)) [
        | Listed x h d n ↦ h
        | Past n b ↦ omega (arith, some, n)
      ]
  potential_at k some q (a ∷ arrivals) first =
      let r = reached_run q (entry_of a) (first.members (entry_of a) (inl refl)).0 in
      record {
        some = record { walk = record { start = source; steps = r.steps }; cost = a.cost; runs = (r.ran.count, r.ran.runs); starts = refl; ends = r.ran.ends };
        reached = refl;
        least = λ p.
            elim (first.covers (entry p.cost (edges_of p.walk)) (run_reached q.node q.state p.walk p.cost p.starts p.ends p.runs)) [
              | Listed x h d n ↦ elim h [
                | inl e ↦ let c : a.cost ≡ x.cost = ap (λ (y : Entry). y.cost) e in omega (arith, c, n)
                | inr g ↦ let c = before_cost (entry_of a) x (first.ascending.0 x g) in omega (arith, c, n)
              ]
              | Past n b ↦ before_cost (entry_of a) (entry p.cost (edges_of p.walk)) (b (entry_of a) (inl refl))
            ];
      }

  pub potential_is : (k : ℕ) → 0 < k → (walks : List FoundWalk) (q : Pair) → IsFirstK k (IsReached q) (settled_at walks q)
      → IsPotential setting source q (option_map (λ a. a.cost) (slice_get (arrivals_at walks q) 0))
  potential_is k some walks q first = potential_at k some q (arrivals_at walks q) first

  module _ (k : ℕ) (walks : List FoundWalk) (followed : AllByRecursion (IsFollowed setting source) walks) (target state : ℕ)
      (first : IsFirstK k (IsReached (pair target state)) (settled_at walks (pair target state))) where
    abbrev arrivals : List FoundWalk
    arrivals = arrivals_at walks (pair target state)

    -- each is passed by a run
    arrived : (a : FoundWalk) → Contains arrivals a → Ran setting (pair source 0) (pair target state) a.steps a.cost
    arrived a h =
        let passes = from_filter (λ (b : FoundWalk). same_pair b.at (pair target state)) walks a h in
        let at : a.at ≡ pair target state = same_is a.at (pair target state) passes.passes in
        subst (λ (q : Pair). Ran setting (pair source 0) q a.steps a.cost) at
        (follows_ran setting law a.run (pair source 0) a.at a.steps a.cost begins (among_all (IsFollowed setting source) walks a followed passes.among))

    least : (a : FoundWalk) → Contains arrivals a → IsLeast (IsRunTo setting state) source target (costed source a)
    least a h =
        let ran = arrived a h in
        let member = first.members (entry_of a) (Has_map entry_of arrivals a (has_of arrivals a h)) in
        record {
          starts = refl;
          ends = ran.ends;
          is = (ran.count, ran.runs);
          least = λ c run. member.1 c (run_reached target state (costed source a).walk c refl ran.ends run);
        }

    sound : (w : CostedWalk) → Contains (map (costed source) arrivals) w → IsLeast (IsRunTo setting state) source target w
    sound w h =
        let image = from_map (costed source) arrivals w h in
        subst (IsLeast (IsRunTo setting state) source target) image.is (least image.origin image.among)

    -- a least walk with the edges of one that is listed is that one
    same_walk : (w : CostedWalk) → IsLeast (IsRunTo setting state) source target w → (a : FoundWalk) → Contains arrivals a → edges_along a.steps ≡ edges_of w.walk → a.cost ≤ w.cost → costed source a ≡ w
    same_walk w is a h edges cheap =
        let ran = arrived a h in
        let mine = run_walks setting segments ran.count 0 state (costed source a).walk a.cost ran.runs in
        let other = run_walks setting segments is.is.0 0 state w.walk w.cost is.is.1 in
        let steps : a.steps ≡ w.walk.steps =
        steps_one setting.network.graph.edges graph.edges_ascend source a.steps w.walk.steps mine
        (subst (λ n. are_steps_from setting.network.graph.edges n w.walk.steps ≡ true) is.starts other) edges in
        let walk : (costed source a).walk ≡ w.walk = λ j. record { start = sym is.starts j; steps = steps j } in
        let low : w.cost ≤ a.cost = is.least a.cost (subst (λ (v : Walk). IsRunTo setting state v a.cost) walk (ran.count, ran.runs)) in
        let cost : a.cost ≡ w.cost = omega (arith, low, cheap) in
        λ j. record { walk = walk j; cost = cost j }

    complete : (w : CostedWalk) → IsLeast (IsRunTo setting state) source target w
        → Contains (map (costed source) arrivals) w ⊎ ((length (map (costed source) arrivals) ≡ k) × ((other : CostedWalk) → Contains (map (costed source) arrivals) other → costed_order other w ≡ Less))
    complete w is = elim (first.covers (seen w) (run_reached target state w.walk w.cost is.starts is.ends is.is)) [
      | Listed x h d n ↦
          let from = Has_from_map entry_of arrivals x h in
          let a = from.0 in
          let among = contains_of arrivals a from.1 in
          let edges : edges_along a.steps ≡ edges_of w.walk = ap (λ (y : Entry). y.edges) from.2 ∙ d in
          let cost : a.cost ≡ x.cost = ap (λ (y : Entry). y.cost) from.2 in
          inl (subst (Contains (map (costed source) arrivals)) (same_walk w is a among edges (omega (arith, cost, n))) (in_map (costed source) arrivals a among))
      | Past n b ↦ inr (
        omega (arith, n, first.at_most, length-map arrivals entry_of, length-map arrivals (costed source)),
        λ other h.
            let image = from_map (costed source) arrivals other h in
            subst (λ (v : CostedWalk). costed_order v w ≡ Less) image.is
            (before_is (costed source image.origin) w (b (entry_of image.origin) (Has_map entry_of arrivals image.origin (has_of arrivals image.origin image.among)))),
      )
    ]

    pub first_walks : AreFirst (IsRunTo setting state) source target k (map (costed source) arrivals)
    first_walks = record {
      ascend = ascends source arrivals first.ascending;
      few = omega (arith, first.at_most, length-map arrivals entry_of, length-map arrivals (costed source));
      sound = sound;
      complete = complete;
    }

-- the first of those that are so are the first of those that are so in another way
module _ (P Q : Walk → ℕ → Type 0) (forth : (w : Walk) (c : ℕ) → P w c → Q w c) (back : (w : Walk) (c : ℕ) → Q w c → P w c) (source target : ℕ) where
  least_other : (w : CostedWalk) → IsLeast P source target w → IsLeast Q source target w
  least_other w h = record { starts = h.starts; ends = h.ends; is = forth w.walk w.cost h.is; least = λ c q. h.least c (back w.walk c q) }

  least_back : (w : CostedWalk) → IsLeast Q source target w → IsLeast P source target w
  least_back w h = record { starts = h.starts; ends = h.ends; is = back w.walk w.cost h.is; least = λ c p. h.least c (forth w.walk c p) }

  pub first_other : (k : ℕ) (walks : List CostedWalk) → AreFirst P source target k walks → AreFirst Q source target k walks
  first_other k walks first = record {
    ascend = first.ascend;
    few = first.few;
    sound = λ w h. least_other w (first.sound w h);
    complete = λ w h. first.complete w (least_back w h);
  }
