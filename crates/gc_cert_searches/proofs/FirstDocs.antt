-- The walks that a search finds, as a document has them.
use Rattle.std.proofs.Common.{◌≡◌, ⊎_elim, ◌⊎◌, inl, inr, ℕ, ◌+◌, ◌-◌, ◌<◌, ◌≤◌, List, [], ◌∷◌, ◌++◌, length, map, Option, Some, refl, sym, ap, ◌∙◌, subst, slice_get, arith, None}
use Rattle.std.specs.declared.cmp.Ordering.TheVariants.{Less}
use Rattle.std.specs.List.{AllByRecursion, Contains}
use Rattle.std.specs.Option.{option_map, option_to_list}
use Rattle.std.proofs.lemmas.List.{length-map}
use Rattle.std.proofs.lemmas.List.Sums.{sum_by-cons}
use Rattle.gc_base.specs.Walks.{end_of}
use Rattle.gc_base.specs.declared.walk.Step.{Step}
use Rattle.gc_base.specs.declared.walk.Walk.{Walk}
use Rattle.gc_automata.specs.Conformance.{Conforms}
use Rattle.gc_automata.proofs.Inclusion.{among_more, among_none}
use Rattle.gc_regx.specs.Trees.{RegexTree, ARegex}
use Rattle.gc_rows.proofs.Members.{contains_here, from_filter, of_member}
use Rattle.gc_prod.specs.declared.moves.Pair.{Pair}
use Rattle.gc_prod.specs.declared.moves.RunMove.{RunMove}
use Rattle.gc_prod.specs.Leading.{pair, target_of}
use Rattle.gc_prod.specs.Products.{Setting}
use Rattle.gc_search.specs.Arrivals.{FoundWalk, same_pair}
use Rattle.gc_search.specs.Finding.{Finding, Follows, IsFollowed, IsLeastCost, IsPotential, arrivals_to, costed, potential_of, walks_to}
use Rattle.gc_search.specs.FirstWalks as searched
use Rattle.gc_search.proofs.Flat.{same_is}
use Rattle.gc_alg.specs.FirstWalks.{AreFirst, CostedWalk, IsConforming, costed_order}
use Rattle.gc_alg.specs.Instances.{search}
use Rattle.gc_cert.specs.declared.document.WalkDoc.{WalkDoc}
use Rattle.gc_cert.specs.Acceptance.{end_pair}
use Rattle.gc_cert.specs.Runs as cert
use Rattle.gc_cert.specs.Runs.{cost_by, run_cost}
use Rattle.gc_check.proofs.HopPrices.{move_priced}
use Rattle.gc_cert_searches.specs.Found.{HasWalk, IsFirst}
use Rattle.gc_cert_searches.specs.Readings.{doc_of, first_doc, first_docs}
use Rattle.gc_cert_searches.specs.Searches.{IsTold}

some_same : {X : Type 0} (a b : X) → Some a ≡ Some b → a ≡ b
some_same a b h = cc

-- the moves of a run, and what they cost
module _ (setting : Setting) where
  follows_too : (run : List RunMove) (p q : Pair) (steps : List Step) (cost : ℕ) → Follows setting p run q steps cost → cert.Follows setting p run q steps
  follows_too [] p q steps cost h = (h.0, h.1)
  follows_too (r ∷ run) p q steps cost h = (h.0, h.1, h.2, h.3, h.5, follows_too run (target_of h.0) q h.3 h.4 h.7)

  follows_cost : (run : List RunMove) (p q : Pair) (steps : List Step) (cost : ℕ) → Follows setting p run q steps cost → run_cost setting.network.segments run ≡ cost
  follows_cost [] p q steps cost h = sym h.2
  follows_cost (r ∷ run) p q steps cost h =
      let m = h.0 in
      let rest = follows_cost run (target_of m) q h.3 h.4 h.7 in
      let first : run_cost setting.network.segments (r ∷ run) ≡ cost_by setting.network.segments r.by + run_cost setting.network.segments run =
      sum_by-cons (λ (x : RunMove). cost_by setting.network.segments x.by) r run in
      let price : cost_by setting.network.segments r.by ≡ m.cost = ap (λ (x : RunMove). cost_by setting.network.segments x.by) h.2 ∙ move_priced setting p.node p.state m h.1 in
      omega (arith, first, price, rest, h.6)

-- the first walks, as a search tells them and as an atom does
module _ (setting : Setting) (tree : RegexTree ARegex) (source target : ℕ) (v : searched.CostedWalk)
    (first : searched.AreFirst (Conforms setting.network tree) source target 1 (v ∷ [])) where
  abbrev as_found : CostedWalk
  as_found = record { walk = v.walk; cost = v.cost }

  here : searched.IsLeast (Conforms setting.network tree) source target v
  here = first.sound v (contains_here v [])

  conforming : IsConforming (search setting.network tree source target) as_found
  conforming = record { starts = here.starts; ends = here.ends; conforms = here.is; least = here.least }

  only : (w : CostedWalk) → Contains (as_found ∷ []) w → as_found ≡ w
  only w m = ⊎_elim (λ e. e) (λ k. absurd (among_none w k)) (among_more as_found [] w m)

  other : (w : CostedWalk) → IsConforming (search setting.network tree source target) w
      → Contains (as_found ∷ []) w ⊎ ((length (as_found ∷ []) ≡ 1) × ((u : CostedWalk) → Contains (as_found ∷ []) u → costed_order u w ≡ Less))
  other w is =
      let so : searched.IsLeast (Conforms setting.network tree) source target (record { walk = w.walk; cost = w.cost }) = record { starts = is.starts; ends = is.ends; is = is.conforms; least = is.least } in
      ⊎_elim
      (λ m. inl (⊎_elim
      (λ e.
      let walk : v.walk ≡ w.walk = ap (λ (u : searched.CostedWalk). u.walk) e in
      let cost : v.cost ≡ w.cost = ap (λ (u : searched.CostedWalk). u.cost) e in
      let same : as_found ≡ w = λ j. record { walk = walk j; cost = cost j } in
      subst (Contains (as_found ∷ [])) same (contains_here as_found []))
      (λ k. absurd (among_none (record { walk = w.walk; cost = w.cost }) k)) (among_more v [] (record { walk = w.walk; cost = w.cost }) m)))
      (λ out. inr (refl, λ u m. subst (λ (z : CostedWalk). costed_order z w ≡ Less) (only u m) (out.1 v (contains_here v []))))
      (first.complete (record { walk = w.walk; cost = w.cost }) so)

  pub as_first : AreFirst (search setting.network tree source target) 1 (as_found ∷ [])
  as_first = record {
    ascend = (tt, tt);
    few = omega arith;
    sound = λ w m. subst (IsConforming (search setting.network tree source target)) (only w m) conforming;
    complete = other;
  }

-- what a document has of a walk
pub record IsGood (setting : Setting) (tree : RegexTree ARegex) (source : ℕ) (w : WalkDoc) : Type 0 where
  pub told : IsTold setting tree source w
  pub first : IsFirst setting.network tree w.walk
  pub least : IsLeastCost setting source (end_pair setting w) w.cost

module _ (setting : Setting) (tree : RegexTree ARegex) (source : ℕ) (found : Finding)
    (first : (target : ℕ) → searched.AreFirst (Conforms setting.network tree) source target 1 (walks_to found target))
    (passed : AllByRecursion (IsFollowed setting source) found.walks)
    (exact : (q : Pair) → IsPotential setting source q (potential_of found q))
    (last : found.last ≡ setting.machine.states - 1) where
  -- there is a walk where one conforms
  some_walk : (ws : List searched.CostedWalk) (target : ℕ) → searched.AreFirst (Conforms setting.network tree) source target 1 ws → HasWalk setting.network tree source target → 0 < length ws
  some_walk [] target all has =
      let w = has.0 in
      let so : searched.IsLeast (Conforms setting.network tree) source target (record { walk = w.walk; cost = w.cost }) =
      record { starts = has.1.starts; ends = has.1.ends; is = has.1.conforms; least = has.1.least } in
      ⊎_elim (λ m. absurd (among_none (record { walk = w.walk; cost = w.cost }) m)) (λ out. omega (arith, out.0)) (all.complete (record { walk = w.walk; cost = w.cost }) so)
  some_walk (x ∷ ws) target all has = omega arith

  -- the document of a walk to a target
  record IsDocTo (target : ℕ) : Type 0 where
    doc : WalkDoc
    is : first_doc found target ≡ Some doc
    ends : end_of doc.walk ≡ target
    good : IsGood setting tree source doc

  one_doc : (target : ℕ) (a : FoundWalk) (arrivals : List FoundWalk) → arrivals_to found target ≡ a ∷ arrivals → IsDocTo target
  one_doc target a arrivals is =
      let w = doc_of found a in
      let v = costed found.source a in
      let all = subst (searched.AreFirst (Conforms setting.network tree) source target 1) (ap (map (costed found.source)) is) (first target) in
      let none : arrivals ≡ [] = no_more arrivals (omega (arith, all.few, length-map arrivals (costed found.source))) in
      let one : searched.AreFirst (Conforms setting.network tree) source target 1 (v ∷ []) =
      subst (λ xs. searched.AreFirst (Conforms setting.network tree) source target 1 (v ∷ map (costed found.source) xs)) none all in
      let so = here setting tree source target v one in
      let at_first : slice_get (arrivals_to found target) 0 ≡ Some a = ap (λ xs. slice_get xs 0) is in
      let among : Contains (arrivals_to found target) a = subst (λ xs. Contains xs a) (sym is) (contains_here a arrivals) in
      let kept = from_filter (λ (b : FoundWalk). same_pair b.at (pair target found.last)) found.walks a among in
      let at : a.at ≡ pair target found.last = same_is a.at (pair target found.last) kept.1 in
      let follows = of_member (IsFollowed setting source) found.walks a passed kept.0 in
      let arrives : a.at ≡ end_pair setting w = at ∙ (λ j. pair (sym so.ends j) (last j)) in
      let potential : potential_of found (pair target found.last) ≡ Some a.cost = ap (option_map (λ (b : FoundWalk). b.cost)) at_first in
      let least : IsLeastCost setting source (pair target found.last) a.cost = subst (IsPotential setting source (pair target found.last)) potential (exact (pair target found.last)) in
      record {
        doc = w;
        is = ap (option_map (doc_of found)) at_first;
        ends = so.ends;
        good = record {
          told = record {
            cost = record { starts = so.starts; ends = refl; conforms = so.is; least = so.least };
            run = record {
              begins = so.starts;
              follows = subst (λ (q : Pair). cert.Follows setting (pair source 0) a.run q a.steps) arrives (follows_too setting a.run (pair source 0) a.at a.steps a.cost follows);
            };
            price = follows_cost setting a.run (pair source 0) a.at a.steps a.cost follows;
          };
          first = record {
            cost = a.cost;
            first =
                subst (λ t. AreFirst (search setting.network tree w.walk.start t) 1 (record { walk = w.walk; cost = a.cost } ∷ [])) (sym so.ends)
                (subst (λ s. AreFirst (search setting.network tree s target) 1 (record { walk = w.walk; cost = a.cost } ∷ [])) (sym so.starts) (as_first setting tree source target v one));
          };
          least = subst (λ (q : Pair). IsLeastCost setting source q a.cost) (λ j. pair (sym so.ends j) (last j)) least;
        };
      }
    where
      no_more : (xs : List FoundWalk) → length xs ≤ 0 → xs ≡ []
      no_more [] h = refl
      no_more (x ∷ xs) h = absurd (omega arith)

  -- what documents of walks tell
  pub record AreGood (walks : List WalkDoc) : Type 0 where
    pub told : AllByRecursion (IsTold setting tree source) walks
    pub firsts : AllByRecursion (λ w. IsFirst setting.network tree w.walk) walks
    pub least : AllByRecursion (λ w. IsLeastCost setting source (end_pair setting w) w.cost) walks

  one_good : (target : ℕ) (walks : List WalkDoc) → IsDocTo target → AreGood walks → AreGood (option_to_list (first_doc found target) ++ walks)
  one_good target walks d rest =
      let whole : AreGood (d.doc ∷ walks) = record { told = (d.good.told, rest.told); firsts = (d.good.first, rest.firsts); least = (d.good.least, rest.least) } in
      subst (λ (o : Option WalkDoc). AreGood (option_to_list o ++ walks)) (sym d.is) whole

  none_good : (target : ℕ) (walks : List WalkDoc) → arrivals_to found target ≡ [] → AreGood walks → AreGood (option_to_list (first_doc found target) ++ walks)
  none_good target walks is rest =
      let none : first_doc found target ≡ None = ap (λ xs. option_map (doc_of found) (slice_get xs 0)) is in
      subst (λ (o : Option WalkDoc). AreGood (option_to_list o ++ walks)) (sym none) rest

  good_by : (target : ℕ) (walks : List WalkDoc) (arrivals : List FoundWalk) → arrivals_to found target ≡ arrivals → AreGood walks → AreGood (option_to_list (first_doc found target) ++ walks)
  good_by target walks [] is rest = none_good target walks is rest
  good_by target walks (a ∷ arrivals) is rest = one_good target walks (one_doc target a arrivals is) rest

  pub all_good : (targets : List ℕ) → AreGood (first_docs found targets)
  all_good [] = record { told = tt; firsts = tt; least = tt }
  all_good (t ∷ targets) = good_by t (first_docs found targets) (arrivals_to found t) refl (all_good targets)

  doc_to : (target : ℕ) (arrivals : List FoundWalk) → arrivals_to found target ≡ arrivals → 0 < length (walks_to found target) → IsDocTo target
  doc_to target [] is some = let none : length (walks_to found target) ≡ 0 = ap (λ xs. length (map (costed found.source) xs)) is in absurd (omega arith)
  doc_to target (a ∷ arrivals) is some = one_doc target a arrivals is

  -- where there is a walk to each target, one is told to each
  pub all_ends : (targets : List ℕ) → AllByRecursion (HasWalk setting.network tree source) targets → map (λ w. end_of w.walk) (first_docs found targets) ≡ targets
  all_ends [] h = refl
  all_ends (t ∷ targets) h =
      let d = doc_to t (arrivals_to found t) refl (some_walk (walks_to found t) t (first t) h.0) in
      let rest = all_ends targets h.1 in
      let whole : map (λ (w : WalkDoc). end_of w.walk) (d.doc ∷ first_docs found targets) ≡ t ∷ targets = λ j. d.ends j ∷ rest j in
      subst (λ (o : Option WalkDoc). map (λ (w : WalkDoc). end_of w.walk) (option_to_list o ++ first_docs found targets) ≡ t ∷ targets) (sym d.is) whole

-- a walk, its cost and its run, told one by one
pub first_is : (found : Finding) (target : ℕ) (walk : Walk) (cost : ℕ) (run : List RunMove) → option_map (λ w. w.walk) (slice_get (walks_to found target) 0) ≡ Some walk
    → option_map (λ w. w.cost) (slice_get (walks_to found target) 0) ≡ Some cost → slice_get (map (λ a. a.run) (arrivals_to found target)) 0 ≡ Some run
    → first_doc found target ≡ Some (record { cost = cost; run = run; walk = walk })
first_is found target walk cost run w c r = by (arrivals_to found target) w c r
  where
    by : (arrivals : List FoundWalk) → option_map (λ w. w.walk) (slice_get (map (costed found.source) arrivals) 0) ≡ Some walk
        → option_map (λ w. w.cost) (slice_get (map (costed found.source) arrivals) 0) ≡ Some cost → slice_get (map (λ a. a.run) arrivals) 0 ≡ Some run
        → option_map (doc_of found) (slice_get arrivals 0) ≡ Some (record { cost = cost; run = run; walk = walk })
    by [] w c r = absurd (cc w)
    by (a ∷ arrivals) w c r =
        let same_walk : record { start = found.source; steps = a.steps } ≡ walk = some_same _ walk w in
        let same_cost : a.cost ≡ cost = some_same a.cost cost c in
        let same_run : a.run ≡ run = some_same a.run run r in
        λ j. Some (record { cost = same_cost j; run = same_run j; walk = same_walk j })

-- where none arrives, none is told
pub none_first : (found : Finding) (target : ℕ) → length (walks_to found target) ≡ 0 → None ≡ first_doc found target
none_first found target h = by (arrivals_to found target) h
  where
    by : (arrivals : List FoundWalk) → length (map (costed found.source) arrivals) ≡ 0 → None ≡ option_map (doc_of found) (slice_get arrivals 0)
    by [] h = refl
    by (a ∷ arrivals) h = absurd (omega (arith, h))
