-- Where the elements of combined graphs come from, and that graphs agree that come from the same.
use Rattle.std.proofs.Common.{◌≡◌, ◌⊎◌, inl, inr, ⊎_elim, ℕ, ◌<◌, ◌≤◌, List, [], ◌∷◌, ◌++◌, Option, Some, None, refl, sym, ap, ◌∙◌, subst, arith}
use Rattle.std.specs.List.{Contains}
use Rattle.std.proofs.lemmas.List.Elements.{Contains-append_cases, Contains-push_cases}
use Rattle.gc_spec.specs.Coherence.{ElementShape, AreCoherent, AreSame, shape_at}
use Rattle.gc_spec.specs.PropertyGraph.{PropertyGraph, IsGraph, empty_graph, node_at, edge_at, path_at}
use Rattle.gc_sets.specs.Descriptions.{united_node}
use Rattle.gc_sets.specs.Differences.{difference}
use Rattle.gc_sets.specs.Elements.{others}
use Rattle.gc_sets.specs.Intersections.{IsIntersection, both, common_node, common_edge, common_path}
use Rattle.gc_sets.specs.Origins.{AreMadeInTurn, AreStanding, ComesFrom, IsNew, IsOfOne}
use Rattle.gc_sets.specs.Unions.{IsUnion, either, united_edge, united_path}
use Rattle.gc_sets.proofs.DifferenceLaws.{others-ascend}
use Rattle.gc_sets.proofs.Finds.{found_filter, injective}
use Rattle.gc_sets.proofs.Itself.{coherent_with_itself}
use Rattle.gc_sets.proofs.ShapesOf.{Found, Of, edge_is, edge_key, edge_shape, node_is, node_key, node_shape, of_edge, of_node, of_path, of_shape, path_is, path_key, path_shape}

-- what both of two graphs say was said by either
first_or_second : {X : Type 0} (of : X → ElementShape) (unite : X → X → X) (same : (x y : X) → of (unite x y) ≡ of x) (o p : Option X) (x : X) → either unite o p ≡ Some x
    → ((y : X) × (o ≡ Some y) × (of x ≡ of y)) ⊎ (p ≡ Some x)
first_or_second of unite same None p x h = inr h
first_or_second of unite same (Some y) None x h = inl (y, refl, ap of (sym (injective y x h)))
first_or_second of unite same (Some y) (Some z) x h = inl (y, refl, ap of (sym (injective (unite y z) x h)) ∙ same y z)

first_of_both : {X : Type 0} (of : X → ElementShape) (common : X → X → X) (same : (x y : X) → of (common x y) ≡ of x) (o p : Option X) (x : X) → both common o p ≡ Some x
    → (y : X) × (o ≡ Some y) × (of x ≡ of y)
first_of_both of common same None p x h = absurd (cc h)
first_of_both of common same (Some y) None x h = absurd (cc h)
first_of_both of common same (Some y) (Some z) x h = (y, refl, ap of (sym (injective (common y z) x h)) ∙ same y z)

module _ (a b g : PropertyGraph) (is_a : IsGraph a) (is_b : IsGraph b) where
  abbrev OfEither : ℕ → ElementShape → Type 0
  OfEither id s = (shape_at a id ≡ Some s) ⊎ (shape_at b id ≡ Some s)

  union_of_node : IsUnion a b g → (id : ℕ) (s : ElementShape) → Found node_key node_shape g.nodes id s → OfEither id s
  union_of_node u id s f =
      ⊎_elim (λ k. inl (node_is a is_a id k.0 k.1 ∙ ap Some (sym k.2 ∙ f.shape))) (λ k. inr (node_is b is_b id f.element k ∙ ap Some f.shape))
      (first_or_second node_shape united_node (λ x y. refl) (node_at a.nodes id) (node_at b.nodes id) f.element (sym (u.nodes id) ∙ f.found))

  union_of_edge : IsUnion a b g → (id : ℕ) (s : ElementShape) → Found edge_key edge_shape g.edges id s → OfEither id s
  union_of_edge u id s f =
      ⊎_elim (λ k. inl (edge_is a is_a id k.0 k.1 ∙ ap Some (sym k.2 ∙ f.shape))) (λ k. inr (edge_is b is_b id f.element k ∙ ap Some f.shape))
      (first_or_second edge_shape united_edge (λ x y. refl) (edge_at a.edges id) (edge_at b.edges id) f.element (sym (u.edges id) ∙ f.found))

  union_of_path : IsUnion a b g → (id : ℕ) (s : ElementShape) → Found path_key path_shape g.paths id s → OfEither id s
  union_of_path u id s f =
      ⊎_elim (λ k. inl (path_is a is_a id k.0 k.1 ∙ ap Some (sym k.2 ∙ f.shape))) (λ k. inr (path_is b is_b id f.element k ∙ ap Some f.shape))
      (first_or_second path_shape united_path (λ x y. refl) (path_at a.paths id) (path_at b.paths id) f.element (sym (u.paths id) ∙ f.found))

  union_of : IsUnion a b g → (id : ℕ) (s : ElementShape) → Of g id s → OfEither id s
  union_of u id s (of_node f) = union_of_node u id s f
  union_of u id s (of_edge f) = union_of_edge u id s f
  union_of u id s (of_path f) = union_of_path u id s f

  -- an identity of a union stands for what it does in either graph
  pub union_shapes : IsUnion a b g → (id : ℕ) (s : ElementShape) → shape_at g id ≡ Some s → OfEither id s
  union_shapes u id s h = union_of u id s (of_shape g id s h)

  intersection_of : IsIntersection a b g → (id : ℕ) (s : ElementShape) → Of g id s → shape_at a id ≡ Some s
  intersection_of u id s (of_node f) =
      let k = first_of_both node_shape common_node (λ x y. refl) (node_at a.nodes id) (node_at b.nodes id) f.element (sym (u.nodes id) ∙ f.found) in
      node_is a is_a id k.0 k.1 ∙ ap Some (sym k.2 ∙ f.shape)
  intersection_of u id s (of_edge f) =
      let k = first_of_both edge_shape common_edge (λ x y. refl) (edge_at a.edges id) (edge_at b.edges id) f.element (sym (u.edges id) ∙ f.found) in
      edge_is a is_a id k.0 k.1 ∙ ap Some (sym k.2 ∙ f.shape)
  intersection_of u id s (of_path f) =
      let k = first_of_both path_shape common_path (λ x y. refl) (path_at a.paths id) (path_at b.paths id) f.element (sym (u.paths id) ∙ f.found) in
      path_is a is_a id k.0 k.1 ∙ ap Some (sym k.2 ∙ f.shape)

  -- one of an intersection, for what it does in the first
  pub intersection_shapes : IsIntersection a b g → (id : ℕ) (s : ElementShape) → shape_at g id ≡ Some s → shape_at a id ≡ Some s
  intersection_shapes u id s h = intersection_of u id s (of_shape g id s h)

module _ (a b : PropertyGraph) (is : IsGraph a) where
  difference_of : (id : ℕ) (s : ElementShape) → Of (difference a b) id s → shape_at a id ≡ Some s
  difference_of id s (of_node f) = node_is a is id f.element (found_filter (λ n. n.id) _ a.nodes id f.element is.nodes_ascend f.found) ∙ ap Some f.shape
  difference_of id s (of_edge f) =
      let first = found_filter (λ e. e.id) _ (others (λ e. e.id) a.edges b.edges) id f.element (others-ascend (λ e. e.id) a.edges b.edges is.edges_ascend) f.found in
      edge_is a is id f.element (found_filter (λ e. e.id) _ a.edges id f.element is.edges_ascend first) ∙ ap Some f.shape
  difference_of id s (of_path f) =
      let first = found_filter (λ p. p.id) _ (others (λ p. p.id) a.paths b.paths) id f.element (others-ascend (λ p. p.id) a.paths b.paths is.paths_ascend) f.found in
      path_is a is id f.element (found_filter (λ p. p.id) _ a.paths id f.element is.paths_ascend first) ∙ ap Some f.shape

  -- one of a difference, for what it does in the first
  pub difference_shapes : (id : ℕ) (s : ElementShape) → shape_at (difference a b) id ≡ Some s → shape_at a id ≡ Some s
  difference_shapes id s h = difference_of id s (of_shape (difference a b) id s h)

-- what is new stays new in a wider range
module _ (graphs : List PropertyGraph) (from next after to : ℕ) (lower : from ≤ next) (upper : after ≤ to) where
  wider : (id : ℕ) (s : ElementShape) → IsOfOne graphs id s ⊎ IsNew next after id → IsOfOne graphs id s ⊎ IsNew from to id
  wider id s (inl h) = inl h
  wider id s (inr h) = inr (record { later = omega (arith, lower, h.later); before = omega (arith, upper, h.before) })

  pub comes_wider : (g : PropertyGraph) → ComesFrom graphs next after g → ComesFrom graphs from to g
  comes_wider g h id s t = wider id s (h id s t)

-- a graph comes from those among which it is, and so does one without elements
pub own_comes : (graphs : List PropertyGraph) (next after : ℕ) (g : PropertyGraph) → Contains graphs g → ComesFrom graphs next after g
own_comes graphs next after g m id s t = inl (record { graph = g; among = m; there = t })

pub none_comes : (graphs : List PropertyGraph) (next after : ℕ) → ComesFrom graphs next after empty_graph
none_comes graphs next after id s t = absurd (cc t)

-- what comes from graphs that come from others, comes from these
module _ (graphs others : List PropertyGraph) (next middle after : ℕ) (up : next ≤ middle) (on : middle ≤ after)
    (each : (h : PropertyGraph) → Contains others h → ComesFrom graphs next middle h) where
  through : (id : ℕ) (s : ElementShape) → IsOfOne others id s ⊎ IsNew middle after id → IsOfOne graphs id s ⊎ IsNew next after id
  through id s (inl h) = wider graphs next next middle after (omega arith) on id s (each h.graph h.among id s h.there)
  through id s (inr h) = inr (record { later = omega (arith, up, h.later); before = h.before })

  pub comes_through : (g : PropertyGraph) → ComesFrom others middle after g → ComesFrom graphs next after g
  comes_through g h id s t = through id s (h id s t)

-- two shapes are the same where any that are found are
same_of : (o p : Option ElementShape) → ((s t : ElementShape) → o ≡ Some s → p ≡ Some t → s ≡ t) → AreSame o p
same_of None p f = tt
same_of (Some s) None f = tt
same_of (Some s) (Some t) f = f s t refl refl

-- the one item of a list
only : {g h : PropertyGraph} → Contains (g ∷ []) h → g ≡ h
only {g} {h} m = ⊎_elim (λ none. absurd (among_none h none)) (λ e. e) (Contains-push_cases [] g h m)
  where
    among_none : (h : PropertyGraph) → Contains [] h → ⊥
    among_none h n = absurd (omega (arith, n.1))

-- graphs that stand, and of which others come
module _ (graphs : List PropertyGraph) (next : ℕ) (stand : AreStanding graphs next) where
  both_old : (id : ℕ) (s t : ElementShape) → IsOfOne graphs id s → IsOfOne graphs id t → s ≡ t
  both_old id s t h k =
      subst (AreSame (Some s)) k.there (subst (λ o. AreSame o (shape_at k.graph id)) h.there (stand.coherent h.graph k.graph h.among k.among id))

  old_below : (id : ℕ) (s : ElementShape) → IsOfOne graphs id s → id < next
  old_below id s h = stand.below h.graph h.among id s h.there

  module _ (middle after : ℕ) (up : next ≤ middle) where
    one : (id : ℕ) (s t : ElementShape) → IsOfOne graphs id s ⊎ IsNew next middle id → IsOfOne graphs id t ⊎ IsNew middle after id → s ≡ t
    one id s t (inl h) (inl k) = both_old id s t h k
    one id s t (inl h) (inr k) = let old = old_below id s h in absurd (omega (arith, old, up, k.later))
    one id s t (inr h) (inl k) = let old = old_below id t k in absurd (omega (arith, old, h.later))
    one id s t (inr h) (inr k) = absurd (omega (arith, h.before, k.later))

  -- two that come in turn agree
  pub turns_agree : (after : ℕ) (a b : PropertyGraph) → AreMadeInTurn graphs next after a b → AreCoherent a b
  turns_agree after a b m id =
      same_of (shape_at a id) (shape_at b id) (λ s t h k. one m.middle after m.up id s t (m.first id s h) (m.second id t k))

  -- one that comes of them agrees with each of them
  module _ (after : ℕ) (up : next ≤ after) (g : PropertyGraph) (comes : ComesFrom graphs next after g) where
    with_one : (id : ℕ) (s t : ElementShape) → IsOfOne graphs id s → IsOfOne graphs id t ⊎ IsNew next after id → s ≡ t
    with_one id s t h (inl k) = both_old id s t h k
    with_one id s t h (inr k) = let old = old_below id s h in absurd (omega (arith, old, k.later))

    agrees_with : (h : PropertyGraph) → Contains graphs h → AreCoherent h g
    agrees_with h m id = same_of (shape_at h id) (shape_at g id) (λ s t a b. with_one id s t (record { graph = h; among = m; there = a }) (comes id t b))

    agrees_before : (h : PropertyGraph) → Contains graphs h → AreCoherent g h
    agrees_before h m id = same_of (shape_at g id) (shape_at h id) (λ s t a b. sym (with_one id t s (record { graph = h; among = m; there = b }) (comes id s a)))

    is_below : (id : ℕ) (s : ElementShape) → IsOfOne graphs id s ⊎ IsNew next after id → id < after
    is_below id s (inl h) = let old = old_below id s h in omega (arith, old, up)
    is_below id s (inr h) = h.before

    both_among : (h k : PropertyGraph) → Contains graphs h ⊎ Contains (g ∷ []) h → Contains graphs k ⊎ Contains (g ∷ []) k → AreCoherent h k
    both_among h k (inl m) (inl n) = stand.coherent h k m n
    both_among h k (inl m) (inr n) = subst (AreCoherent h) (only n) (agrees_with h m)
    both_among h k (inr m) (inl n) = subst (λ (x : PropertyGraph). AreCoherent x k) (only m) (agrees_before k n)
    both_among h k (inr m) (inr n) = subst (AreCoherent h) (sym (only m) ∙ only n) (coherent_with_itself h)

    one_below : (h : PropertyGraph) → Contains graphs h ⊎ Contains (g ∷ []) h → (id : ℕ) (s : ElementShape) → shape_at h id ≡ Some s → id < after
    one_below h (inl m) id s t = let old = stand.below h m id s t in omega (arith, old, up)
    one_below h (inr m) id s t = is_below id s (comes id s (ap (λ x. shape_at x id) (only m) ∙ t))

    -- so it can stand behind them
    pub stands_behind : AreStanding (graphs ++ g ∷ []) after
    stands_behind = record {
      coherent = λ h k m n. both_among h k (Contains-append_cases graphs (g ∷ []) h m) (Contains-append_cases graphs (g ∷ []) k n);
      below = λ h m. one_below h (Contains-append_cases graphs (g ∷ []) h m);
    }

-- what is combined of two that come in turn, comes from where they do
module _ (graphs : List PropertyGraph) (next after : ℕ) (a b : PropertyGraph) (turns : AreMadeInTurn graphs next after a b) where
  first_comes : ComesFrom graphs next after a
  first_comes = comes_wider graphs next next turns.middle after (omega arith) turns.on a turns.first

  second_comes : ComesFrom graphs next after b
  second_comes = comes_wider graphs next turns.middle after after turns.up (omega arith) b turns.second

  pub union_comes : (g : PropertyGraph) → IsGraph a → IsGraph b → IsUnion a b g → ComesFrom graphs next after g
  union_comes g is_a is_b u id s t = ⊎_elim (λ k. first_comes id s k) (λ k. second_comes id s k) (union_shapes a b g is_a is_b u id s t)

  pub intersection_comes : (g : PropertyGraph) → IsGraph a → IsGraph b → IsIntersection a b g → ComesFrom graphs next after g
  intersection_comes g is_a is_b u id s t = first_comes id s (intersection_shapes a b g is_a is_b u id s t)

  pub difference_comes : IsGraph a → ComesFrom graphs next after (difference a b)
  difference_comes is_a id s t = first_comes id s (difference_shapes a b is_a id s t)
