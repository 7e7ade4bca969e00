-- What is claimed of one identity has one shape.
use Rattle.std.proofs.Common.{◌≡◌, inl, inr, ⊎_elim, ℕ, List, [], ◌++◌, map, Some, sym, ◌∙◌, subst, arith}
use Rattle.std.specs.List.{Contains}
use Rattle.std.proofs.lemmas.List.Elements.{Contains-append_cases}
use Rattle.std.proofs.lemmas.Option.{same_Some}
use Rattle.gc_spec.specs.Coherence.{ElementShape, NodeShape, EdgeShape, PathShape, AreSame, shape_at}
use Rattle.gc_spec.specs.PropertyGraph.{Node, Edge, Path}
use Rattle.gc_sets.specs.Agreed.{claimed_shapes}
use Rattle.gc_sets.specs.Claims.{Claims}
use Rattle.gc_sets.specs.Origins.{AreStanding, IsOfOne}
use Rattle.gc_rows.proofs.Members.{from_map}
use Rattle.gc_build_numbers.specs.Numbers.{numbered_from}
use Rattle.gc_build_numbers.specs.Settings.{Setting}
use Rattle.gc_build_recipe.specs.Recipes.{Recipe}
use Rattle.gc_build_recipe.specs.declared.variable.Variable.{Variable}
use Rattle.gc_build.specs.Claimed.{claims_with}
use Rattle.gc_build.specs.Constructed.{making}
use Rattle.gc_build.specs.Fitting.{Fits}
use Rattle.gc_build.specs.Kept.{Kept}
use Rattle.gc_build.specs.declared.all_paths.AllParts.{AllParts}
use Rattle.gc_build.proofs.ClaimOrigins.{Comes, MadeBy, at, edge_comes, groups, node_comes, path_comes, shape_by}
use Rattle.gc_build.proofs.NumberLaws.{numbered_range, numbered_same, ranges}

module _ (s : Setting) (r : Recipe) (fits : Fits s r) (next : ℕ) where
  abbrev Made : ℕ → ElementShape → Type 0
  Made id a = MadeBy s r fits next id a

  -- two new elements of one identity are one
  same_variable : (id : ℕ) (a b : ElementShape) (m : Made id a) (k : Made id b) → m.variable ≡ k.variable → m.element.number ≡ k.element.number → a ≡ b
  same_variable id a b m k same number =
      let there : Contains (numbered_from (at s r fits next m.variable).next (groups s r fits next m.variable)) k.element =
      subst (λ (v : Variable). Contains (numbered_from (at s r fits next v).next (groups s r fits next v)) k.element) (sym same) k.there in
      let element : m.element ≡ k.element = numbered_same (at s r fits next m.variable).next (groups s r fits next m.variable) m.element k.element m.there there number in
      same_Some a b (sym m.is ∙ ((λ i. shape_by s r fits next (same i).kind (same i) (element i)) ∙ k.is))

  both_made : (id : ℕ) (a b : ElementShape) → Made id a → Made id b → a ≡ b
  both_made id a b m k =
      let number : m.element.number ≡ k.element.number = omega (arith, m.number, k.number) in
      let first = numbered_range (at s r fits next m.variable).next (groups s r fits next m.variable) m.element m.there in
      let second = numbered_range (at s r fits next k.variable).next (groups s r fits next k.variable) k.element k.there in
      ⊎_elim
      (λ same. same_variable id a b m k same number)
      (λ apart. ⊎_elim
      (λ before. absurd (omega (arith, number, first.1, second.0, m.taken, before)))
      (λ before. absurd (omega (arith, number, second.1, first.0, k.taken, before))) apart)
      (ranges s (record { next = 0; variables = [] }) r.variables fits.distinct m.variable k.variable m.among k.among)

  module _ (standing : AreStanding s.graphs next) where
    both_old : (id : ℕ) (a b : ElementShape) → IsOfOne s.graphs id a → IsOfOne s.graphs id b → a ≡ b
    both_old id a b h k =
        subst (AreSame (Some a)) k.there (subst (λ o. AreSame o (shape_at k.graph id)) h.there (standing.coherent h.graph k.graph h.among k.among id))

    not_both : (id : ℕ) (a b : ElementShape) → IsOfOne s.graphs id a → Made id b → ⊥
    not_both id a b h k = let below = standing.below h.graph h.among id a h.there in absurd (omega (arith, below, k.number))

    -- so two claims of one identity have one shape
    pub one_shape : (id : ℕ) (a b : ElementShape) → Comes s r fits next id a → Comes s r fits next id b → a ≡ b
    one_shape id a b (inl h) (inl k) = both_old id a b h k
    one_shape id a b (inl h) (inr k) = absurd (not_both id a b h k)
    one_shape id a b (inr h) (inl k) = absurd (not_both id b a k h)
    one_shape id a b (inr h) (inr k) = both_made id a b h k

    module _ (kept : List Kept) (parts : List AllParts) (graphs : List ℕ) where
      abbrev claims : Claims
      claims = claims_with (making s r next) kept parts graphs

      entry_comes : (e : ℕ × ElementShape) → Contains (claimed_shapes claims) e → Comes s r fits next e.0 e.1
      entry_comes e m =
          let ns = map (λ (n : Node). (n.id, NodeShape)) claims.nodes in
          let es = map (λ (d : Edge). (d.id, EdgeShape d.from d.to)) claims.edges in
          let ps = map (λ (p : Path). (p.id, PathShape p.walk)) claims.paths in
          ⊎_elim
          (λ k. ⊎_elim
          (λ n. let from = from_map (λ (n : Node). (n.id, NodeShape)) claims.nodes e n in
          subst (λ (x : ℕ × ElementShape). Comes s r fits next x.0 x.1) (sym from.2) (node_comes s r fits next kept parts graphs from.0 from.1))
          (λ n. let from = from_map (λ (d : Edge). (d.id, EdgeShape d.from d.to)) claims.edges e n in
          subst (λ (x : ℕ × ElementShape). Comes s r fits next x.0 x.1) (sym from.2) (edge_comes s r fits next kept parts graphs from.0 from.1))
          (Contains-append_cases ns es e k))
          (λ n. let from = from_map (λ (p : Path). (p.id, PathShape p.walk)) claims.paths e n in
          subst (λ (x : ℕ × ElementShape). Comes s r fits next x.0 x.1) (sym from.2) (path_comes s r fits next kept parts graphs from.0 from.1))
          (Contains-append_cases (ns ++ es) ps e m)

      pub claims_agree : (a b : ℕ × ElementShape) → Contains (claimed_shapes claims) a → Contains (claimed_shapes claims) b → a.0 ≡ b.0 → a.1 ≡ b.1
      claims_agree a b m k same =
          one_shape b.0 a.1 b.1 (subst (λ id. Comes s r fits next id a.1) same (entry_comes a m)) (entry_comes b k)
