-- A graph that agrees with what identities stand for in some graphs is coherent with each of them.
use Rattle.std.proofs.Common.{◌≡◌, ℕ, Bool, true, false, cond, ◌&&◌, ◌==◌, List, [], ◌∷◌, map, Option, Some, None, refl, ap, ◌∙◌, subst}
use Rattle.std.specs.List.{AllByRecursion, list_all}
use Rattle.std.specs.Cmp.Lexicographic.{pointwise}
use Rattle.std.proofs.lemmas.Bool.{and_parts, eqb-true}
use Rattle.gc_base.specs.declared.walk.Step.{Step}
use Rattle.gc_spec.specs.PropertyGraph.{PropertyGraph}
use Rattle.gc_spec.specs.Coherence.{ElementShape, NodeShape, EdgeShape, PathShape, shapes_of, AreSame, AreCoherent}
use Rattle.gc_ppg.specs.Shapes.{same_step, same_shape, same_if_there, shape_in, graph_agrees}

same_steps : (ss ts : List Step) → pointwise same_step ss ts ≡ true → ss ≡ ts
same_steps [] [] h = refl
same_steps [] (t ∷ ts) h = absurd (cc)
same_steps (s ∷ ss) [] h = absurd (cc)
same_steps (s ∷ ss) (t ∷ ts) h =
    let hs = and_parts (same_step s t) (pointwise same_step ss ts) h in
    let parts = and_parts (s.edge == t.edge) (s.node == t.node) hs.0 in
    (λ j. record { edge = eqb-true s.edge t.edge parts.0 j; node = eqb-true s.node t.node parts.1 j } ∷ same_steps ss ts hs.1 j)

-- what is found to be the same shape is one
same_shapes : (s t : ElementShape) → same_shape s t ≡ true → s ≡ t
same_shapes NodeShape NodeShape h = refl
same_shapes NodeShape (EdgeShape c d) h = absurd (cc)
same_shapes NodeShape (PathShape w) h = absurd (cc)
same_shapes (EdgeShape a b) NodeShape h = absurd (cc)
same_shapes (EdgeShape a b) (EdgeShape c d) h =
    let hs = and_parts (a == c) (b == d) h in
    (λ j. EdgeShape (eqb-true a c hs.0 j) (eqb-true b d hs.1 j))
same_shapes (EdgeShape a b) (PathShape w) h = absurd (cc)
same_shapes (PathShape v) NodeShape h = absurd (cc)
same_shapes (PathShape v) (EdgeShape c d) h = absurd (cc)
same_shapes (PathShape v) (PathShape w) h =
    let hs = and_parts (v.start == w.start) (pointwise same_step v.steps w.steps) h in
    (λ j. PathShape (record { start = eqb-true v.start w.start hs.0 j; steps = same_steps v.steps w.steps hs.1 j }))

same_there : (o : Option ElementShape) (t : ElementShape) → same_if_there o t ≡ true → AreSame o (Some t)
same_there None t h = tt
same_there (Some s) t h = same_shapes s t h

same_none : (o : Option ElementShape) → AreSame o None
same_none None = tt
same_none (Some s) = tt

agreed : (seen shapes : List (ℕ × ElementShape)) (id : ℕ) → AllByRecursion (λ e. same_if_there (shape_in seen e.0) e.1 ≡ true) shapes → AreSame (shape_in seen id) (shape_in shapes id)
agreed seen [] id h = same_none (shape_in seen id)
agreed seen (e ∷ shapes) id h =
    elim (e.0 == id) as (λ b. (e.0 == id) ≡ b → AreSame (shape_in seen id) (cond b (Some e.1) (shape_in shapes id))) [
      | true ↦ λ q. same_there (shape_in seen id) e.1 (subst (λ k. same_if_there (shape_in seen k) e.1 ≡ true) (eqb-true e.0 id q) h.0)
      | false ↦ λ q. agreed seen shapes id h.1
    ] refl

-- a test that holds of all and another
both_of_all : {X : Type 0} (p q : X → Bool) (xs : List X) → list_all (λ x. p x && q x) xs ≡ true → AllByRecursion (λ x. p x ≡ true) xs × (list_all q xs ≡ true)
both_of_all p q [] h = (tt, refl)
both_of_all p q (x ∷ xs) h =
    let hs = and_parts (p x && q x) (list_all (λ y. p y && q y) xs) h in
    let here = and_parts (p x) (q x) hs.0 in
    let rest = both_of_all p q xs hs.1 in
    ((here.0, rest.0), ap (λ b. b && list_all q xs) here.1 ∙ rest.1)

pub coherent_with_each : (graphs : List PropertyGraph) (g : PropertyGraph) → graph_agrees (map shapes_of graphs) g ≡ true → AllByRecursion (λ h. AreCoherent h g) graphs
coherent_with_each [] g a = tt
coherent_with_each (h ∷ graphs) g a =
    let parts = both_of_all (λ e. same_if_there (shape_in (shapes_of h) e.0) e.1) (λ e. list_all (λ shapes. same_if_there (shape_in shapes e.0) e.1) (map shapes_of graphs)) (shapes_of g) a in
    ((λ id. agreed (shapes_of h) (shapes_of g) id parts.0), coherent_with_each graphs g parts.1)
