use Rattle.std.proofs.Common.{ℕ, List, ◌==◌, Some, None, refl, sym, ap, ◌∙◌, subst}
use Rattle.std.specs.List.{find}
use Rattle.std.specs.Ordering.{nat_cmp}
use Rattle.gc_base.specs.Ascending.{Ascends}
use Rattle.gc_ppg.specs.ShapeOf.{element_shape}
use Rattle.gc_ppg.specs.declared.coherence.EdgeEnds.{EdgeEnds}
use Rattle.gc_ppg.specs.declared.coherence.PathWalk.{PathWalk}
use Rattle.gc_ppg.proofs.ShapeTables.{found_there}
use Rattle.gc_ppg.proofs.coherence.Shapes.allows.Goals as goal

pub find-requires : goal.find-requires
find-requires c = subst (λ (xs : List ℕ). Ascends nat_cmp xs) (sym c.deref.ensures.value) c.self.invariant.0

pub returns-in-Some : goal.returns-in-Some
returns-in-Some c =
    let s = c.self.inside in
    let id = c.args.id in
    c.is_node.ensures
    ∙ found_there s.nodes.items s.edges.items s.paths.items id (element_shape c.args.shape.now) c.args.self.now (Some c.in-Some.field-0.now) _ _ c.self.view_is
    (c.in-Some.ensures ∙ ap (λ (xs : List ℕ). find (λ i. i == id) xs) c.deref.ensures.value) refl refl

pub returns-in-Some-find : goal.returns-in-Some-find
returns-in-Some-find c =
    let s = c.self.inside in
    let id = c.args.id in
    c.is_edge.ensures
    ∙ found_there s.nodes.items s.edges.items s.paths.items id (element_shape c.args.shape.now) c.args.self.now None (Some c.in-Some-find.edge.now) _ c.self.view_is
    (c.in_default.ensures ∙ ap (λ (xs : List ℕ). find (λ i. i == id) xs) c.deref.ensures.value)
    (c.in-Some-find.ensures ∙ ap (λ (xs : List EdgeEnds). find (λ e. e.id == id) xs) c.deref-2.ensures.value) refl

pub returns-in-Some-find-2 : goal.returns-in-Some-find-2
returns-in-Some-find-2 c =
    let s = c.self.inside in
    let id = c.args.id in
    c.is_path.ensures
    ∙ found_there s.nodes.items s.edges.items s.paths.items id (element_shape c.args.shape.now) c.args.self.now None None (Some c.in-Some-find-2.path.now) c.self.view_is
    (c.in_default.ensures ∙ ap (λ (xs : List ℕ). find (λ i. i == id) xs) c.deref.ensures.value)
    (c.in_default-find.ensures ∙ ap (λ (xs : List EdgeEnds). find (λ e. e.id == id) xs) c.deref-2.ensures.value)
    (c.in-Some-find-2.ensures ∙ ap (λ (xs : List PathWalk). find (λ p. p.id == id) xs) c.deref-3.ensures.value)

pub returns-in-None : goal.returns-in-None
returns-in-None c =
    let s = c.self.inside in
    let id = c.args.id in
    found_there s.nodes.items s.edges.items s.paths.items id (element_shape c.args.shape.now) c.args.self.now None None None c.self.view_is
    (c.in_default.ensures ∙ ap (λ (xs : List ℕ). find (λ i. i == id) xs) c.deref.ensures.value)
    (c.in_default-find.ensures ∙ ap (λ (xs : List EdgeEnds). find (λ e. e.id == id) xs) c.deref-2.ensures.value)
    (c.in-None.ensures ∙ ap (λ (xs : List PathWalk). find (λ p. p.id == id) xs) c.deref-3.ensures.value)
