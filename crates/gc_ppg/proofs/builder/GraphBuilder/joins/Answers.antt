use Rattle.std.proofs.Common.{◌≡◌, ℕ, Option, ◌==◌, sym, ap, ◌∙◌, List}
use Rattle.std.specs.List.{find}
use Rattle.gc_base.specs.Ascending.{Ascends}
use Rattle.gc_spec.specs.PropertyGraph.{Edge, PropertyGraph, edge_order, is_joined}
use Rattle.gc_ppg.specs.Built.{has_ends}
use Rattle.gc_ppg.proofs.ElementLists.{list_any-find, passes_at}
use Rattle.gc_ppg.proofs.builder.GraphBuilder.joins.Goals as goal

-- an edge is joined just where the one that was found has the ends
found : (es : List Edge) (g : PropertyGraph) (id a b : ℕ) (o : Option Edge) → Ascends edge_order es → es ≡ g.edges → o ≡ find (λ e. e.id == id) es
    → passes_at (λ e. e.id) (has_ends a b) o ≡ is_joined g.edges id a b
found es g id a b o up same is =
    ap (passes_at (λ e. e.id) (has_ends a b)) is ∙ (sym (list_any-find (λ e. e.id) (has_ends a b) es id up) ∙ ap (λ ds. is_joined ds id a b) same)

pub returns-in-None : goal.returns-in-None
returns-in-None c =
    found c.self.inside.edges c.args.self.now c.args.edge c.args.a c.args.b _ c.self.invariant.edges_ascend (ap (λ (g : PropertyGraph). g.edges) c.self.view_is) c.in-None.ensures.element

pub returns-in-Some : goal.returns-in-Some
returns-in-Some c =
    c.has_ends.ensures
    ∙ found c.self.inside.edges c.args.self.now c.args.edge c.args.a c.args.b _ c.self.invariant.edges_ascend (ap (λ (g : PropertyGraph). g.edges) c.self.view_is) c.in-Some.ensures.element
