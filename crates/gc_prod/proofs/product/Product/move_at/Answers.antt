use Rattle.std.proofs.Common.{◌∙◌, ℕ, List, sym, subst}
use Rattle.std.specs.Ordering.{nat_cmp}
use Rattle.gc_base.specs.Ascending.{Ascends}
use Rattle.gc_prod.proofs.Networks.{ids_ascend}
use Rattle.gc_prod.proofs.product.Product.move_at.Goals as goal

pub place_of-place-requires : goal.place_of-place-requires
place_of-place-requires g c =
    subst (λ (ids : List ℕ). Ascends nat_cmp ids) (sym (c.deref.ensures.value ∙ c.self.invariant.ids)) (ids_ascend c.self.inside.graph.now.nodes c.self.invariant.graph.nodes_ascend)
