use Rattle.std.proofs.Common.{subst, sym, ◌∙◌}
use Rattle.gc_base.specs.Ascending.{Ascends}
use Rattle.gc_base.specs.Places.{IsPlaceOrGap}
use Rattle.gc_base.proofs.Search.{searched}
use Rattle.gc_base.proofs.ascending.Ascending.search.Goals as goal

pub returns : goal.returns
returns g c =
    let d = c.deref.ensures.value in
    let cmp = g.T.Ord.cmp in
    subst (λ ys. IsPlaceOrGap (λ x. cmp x c.args.item.now) ys c.binary_search.result) (d ∙ c.self.view_is)
    (searched (λ x. x) cmp g.met.T.Ord.total c.deref.result.now c.args.item.now c.binary_search.result
    (subst (Ascends cmp) (sym d) c.self.invariant.0) c.binary_search.ensures.bound c.binary_search.ensures.position)
