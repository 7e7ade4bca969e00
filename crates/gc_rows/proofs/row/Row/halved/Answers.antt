use Rattle.std.proofs.Common.{subst, sym, ◌∙◌, rules}
use Rattle.std.specs.Cmp.{nat_cmp_total}
use Rattle.std.specs.Ordering.{nat_cmp}
use Rattle.std.proofs.lemmas.Fn.{always_returns_same}
use Rattle.gc_base.specs.Places.{IsPlaceOrGap}
use Rattle.gc_base.proofs.Search.{searched}
use Rattle.gc_rows.specs.Rows.{IsRow}
use Rattle.gc_rows.proofs.row.Row.halved.Goals as goal

pub returns : goal.returns
returns c =
    let d = c.deref.ensures.value in
    subst (λ bs. IsPlaceOrGap (λ b. nat_cmp b.var.0 c.args.var.0) bs c.binary_search_by.result) (d ∙ c.self.view_is)
    (searched (λ b. b.var.0) nat_cmp nat_cmp_total c.deref.result.now c.args.var.0 c.binary_search_by.result
    (subst IsRow (sym d) c.self.invariant) c.binary_search_by.ensures.bound
    (c.binary_search_by.ensures.position (λ b. nat_cmp b.var.0 c.args.var.0)
    (always_returns_same _ _ _ (λ a r f called. search rules))))
