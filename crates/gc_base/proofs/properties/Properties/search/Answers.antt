use Rattle.std.proofs.Common.{subst, sym, ◌∙◌, rules}
use Rattle.std.specs.Cmp.Lexicographic.{nat_list_cmp_total}
use Rattle.std.proofs.lemmas.Fn.{always_returns_same}
use Rattle.gc_base.specs.Ascending.{Ascends}
use Rattle.gc_base.specs.Literals.{text_order}
use Rattle.gc_base.specs.Places.{IsPlaceOrGap}
use Rattle.gc_base.specs.PropertyLists.{property_order}
use Rattle.gc_base.proofs.Search.{searched}
use Rattle.gc_base.proofs.properties.Properties.search.Goals as goal

pub returns : goal.returns
returns c =
    let d = c.as_slice.ensures in
    subst (λ ps. IsPlaceOrGap (λ p. text_order p.name c.args.name.now) ps c.binary_search_by.result) (d ∙ c.self.view_is)
    (searched (λ p. p.name) text_order nat_list_cmp_total c.as_slice.result.now c.args.name.now c.binary_search_by.result
    (subst (Ascends property_order) (sym d) c.self.invariant.ascend) c.binary_search_by.ensures.bound
    (c.binary_search_by.ensures.position (λ p. text_order p.name c.args.name.now)
    (always_returns_same _ _ _ (λ a r f called. search rules))))
