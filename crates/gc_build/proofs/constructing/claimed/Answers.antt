use Rattle.std.proofs.Common.{◌∙◌, ap, IfOk, List, ℕ, subst}
use Rattle.gc_build_recipe.specs.Recipes.{Chain, Recipe}
use Rattle.gc_build.specs.Claimed.{AreClaims, seen}
use Rattle.gc_build.specs.Makings.{Making}
use Rattle.gc_build.specs.Patterns.{plain}
use Rattle.gc_build.proofs.constructing.claimed.Goals as goal

pub returns : goal.returns
returns g c =
    let ps = plain c.args.patterns.now in
    let r = c.args.recipe.now in
    let made : Making =
    record { setting = c.args.setting.now; variables = c.recipe.inside.variables; numbered = c.args.numbering.now.variables; described = c.args.described.now; next = c.args.next } in
    subst (λ (m : Making). IfOk c.claims.result (λ claims. AreClaims ps m r.chains r.graphs (seen claims)))
    (λ j. record made { variables = ap (λ (r : Recipe). r.variables) c.recipe.view_is j })
    (subst (λ (chains : List Chain). IfOk c.claims.result (λ claims. AreClaims ps made chains r.graphs (seen claims))) (c.deref.ensures.value ∙ ap (λ (r : Recipe). r.chains) c.recipe.view_is)
    (subst (λ (graphs : List ℕ). IfOk c.claims.result (λ claims. AreClaims ps made c.deref.result.now graphs (seen claims))) (c.as_slice.ensures ∙ ap (λ (r : Recipe). r.graphs) c.recipe.view_is)
    c.claims.ensures))
