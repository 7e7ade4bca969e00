use Rattle.std.proofs.Common.{ap, ◌∙◌}
use Rattle.gc_build_numbers.specs.Numbers.{numbering}
use Rattle.gc_build_recipe.specs.Recipes.{Recipe}
use Rattle.gc_build.specs.Claimed.{seen}
use Rattle.gc_build.specs.Patterns.{plain}
use Rattle.gc_build.proofs.Outcomes.{due}
use Rattle.gc_build.proofs.constructing.all_due.Goals as goal

pub returns-clause-claimed : goal.returns-clause-claimed
returns-clause-claimed g c =
    let n = c.in_ok-numbering.numbering in
    let r = c.args.recipe.now in
    due c.args.setting.now r (plain c.args.patterns.now) c.args.next n (c.in_ok-numbering.ensures ∙ ap (numbering c.args.setting.now) (c.as_slice.ensures ∙ ap (λ (r : Recipe). r.variables) c.recipe.view_is))
    c.in-Ok.ensures.0 c.in-Some.after c.in-Some.ensures c.in-Ok.described c.in-Ok.ensures.1 (seen c.in_ok-claims.claims) c.in_ok-claims.ensures
