use Rattle.std.proofs.Common.{sym, subst}
use Rattle.gc_sets.specs.Agreed.{AreOfOneGraph}
use Rattle.gc_build.specs.Claimed.{seen}
use Rattle.gc_build.proofs.ClaimOrigins.{built_comes}
use Rattle.gc_build.proofs.ClaimsWhole.{claims_whole}
use Rattle.gc_build.proofs.Outcomes.{built, refused}
use Rattle.gc_build.proofs.constructing.construct.Goals as goal

pub unite_agreed-requires : goal.unite_agreed-requires
unite_agreed-requires g c =
    let due = c.in_ok-told.ensures.claimed.due in
    subst AreOfOneGraph (sym due.are) (claims_whole c.args.setting.now c.args.recipe.now (record { block = _; segments = _ }) c.args.next c.requires.whole c.requires.segments due.parts due.exact)

pub returns-clause-made : goal.returns-clause-made
returns-clause-made g c =
    built c.args.setting.now c.args.recipe.now (record { block = _; segments = _ }) c.args.next (seen c.in_ok-told.told.claims) c.in_ok-told.told.after c.in_ok-told.ensures.claimed c.in_ok-graph.graph c.in_ok-graph.ensures

pub returns-clause-comes : goal.returns-clause-comes
returns-clause-comes g c =
    built_comes c.args.setting.now c.args.recipe.now (record { block = _; segments = _ }) c.args.next (record { graph = c.in_ok-graph.graph; next = c.in_ok-told.told.after }) c.requires.whole.fits
    (built c.args.setting.now c.args.recipe.now (record { block = _; segments = _ }) c.args.next (seen c.in_ok-told.told.claims) c.in_ok-told.told.after c.in_ok-told.ensures.claimed c.in_ok-graph.graph c.in_ok-graph.ensures)

pub returns-in_err-told-clause-made : goal.returns-in_err-told-clause-made
returns-in_err-told-clause-made g c =
    refused c.args.setting.now c.args.recipe.now (record { block = _; segments = _ }) c.args.next c.in_err-told.field-0.0 c.in_err-told.ensures.refused
    c.from_residual.result c.from_residual.ensures.0 c.from_residual.ensures.1
