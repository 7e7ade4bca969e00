use Rattle.std.proofs.Common.{◌≡◌, rules, refl, ap, ◌∙◌}
use Rattle.std.specs.Iterator.Adapters.{map_callee}
use Rattle.std.specs.Ordering.{nat_cmp}
use Rattle.std.proofs.lemmas.Iterator.{YieldsList-from_slice, YieldsList-from_map}
use Rattle.std.proofs.lemmas.Iterator.Search.{cmp_from_yields_List}
use Rattle.gc_base.specs.declared.walk.Step.{Step}
use Rattle.gc_cert_searches.proofs.segments.nodes_cmp.Goals as goal

pub returns : goal.returns
returns c =
    cmp_from_yields_List (λ x y. y ≡ x) _ nat_cmp _ c.cmp.ensures.ran
    (YieldsList-from_map _ (λ (s : Step). s.node) (YieldsList-from_slice c.args.steps.now (cc)) c.map.ensures.closure (λ x r q k. search rules))
    (λ it e. YieldsList-from_map _ (λ (s : Step). s.node) (YieldsList-from_slice c.args.others.now (cc)) (ap map_callee e ∙ c.map-2.ensures.closure) (λ x r q k. search rules))
    (λ x y. refl)
