use Rattle.std.proofs.Common.{◌≡◌, ◌∙◌, subst, false}
use Rattle.std.specs.List.{list_any}
use Rattle.gc_sorts.specs.Links.{link_by, fits}
use Rattle.gc_sorts.proofs.LinkKeys.{any_link, no_link}
use Rattle.gc_sorts.proofs.links.Links.has.Goals as goal

pub returns-in-None : goal.returns-in-None
returns-in-None c =
    let x = c.self.inside in
    subst (λ v. false ≡ list_any (fits (link_by v.names c.args.link)) v.links) c.self.view_is
    (no_link x.matched.now.names c.args.link x.links.now c.in-None.ensures.fits)

pub returns-in-Some : goal.returns-in-Some
returns-in-Some c =
    let x = c.self.inside in
    subst (λ v. c.is_among.result ≡ list_any (fits (link_by v.names c.args.link)) v.links) c.self.view_is
    (c.is_among.ensures ∙ c.self.invariant c.in-Some.key
    ∙ any_link x.matched.now.names c.in-Some.key c.args.link x.links.now c.in-Some.ensures.fits)
