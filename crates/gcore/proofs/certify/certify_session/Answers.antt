use Rattle.std.proofs.Common.{◌≡◌, ◌∙◌, refl, sym, ap, subst, map}
use Rattle.gc_cert_text.specs.Certificates.{told}
use Rattle.gc_cert_text.specs.CertificateTexts.{certificate_text}
use Rattle.gc_query.specs.declared.log.Wants.TheVariants.{Searches}
use Rattle.gcore.specs.Certifications.{IsCertifiedOver}
use Rattle.gcore.specs.Outcomes.{Request}
use Rattle.gcore.specs.QueryFiles.{placed}
use Rattle.gcore.specs.declared.style.Style.TheVariants.{Text}
use Rattle.gcore.proofs.EndTextLaws.{certified, session_stops, stopped, text_written}
use Rattle.gcore.proofs.certify.certify_session.Goals as goal

pub returns-in_err-log : goal.returns-in_err-log
returns-in_err-log g c =
    let r : Request = record { graphs = c.args.catalog.now.graphs; query = placed c.args.checked.now; style = Text } in
    let stop = c.in_err-log.field-0.0 in
    session_stops r (IsCertifiedOver c.args.catalog.now.names r) _ c.from_residual.result stop c.from_residual.ensures.0 c.from_residual.ensures.1
    (stopped r c.args.catalog.now.names Searches (IsCertifiedOver c.args.catalog.now.names r) _ refl stop c.in_err-log.ensures)

pub write_text-requires : goal.write_text-requires
write_text-requires g c =
    let r : Request = record { graphs = c.args.catalog.now.graphs; query = placed c.args.checked.now; style = Text } in
    let is : c.as_slice.result.now ≡ certificate_text (map told c.in_ok-log.log.searches) =
    c.as_slice.ensures ∙ (c.in_ok-text.ensures ∙ ap (λ ds. certificate_text (map told ds)) c.into_searches.ensures) in
    λ x here. c.requires.room x here c.as_slice.result.now
    (subst (IsCertifiedOver c.args.catalog.now.names r) (sym is) (certified r c.args.catalog.now.names c.in_ok-log.log c.in_ok-log.ensures))

pub returns : goal.returns
returns g c =
    let r : Request = record { graphs = c.args.catalog.now.graphs; query = placed c.args.checked.now; style = Text } in
    let is : c.as_slice.result.now ≡ certificate_text (map told c.in_ok-log.log.searches) =
    c.as_slice.ensures ∙ (c.in_ok-text.ensures ∙ ap (λ ds. certificate_text (map told ds)) c.into_searches.ensures) in
    text_written r (IsCertifiedOver c.args.catalog.now.names r) c.as_slice.result.now
    (subst (IsCertifiedOver c.args.catalog.now.names r) (sym is) (certified r c.args.catalog.now.names c.in_ok-log.log c.in_ok-log.ensures))
    _ c.write_text.result c.write_text.ensures.written
