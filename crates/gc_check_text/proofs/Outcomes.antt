-- What is told of the searches of a certificate is the outcome for its bytes.
use Rattle.std.proofs.Common.{◌≡◌, ℕ, List, Result, Ok, Err, sym, ◌∙◌}
use Rattle.std.proofs.lemmas.List.{length-map}
use Rattle.std.specs.Prelude.{IfOk}
use Rattle.gc_cert_text.specs.Certificates.{IsCertRefusal, all_told, certificate_of, told}
use Rattle.gc_cert_text.specs.declared.certificate.Certificate.{Certificate}
use Rattle.gc_cert_text.specs.declared.refusal.CertRefusal.{CertRefusal}
use Rattle.gc_cert_text.specs.declared.refusal.CertRefusal.TheVariants.{NotJson, WrongShape, BadGraph, BadExpression, BadSegment, BadNumber, Memory}
use Rattle.gc_check_text.specs.Checked.{AreCounted, IsSound}
use Rattle.gc_check_text.specs.Outcomes.{AreShortest, IsAccepted, IsOutcome, IsRefusal, ListsShortest, refusal_of}
use Rattle.gc_check_text.specs.declared.refusal.CheckRefusal.{CheckRefusal}
use Rattle.gc_check_text.specs.declared.refusal.CheckRefusal.TheVariants as refusal
use Rattle.gc_check_text.proofs.Places.{mapped, weaker}

module _ (bytes : List ℕ) (certificate : Certificate) (told_so : certificate_of bytes ≡ Ok (all_told certificate)) where
  pub outcome : (r : Result ℕ CheckRefusal) → AreCounted certificate.searches r → IsOutcome bytes r
  outcome (Ok n) h = record { certificate = certificate; told = told_so; count = h.0; each = weaker IsSound IsAccepted (λ d s. s.accepted) certificate.searches h.1 }
  outcome (Err (refusal.Cert r)) h = absurd h
  outcome (Err (refusal.Rejected i rule)) h = record { certificate = certificate; told = told_so; first = h }
  outcome (Err refusal.Memory) h = tt

  pub sound : (r : Result ℕ CheckRefusal) → AreCounted certificate.searches r → IfOk r (AreShortest bytes)
  sound (Ok n) h = record {
    searches = all_told certificate;
    told = told_so;
    count = h.0 ∙ sym (length-map certificate.searches told);
    each = mapped ListsShortest told certificate.searches (weaker IsSound (λ d. ListsShortest (told d)) (λ d s. s.shortest) certificate.searches h.1);
  }
  sound (Err e) h = tt

-- what cannot be read is refused as it is
pub unread : (bytes : List ℕ) (r : CertRefusal) → IsCertRefusal (certificate_of bytes) r → IsRefusal bytes (refusal_of r)
unread bytes NotJson h = h
unread bytes WrongShape h = h
unread bytes (BadGraph i) h = h
unread bytes (BadExpression i) h = h
unread bytes (BadSegment i) h = h
unread bytes (BadNumber i) h = h
unread bytes Memory h = tt
