-- What `cert` writes of a session.
use Rattle.std.specs.Prelude.{◌≡◌, ℕ, List, map, Option}
use Rattle.gc_cert.specs.declared.document.SearchDoc.{SearchDoc}
use Rattle.gc_cert_text.specs.Certificates.{told}
use Rattle.gc_cert_text.specs.CertificateTexts.{certificate_text}
use Rattle.gc_lower.specs.Namings.{scope_in}
use Rattle.gc_query.specs.Evaluations.{Evaluation}
use Rattle.gc_query.specs.Logs.{AreAllSearched}
use Rattle.gcore.specs.EvaluatedSessions.{IsEvaluatedOver, given_names}
use Rattle.gcore.specs.Outcomes.{Request}

-- the session of a request, over graphs of these names, has no fault, and the text is the certificate of the searches for the walks that the
-- tables of its CONSTRUCTs bind
pub record IsCertifiedOver (names : List (Option (List ℕ))) (r : Request) (text : List ℕ) : Type 0 where
  pub all : List Evaluation
  pub evaluated : IsEvaluatedOver names r all
  pub searches : List SearchDoc
  pub searched : AreAllSearched (scope_in r.query.file 0) all searches
  pub text_is : text ≡ certificate_text (map told searches)

abbrev pub IsCertified : Request → List ℕ → Type 0
IsCertified r text = IsCertifiedOver (given_names r) r text
