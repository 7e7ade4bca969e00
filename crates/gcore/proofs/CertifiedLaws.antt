-- The certificate of a session is accepted.
use Rattle.std.proofs.Common.{◌≡◌, Ok, ℕ, List, [], ◌∷◌, ◌++◌, map, refl, sym, ap, ◌∙◌, subst, length}
use Rattle.std.specs.List.{AllByRecursion}
use Rattle.std.proofs.lemmas.List.Elements.{All-append, All-from_recursion, recursion_from_All}
use Rattle.gc_cert.specs.declared.document.SearchDoc.{SearchDoc}
use Rattle.gc_cert_searches.specs.Searches as searched
use Rattle.gc_cert_text.specs.Certificates.{SearchTold, certificate_of, told}
use Rattle.gc_cert_text.specs.CertificateTexts.{certificate_text}
use Rattle.gc_cert_text.specs.WritableSearches.{IsWritable}
use Rattle.gc_check_text.specs.Outcomes as checked
use Rattle.gc_check_text.specs.Outcomes.{IsOutcome}
use Rattle.gc_lower.specs.Scopes.{Scope}
use Rattle.gc_query.specs.Evaluations.{Evaluation}
use Rattle.gc_query.specs.Logs.{AreAllSearched}
use Rattle.gcore.specs.Certifications.{IsCertified}
use Rattle.gcore.specs.Outcomes.{Request}

in_turn : (xs ys : List SearchDoc) → AllByRecursion searched.IsAccepted xs → AllByRecursion searched.IsAccepted ys → AllByRecursion searched.IsAccepted (xs ++ ys)
in_turn xs ys h k =
    let P = searched.IsAccepted in recursion_from_All P (xs ++ ys) (All-append P xs ys (All-from_recursion P xs h) (All-from_recursion P ys k))

-- the documents of evaluations are accepted, one evaluation after another
all_accepted : (s : Scope) (all : List Evaluation) (docs : List SearchDoc) → AreAllSearched s all docs → AllByRecursion searched.IsAccepted docs
all_accepted s [] docs h = subst (AllByRecursion searched.IsAccepted) (sym h) tt
all_accepted s (e ∷ later) docs h =
    subst (AllByRecursion searched.IsAccepted) (sym h.2) (in_turn h.0 h.1 h.3.accepted (all_accepted s later h.1 h.4))

-- so the verdict on each is that it is
verdicts : (docs : List SearchDoc) → AllByRecursion searched.IsAccepted docs → AllByRecursion checked.IsAccepted docs
verdicts [] h = tt
verdicts (d ∷ docs) h = (record { setting = h.0.setting; product = h.0.product; verdict = h.0.accepts }, verdicts docs h.1)

abbrev ReadBack : Type 0
ReadBack = (searches : List SearchTold) → AllByRecursion IsWritable searches → certificate_of (certificate_text searches) ≡ Ok searches

-- a certificate that reads back is accepted, with all of its searches
pub certified_accepted : ReadBack → (r : Request) (text : List ℕ) (c : IsCertified r text) → AllByRecursion IsWritable (map told c.searches) → IsOutcome text (Ok (length c.searches))
certified_accepted back r text c within =
    record {
      certificate = record { searches = c.searches };
      told = ap certificate_of c.text_is ∙ back (map told c.searches) within;
      count = refl;
      each = verdicts c.searches (all_accepted _ c.all c.searches c.searched);
    }
