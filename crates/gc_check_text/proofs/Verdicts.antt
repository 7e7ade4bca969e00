-- Verdicts on the searches of a certificate.
use Rattle.std.proofs.Common.{◌≡◌, ℕ, List, Some, Result, Ok, Err, refl, sym, subst, slice_get, take}
use Rattle.std.specs.List.{AllByRecursion}
use Rattle.std.specs.Result.{IsErrAnd}
use Rattle.gc_cert.specs.Acceptance.{IsProductOf}
use Rattle.gc_cert.specs.declared.document.SearchDoc.{SearchDoc}
use Rattle.gc_cert_text.specs.Certificates.{told}
use Rattle.gc_check.specs.Verdicts.{IsVerdict}
use Rattle.gc_check.specs.declared.rule.Verdict.{Verdict}
use Rattle.gc_check.specs.declared.rule.Verdict.TheVariants.{Accepted, Rejected}
use Rattle.gc_prod.specs.Products.{Setting}
use Rattle.gc_check_text.specs.Checked.{AreChecked, IsCheck, IsSound, IsSoundVerdict}
use Rattle.gc_check_text.specs.Outcomes.{IsAccepted, IsFirstRejected, ListsShortest}
use Rattle.gc_check_text.specs.declared.refusal.CheckRefusal.{CheckRefusal}
use Rattle.gc_check_text.specs.declared.refusal.CheckRefusal.TheVariants.{Cert, Memory}
use Rattle.gc_check_text.specs.declared.refusal.CheckRefusal.TheVariants as refusal
use Rattle.gc_check_text.proofs.Places.{weaker}

-- a verdict on the product of a search is one on the search
pub sound_verdict : (d : SearchDoc) (setting : Setting) (v : Verdict) → IsProductOf d setting → IsVerdict d setting v → (v ≡ Accepted → ListsShortest (told d)) → IsSoundVerdict d v
sound_verdict d setting Accepted product is sound = record {
  accepted = record { setting = setting; product = product; verdict = is };
  shortest = sound refl;
}
sound_verdict d setting (Rejected rule) product is sound = record { setting = setting; product = product; verdict = is }

-- what is told of the search of a number, after which nothing is looked at, is told of all
pub first_told : (searches : List SearchDoc) (i : ℕ) (d : SearchDoc) (e : CheckRefusal) → AllByRecursion IsSound (take i searches) → slice_get searches i ≡ Some d
    → IsCheck i d (Err e) → AreChecked searches (Err e)
first_told searches i d (Cert r) before there h = absurd h
first_told searches i d Memory before there h = tt
first_told searches i d (refusal.Rejected j rule) before there h =
    subst (λ k. IsFirstRejected searches k rule) (sym h.0)
    (record { before = weaker IsSound IsAccepted (λ x s. s.accepted) (take i searches) before; search = d; there = there; rejected = h.1 })

pub refusal_told : (searches : List SearchDoc) (i : ℕ) (d : SearchDoc) (e : CheckRefusal) (r : Result (Unit {0}) CheckRefusal) → IsErrAnd r (λ x. x ≡ e)
    → AllByRecursion IsSound (take i searches) → slice_get searches i ≡ Some d → IsCheck i d (Err e) → AreChecked searches r
refusal_told searches i d e (Ok u) is before there h = absurd is
refusal_told searches i d e (Err x) is before there h = subst (λ y. AreChecked searches (Err y)) (sym is) (first_told searches i d e before there h)
