-- What the parts of a check say.
use Rattle.std.specs.Prelude.{◌≡◌, ℕ, List, length, Result, Ok, Err, ⊤}
use Rattle.std.specs.List.{AllByRecursion}
use Rattle.gc_cert.specs.declared.document.SearchDoc.{SearchDoc}
use Rattle.gc_cert_text.specs.Certificates.{told}
use Rattle.gc_check.specs.declared.rule.Verdict.{Verdict}
use Rattle.gc_check.specs.declared.rule.Verdict.TheVariants.{Accepted, Rejected}
use Rattle.gc_check_text.specs.Outcomes.{IsAccepted, IsFirstRejected, IsVerdictOn, ListsShortest}
use Rattle.gc_check_text.specs.declared.refusal.CheckRefusal.{CheckRefusal}
use Rattle.gc_check_text.specs.declared.refusal.CheckRefusal.TheVariants as refusal

-- a search that is accepted lists shortest walks
pub record IsSound (d : SearchDoc) : Type 0 where
  pub accepted : IsAccepted d
  pub shortest : ListsShortest (told d)

-- a verdict on a search, which is sound where it is accepted
abbrev pub IsSoundVerdict : SearchDoc → Verdict → Type 0
IsSoundVerdict d Accepted = IsSound d
IsSoundVerdict d (Rejected rule) = IsVerdictOn d (Rejected rule)

-- what is told of the search of a number; want of memory is free
abbrev pub IsCheck : ℕ → SearchDoc → Result (Unit {0}) CheckRefusal → Type 0
IsCheck number d (Ok u) = IsSound d
IsCheck number d (Err (refusal.Cert r)) = ⊥
IsCheck number d (Err (refusal.Rejected i rule)) = (i ≡ number) × IsVerdictOn d (Rejected rule)
IsCheck number d (Err refusal.Memory) = ⊤

-- what is told of all searches
abbrev pub AreChecked : List SearchDoc → Result (Unit {0}) CheckRefusal → Type 0
AreChecked searches (Ok u) = AllByRecursion IsSound searches
AreChecked searches (Err (refusal.Cert r)) = ⊥
AreChecked searches (Err (refusal.Rejected i rule)) = IsFirstRejected searches i rule
AreChecked searches (Err refusal.Memory) = ⊤

-- what is told of all searches, with their number where all are accepted
abbrev pub AreCounted : List SearchDoc → Result ℕ CheckRefusal → Type 0
AreCounted searches (Ok n) = (n ≡ length searches) × AllByRecursion IsSound searches
AreCounted searches (Err e) = AreChecked searches (Err e)
