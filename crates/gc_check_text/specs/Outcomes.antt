-- What the check of a certificate says.
use Rattle.std.specs.Prelude.{◌≡◌, ℕ, List, length, take, slice_get, Some, Result, Ok, Err, ⊤}
use Rattle.std.specs.List.{AllByRecursion}
use Rattle.gc_automata.specs.Moves.{Network}
use Rattle.gc_cert.specs.Acceptance.{IsProductOf}
use Rattle.gc_cert.specs.Shortest.{IsShortest}
use Rattle.gc_cert.specs.declared.document.SearchDoc.{SearchDoc}
use Rattle.gc_cert_text.specs.Certificates.{SearchTold, all_told, certificate_of}
use Rattle.gc_cert_text.specs.declared.certificate.Certificate.{Certificate}
use Rattle.gc_cert_text.specs.declared.refusal.CertRefusal.{CertRefusal}
use Rattle.gc_cert_text.specs.declared.refusal.CertRefusal.TheVariants as cert
use Rattle.gc_check.specs.Verdicts.{IsVerdict}
use Rattle.gc_check.specs.declared.rule.KRule.{KRule}
use Rattle.gc_check.specs.declared.rule.Verdict.{Verdict}
use Rattle.gc_check.specs.declared.rule.Verdict.TheVariants.{Accepted, Rejected}
use Rattle.gc_check_text.specs.declared.refusal.CheckRefusal.{CheckRefusal}
use Rattle.gc_check_text.specs.declared.refusal.CheckRefusal.TheVariants as refusal
use Rattle.gc_prod.specs.Products.{Setting}

-- the verdict on the document of a search, given the product of its graph and segments and of the automaton of its
-- expression
pub record IsVerdictOn (d : SearchDoc) (v : Verdict) : Type 0 where
  pub setting : Setting
  pub product : IsProductOf d setting
  pub verdict : IsVerdict d setting v

abbrev pub IsAccepted : SearchDoc → Type 0
IsAccepted d = IsVerdictOn d Accepted

-- bytes tell a certificate of so many searches, each of which is accepted
pub record AreAccepted (bytes : List ℕ) (n : ℕ) : Type 0 where
  pub certificate : Certificate
  pub told : certificate_of bytes ≡ Ok (all_told certificate)
  pub count : n ≡ length certificate.searches
  pub each : AllByRecursion IsAccepted certificate.searches

-- the search of a number is the first of some that is not accepted, and a rule the first that it breaks
pub record IsFirstRejected (searches : List SearchDoc) (i : ℕ) (rule : KRule) : Type 0 where
  pub before : AllByRecursion IsAccepted (take i searches)
  pub search : SearchDoc
  pub there : slice_get searches i ≡ Some search
  pub rejected : IsVerdictOn search (Rejected rule)

-- bytes tell a certificate of which this is so
pub record IsRejected (bytes : List ℕ) (i : ℕ) (rule : KRule) : Type 0 where
  pub certificate : Certificate
  pub told : certificate_of bytes ≡ Ok (all_told certificate)
  pub first : IsFirstRejected certificate.searches i rule

-- the number of searches where all are accepted; else the refusal of the bytes, or the first search that is rejected with
-- its rule. Want of memory is free
abbrev pub IsRefusal : List ℕ → CheckRefusal → Type 0
IsRefusal bytes (refusal.Cert r) = certificate_of bytes ≡ Err r
IsRefusal bytes (refusal.Rejected i rule) = IsRejected bytes i rule
IsRefusal bytes refusal.Memory = ⊤

abbrev pub IsOutcome : List ℕ → Result ℕ CheckRefusal → Type 0
IsOutcome bytes (Ok n) = AreAccepted bytes n
IsOutcome bytes (Err r) = IsRefusal bytes r

-- each walk that a search lists goes from its start and conforms to its expression on its graph and segments at the stated
-- cost, and no conforming walk between its ends costs less
abbrev pub network_told : SearchTold → Network
network_told s = record { graph = s.graph; segments = s.segments }

abbrev pub ListsShortest : SearchTold → Type 0
ListsShortest s = AllByRecursion (λ w. IsShortest (network_told s) s.expression s.start w.walk w.cost) s.walks

-- bytes tell so many searches, each of which lists shortest walks alone
pub record AreShortest (bytes : List ℕ) (n : ℕ) : Type 0 where
  pub searches : List SearchTold
  pub told : certificate_of bytes ≡ Ok searches
  pub count : n ≡ length searches
  pub each : AllByRecursion ListsShortest searches

-- a refusal to read, as one to check
abbrev pub refusal_of : CertRefusal → CheckRefusal
refusal_of cert.Memory = refusal.Memory
refusal_of r = refusal.Cert r
