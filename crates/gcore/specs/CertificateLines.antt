-- What is told of a certificate.
use Rattle.std.specs.Prelude.{ℕ, ◌<◌, ◌^◌, List, [], ◌∷◌, ◌++◌, codes, ⊤}
use Rattle.std.specs.Fmt.{decimal}
use Rattle.gc_cert_text.specs.declared.refusal.CertRefusal.{CertRefusal}
use Rattle.gc_cert_text.specs.declared.refusal.CertRefusal.TheVariants.{NotJson, WrongShape, BadGraph, BadExpression, BadSegment, BadNumber, Memory}
use Rattle.gc_check.specs.declared.rule.KRule.{KRule}
use Rattle.gc_check.specs.declared.rule.KRule.TheVariants.{PotentialsListed, StartFree, MovesCovered, MovesBounded, RunsPassWalks, CostsLeast}

-- a code, and the search that it is about, from 0
abbrev pub search_text : (code : List ℕ) → (search : ℕ) → List ℕ
search_text code search = code ++ (codes " search " ++ decimal search)

-- why a document is no certificate, with its code
abbrev pub certificate_text : CertRefusal → List ℕ
certificate_text NotJson = codes "C1 NotJson"
certificate_text WrongShape = codes "C2 WrongShape"
certificate_text (BadGraph search) = search_text (codes "C3 BadGraph") search
certificate_text (BadExpression search) = search_text (codes "C4 BadExpression") search
certificate_text (BadSegment search) = search_text (codes "C5 BadSegment") search
certificate_text (BadNumber search) = search_text (codes "C6 BadNumber") search
certificate_text Memory = codes "out of memory"

-- the rule that a search breaks
abbrev pub search_rule_text : KRule → List ℕ
search_rule_text PotentialsListed = codes "K1"
search_rule_text StartFree = codes "K2"
search_rule_text MovesCovered = codes "K3"
search_rule_text MovesBounded = codes "K4"
search_rule_text RunsPassWalks = codes "K5"
search_rule_text CostsLeast = codes "K6"

-- a search that breaks a rule
abbrev pub rejected_text : (search : ℕ) → (rule : List ℕ) → List ℕ
rejected_text search rule = codes "rejected search " ++ (decimal search ++ (codes " " ++ rule))

-- the line of a document whose searches are all accepted
unfoldable pub accepted_line : (searches : ℕ) → List ℕ
accepted_line searches = codes "accepted " ++ (decimal searches ++ 10 ∷ [])

-- the number of a search as the machine holds it
abbrev pub IsHeldSearch : ℕ → Type 0
IsHeldSearch search = search < 2 ^ 32

-- a refusal as the machine holds it
abbrev pub IsHeldCertificate : CertRefusal → Type 0
IsHeldCertificate NotJson = ⊤
IsHeldCertificate WrongShape = ⊤
IsHeldCertificate (BadGraph search) = IsHeldSearch search
IsHeldCertificate (BadExpression search) = IsHeldSearch search
IsHeldCertificate (BadSegment search) = IsHeldSearch search
IsHeldCertificate (BadNumber search) = IsHeldSearch search
IsHeldCertificate Memory = ⊤
