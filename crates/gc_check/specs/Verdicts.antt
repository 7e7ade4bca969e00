-- What a verdict on the document of a search says.
use Rattle.std.specs.Prelude.{◌≡◌, List, [], ◌∷◌, ◌++◌}
use Rattle.std.specs.List.{AllByRecursion}
use Rattle.gc_prod.specs.Products.{Setting}
use Rattle.gc_cert.specs.declared.document.SearchDoc.{SearchDoc}
use Rattle.gc_cert.specs.Acceptance.{Accepts, AreListed, BeginsFree, AreCovered, AreBounded, ArePassed, AreLeast}
use Rattle.gc_check.specs.declared.rule.KRule.{KRule}
use Rattle.gc_check.specs.declared.rule.KRule.TheVariants.{PotentialsListed, StartFree, MovesCovered, MovesBounded, RunsPassWalks, CostsLeast}
use Rattle.gc_check.specs.declared.rule.Verdict.{Verdict}
use Rattle.gc_check.specs.declared.rule.Verdict.TheVariants.{Accepted, Rejected}

-- a rule holds of a document
abbrev pub Holds : SearchDoc → Setting → KRule → Type 0
Holds d setting PotentialsListed = AreListed setting d.potentials
Holds d setting StartFree = BeginsFree setting d
Holds d setting MovesCovered = AreCovered setting d.potentials
Holds d setting MovesBounded = AreBounded setting d.potentials
Holds d setting RunsPassWalks = ArePassed setting d
Holds d setting CostsLeast = AreLeast setting d

abbrev pub all_rules : List KRule
all_rules = PotentialsListed ∷ StartFree ∷ MovesCovered ∷ MovesBounded ∷ RunsPassWalks ∷ CostsLeast ∷ []

-- the first rule that does not hold
pub record IsFirstBroken (d : SearchDoc) (setting : Setting) (rule : KRule) : Type 0 where
  pub earlier : List KRule
  pub later : List KRule
  pub order : all_rules ≡ earlier ++ rule ∷ later
  pub before : AllByRecursion (Holds d setting) earlier
  pub broken : Holds d setting rule → ⊥

abbrev pub IsVerdict : SearchDoc → Setting → Verdict → Type 0
IsVerdict d setting Accepted = Accepts d setting
IsVerdict d setting (Rejected rule) = IsFirstBroken d setting rule
