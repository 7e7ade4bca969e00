use Rattle.std.proofs.Common.{◌≡◌, sym, subst}
use Rattle.gc_cert_text.specs.declared.refusal.CertRefusal.{CertRefusal}
use Rattle.gc_cert_text.specs.declared.refusal.CertRefusal.TheVariants.{BadExpression, BadSegment, BadNumber, Memory}
use Rattle.gcore.specs.Endings.{Change, Tells}
use Rattle.gcore.specs.Lines.{certificate_line}
use Rattle.gcore.proofs.certificate_lines.tell_certificate.Goals as goal

-- the line of a refusal
told : (change : Change) (refusal r : CertRefusal) → refusal ≡ r → Tells change (certificate_line r) → Tells change (certificate_line refusal)
told change refusal r e h = subst (λ s. Tells change (certificate_line s)) (sym e) h

pub returns-in-BadExpression : goal.returns-in-BadExpression
returns-in-BadExpression g c =
    told _ c.args.refusal (BadExpression c.in-BadExpression.search) c.in-BadExpression.is c.tell_search-in-BadExpression.ensures

pub returns-in-BadSegment : goal.returns-in-BadSegment
returns-in-BadSegment g c = told _ c.args.refusal (BadSegment c.in-BadSegment.search) c.in-BadSegment.is c.tell_search-in-BadSegment.ensures

pub returns-in-BadNumber : goal.returns-in-BadNumber
returns-in-BadNumber g c = told _ c.args.refusal (BadNumber c.in-BadNumber.search) c.in-BadNumber.is c.tell_search-in-BadNumber.ensures

pub returns-in-Memory : goal.returns-in-Memory
returns-in-Memory g c = told _ c.args.refusal Memory c.in-Memory.is c.tell_line-in-Memory.ensures
