use Rattle.gc_check_text.proofs.Outcomes.{sound}
use Rattle.gc_check_text.proofs.checking.check.Goals as goal

pub returns-in-Ok-clause-sound : goal.returns-in-Ok-clause-sound
returns-in-Ok-clause-sound g c = sound c.args.bytes.now c.in-Ok.certificate c.in-Ok.ensures c.check_certificate.result c.check_certificate.ensures
