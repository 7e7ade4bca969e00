use Rattle.gc_cert_text.proofs.Formed.{certificate_formed}
use Rattle.gc_cert_text.proofs.laws.certificates_are_formed.Goals as goal

pub returns : goal.returns
returns c = certificate_formed
