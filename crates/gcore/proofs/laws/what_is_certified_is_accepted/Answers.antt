use Rattle.gcore.proofs.CertifiedLaws.{certified_accepted}
use Rattle.gcore.proofs.laws.what_is_certified_is_accepted.Goals as goal

pub returns : goal.returns
returns c = certified_accepted c.written_certificates_read_back.ensures
