use Rattle.gc_cert_text.proofs.ReadWritable.{writable}
use Rattle.gc_cert_text.proofs.laws.read_certificates_read_back.Goals as goal

pub returns : goal.returns
returns c =
    λ bytes searches told graphs.
    c.written_certificates_read_back.ensures searches (writable bytes searches told (c.certificates_are_formed.ensures bytes searches told) graphs)
