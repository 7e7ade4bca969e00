use Rattle.gc_cert_text.proofs.WrittenSearches.{certificate_back}
use Rattle.gc_cert_text.proofs.laws.written_certificates_read_back.Goals as goal

pub returns : goal.returns
returns c = λ searches h. certificate_back c.canonical_texts_load_back.ensures searches h
