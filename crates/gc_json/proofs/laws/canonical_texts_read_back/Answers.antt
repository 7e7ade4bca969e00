use Rattle.gc_json.proofs.GraphsReadBack.{read-canonical_text}
use Rattle.gc_json.proofs.laws.canonical_texts_read_back.Goals as goal

pub returns : goal.returns
returns c = λ g h. read-canonical_text g h
