use Rattle.gc_json.proofs.GraphsLoadBack.{file_graph-canonical_text}
use Rattle.gc_json.proofs.laws.canonical_texts_load_back.Goals as goal

pub returns : goal.returns
returns c = λ seen g h few agree. file_graph-canonical_text seen g h few agree
