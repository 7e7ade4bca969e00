-- What a writer gains of the two halves of a search.
use Rattle.std.specs.Prelude.{List, ◌∷◌, ◌++◌, codes}
use Rattle.gc_cert_text.specs.Certificates.{SearchTold}
use Rattle.gc_cert_text.specs.CertificateTexts.{potential_data, segment_data, walk_doc_data}
use Rattle.gc_json.specs.CanonicalText.{array_of, graph_data, id_data}
use Rattle.gc_json.specs.Writing.{tokens_of}
use Rattle.gc_print.specs.RegexTexts.{regex_text}
use Rattle.json.specs.Token.{Token, key}
use Rattle.serde_json.specs.Data.{string}

-- by what and on which graph walks were looked for
abbrev pub place_tokens : SearchTold → List Token
place_tokens s =
    key (codes "expression") ∷ tokens_of (string (regex_text s.expression)) ++ key (codes "graph") ∷ tokens_of (graph_data s.graph)

-- what was found, from where, and on which segments
abbrev pub found_tokens : SearchTold → List Token
found_tokens s =
    key (codes "potentials") ∷ tokens_of (array_of potential_data s.potentials)
    ++ (key (codes "segments") ∷ tokens_of (array_of segment_data s.segments)
    ++ (key (codes "start") ∷ tokens_of (id_data s.start) ++ key (codes "walks") ∷ tokens_of (array_of walk_doc_data s.walks)))
