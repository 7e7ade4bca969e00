-- The text of a certificate.
use Rattle.std.specs.Prelude.{ℕ, List, ◌++◌, codes, decimal}
use Rattle.gc_automata.specs.Moves.{Segment}
use Rattle.gc_cert.specs.declared.document.Potential.{Potential}
use Rattle.gc_cert.specs.declared.document.WalkDoc.{WalkDoc}
use Rattle.gc_json.specs.CanonicalText.{array_of, graph_data, id_data, walk_data}
use Rattle.gc_print.specs.RegexTexts.{regex_text}
use Rattle.gc_prod.specs.declared.moves.By.{By}
use Rattle.gc_prod.specs.declared.moves.By.TheVariants as by
use Rattle.gc_prod.specs.declared.moves.RunMove.{RunMove}
use Rattle.serde_json.specs.Data.{Data, array, item, member, no_items, no_members, number, object, string, unsigned}
use Rattle.serde_json.specs.Written.{compact_text}
use Rattle.gc_cert_text.specs.Certificates.{SearchTold}

-- a state, or the number of a segment
abbrev pub number_data : ℕ → Data
number_data n = number (unsigned n)

-- a cost is the text of its digits, since it may be above the numbers that readers of JSON keep exactly
abbrev pub cost_data : ℕ → Data
cost_data c = string (decimal c)

-- a potential is the array of its node, its state and its cost
abbrev pub potential_data : Potential → Data
potential_data q = array (item (id_data q.node) (item (number_data q.state) (item (cost_data q.cost) no_items)))

-- a segment, with the name of its view
abbrev pub segment_data : Segment → Data
segment_data s =
    object
    (member (codes "cost") (cost_data s.cost) (member (codes "view") (string s.view) (member (codes "walk") (walk_data s.walk) no_members)))

-- a move has what it goes by, unless that is nothing, and the state that it goes to
abbrev pub move_data : By → ℕ → Data
move_data by.Nothing to = object (member (codes "to") (number_data to) no_members)
move_data (by.Edge edge) to = object (member (codes "edge") (id_data edge) (member (codes "to") (number_data to) no_members))
move_data (by.Segment i) to = object (member (codes "segment") (number_data i) (member (codes "to") (number_data to) no_members))

abbrev pub run_move_data : RunMove → Data
run_move_data r = move_data r.by r.to

-- a walk, with its cost and its run
abbrev pub walk_doc_data : WalkDoc → Data
walk_doc_data w =
    object
    (member (codes "cost") (cost_data w.cost)
    (member (codes "run") (array_of run_move_data w.run) (member (codes "walk") (walk_data w.walk) no_members)))

-- the keys of each object ascend, and all of them are there
abbrev pub search_data : SearchTold → Data
search_data s =
    object
    (member (codes "expression") (string (regex_text s.expression))
    (member (codes "graph") (graph_data s.graph)
    (member (codes "potentials") (array_of potential_data s.potentials)
    (member (codes "segments") (array_of segment_data s.segments)
    (member (codes "start") (id_data s.start) (member (codes "walks") (array_of walk_doc_data s.walks) no_members))))))

abbrev pub certificate_data : List SearchTold → Data
certificate_data searches =
    object (member (codes "gcore_cert") (number_data 1) (member (codes "searches") (array_of search_data searches) no_members))

-- the compact JSON text of a certificate, and a line feed
abbrev pub certificate_text : List SearchTold → List ℕ
certificate_text searches = compact_text (certificate_data searches) ++ codes "\n"
