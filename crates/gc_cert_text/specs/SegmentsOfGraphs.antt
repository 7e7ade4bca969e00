-- The segments of a certificate.
use Rattle.std.specs.Prelude.{ℕ, ◌&&◌, Bool, not, nat_le, nat_lt, List, codes, length, Option, Some}
use Rattle.std.specs.List.{list_all}
use Rattle.gc_automata.specs.Moves.{Segment}
use Rattle.gc_base.specs.Words.{is_word, is_reserved}
use Rattle.gc_spec.specs.PropertyGraph.{PropertyGraph, is_walk}
use Rattle.serde_json.specs.Data.{Data}
use Rattle.serde_json.specs.Find.{get, as_str}
use Rattle.gc_cert_text.specs.Numbers.{cost_in, walk_at}
use Rattle.gc_cert_text.specs.Options.{◌>>=◌, if_so, list_at}

-- a name: a word that is not reserved
abbrev pub is_name : List ℕ → Bool
is_name text = is_word text && not (is_reserved text)

abbrev pub name_in : Data → Option (List ℕ)
name_in d = as_str d >>= if_so is_name

-- the name at the key of a view
abbrev pub view_in : Data → Option (List ℕ)
view_in d = get (codes "view") d >>= name_in

-- a cost of at least 1, of 63 bits
abbrev pub is_segment_cost : ℕ → Bool
is_segment_cost c = nat_le 1 c && nat_le c 9223372036854775807

abbrev pub segment_cost_in : Data → Option ℕ
segment_cost_in d = cost_in d >>= if_so is_segment_cost

-- a segment: a view's name, a walk and a cost
abbrev pub segment_in : Data → Option Segment
segment_in d =
    view_in d >>= λ view. walk_at (codes "walk") d >>= λ walk. get (codes "cost") d >>= segment_cost_in
    >>= λ cost. Some (record { view = view; walk = walk; cost = cost })

-- whether its walk is one of a graph, along an edge at least
abbrev pub is_segment_of : PropertyGraph → Segment → Bool
is_segment_of g s = nat_lt 0 (length s.walk.steps) && is_walk g.nodes g.edges s.walk

abbrev pub are_segments_of : PropertyGraph → List Segment → Bool
are_segments_of g segments = list_all (is_segment_of g) segments

-- the segments of a search on its graph
abbrev pub segments_in : PropertyGraph → Data → Option (List Segment)
segments_in g d = list_at segment_in (codes "segments") d >>= if_so (are_segments_of g)
