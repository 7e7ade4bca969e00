-- A certificate that is written is read as it is.
use Rattle.std.proofs.Common.{◌≡◌, ℕ, ◌+◌, ◌≤◌, true, List, [], ◌∷◌, length, map, Some, Ok, refl, sym, ◌∙◌, arith, nat_le, nat_lt}
use Rattle.std.proofs.lemmas.Bool.Decides.{nat_tests}
use Rattle.std.proofs.lemmas.Str.{is_utf8-from_IsUtf8}
use Rattle.std.specs.List.{AllByRecursion, list_all}
use Rattle.gc_automata.specs.Moves.{Segment}
use Rattle.gc_json.specs.CanonicalText.{canonical_text, element_count, graph_data}
use Rattle.gc_json.specs.FileElements.{Seen}
use Rattle.gc_json.specs.GraphFiles.{file_graph, graph_of_data}
use Rattle.gc_json.proofs.GraphsReadBack.{read-canonical_text}
use Rattle.gc_json.proofs.Utf8Texts.{IsUtf8-canonical_text}
use Rattle.gc_ppg.specs.Shapes.{graph_agrees}
use Rattle.gc_prod.specs.Segments.{AreSegments}
use Rattle.gc_spec.specs.Coherence.{shapes_of}
use Rattle.gc_spec.specs.PropertyGraph.{IsGraph, PropertyGraph}
use Rattle.serde_json.specs.View.{items_of}
use Rattle.gc_cert_text.specs.Certificates.{SearchTold, certificate_of, search_of, searches_from}
use Rattle.gc_cert_text.specs.CertificateTexts.{certificate_text, search_data, segment_data}
use Rattle.gc_cert_text.specs.SegmentsOfGraphs.{are_segments_of, segment_in, segments_in}
use Rattle.gc_cert_text.specs.WritableSearches.{IsWritable}
use Rattle.gc_cert_text.proofs.WritableSegments.{IsWholeSegment, whole_segments}
use Rattle.gc_cert_text.proofs.WrittenExpressions.{tree_back}
use Rattle.gc_cert_text.proofs.WrittenNumbers.{cost_back, each_back, numbers_back, walk_read}
use Rattle.gc_cert_text.proofs.WrittenShapes.{document_shape}
use Rattle.gc_cert_text.proofs.WrittenTexts.{value_back}

-- what canonical texts are loaded as
abbrev pub LoadBack : Type 0
LoadBack = (seen : Seen) (g : PropertyGraph) → IsGraph g → element_count g ≤ 1000000 → graph_agrees seen g ≡ true → file_graph seen (canonical_text g) ≡ Ok g

-- ---- a graph stands beside no other

all_agree : {X : Type 0} (xs : List X) → list_all (λ _. true) xs ≡ true
all_agree [] = refl
all_agree (x ∷ xs) = all_agree xs

none_seen : (g : PropertyGraph) → graph_agrees [] g ≡ true
none_seen g = all_agree (shapes_of g)

graph_back : LoadBack → (g : PropertyGraph) → IsGraph g → element_count g ≤ 1000000 → graph_of_data [] (graph_data g) ≡ Ok g
graph_back load g h few =
    let read : file_graph [] (canonical_text g) ≡ graph_of_data [] (graph_data g) =
    rw (is_utf8-from_IsUtf8 (canonical_text g) (IsUtf8-canonical_text g h), read-canonical_text g h) refl in
    sym read ∙ load [] g h few (none_seen g)

-- ---- segments

segment_back : (s : Segment) → IsWholeSegment s → segment_in (segment_data s) ≡ Some s
segment_back s h =
    let one : nat_le 1 s.cost ≡ true = grind (arith, nat_tests, h.some) in
    let most : nat_le s.cost 9223372036854775807 ≡ true = grind (arith, nat_tests, h.cost) in
    rw (h.name, walk_read s.walk h.walk, cost_back s.cost (omega (arith, h.cost)), one, most) refl

are_back : (g : PropertyGraph) (segments : List Segment) → AreSegments g segments → are_segments_of g segments ≡ true
are_back g [] are = refl
are_back g (s ∷ segments) are =
    let long : nat_lt 0 (length s.walk.steps) ≡ true = grind (arith, nat_tests, are.0.moves) in
    rw (long, are.0.walk, are_back g segments are.1) refl

segments_back : (s : SearchTold) → IsWritable s → segments_in s.graph (search_data s) ≡ Some s.segments
segments_back s h =
    rw (
      each_back segment_in segment_data IsWholeSegment segment_back s.segments (whole_segments s h),
      are_back s.graph s.segments h.formed.segments,
    )
    refl

-- ---- searches

search_back : LoadBack → (i : ℕ) (s : SearchTold) → IsWritable s → search_of i (search_data s) ≡ Ok s
search_back load i s h =
    rw (graph_back load s.graph h.graph h.few, tree_back s h, numbers_back s h, segments_back s h) refl

searches_back : LoadBack → (i : ℕ) (searches : List SearchTold) → AllByRecursion IsWritable searches → searches_from i (items_of (map search_data searches)) ≡ Ok searches
searches_back load i [] h = refl
searches_back load i (s ∷ searches) h = rw (search_back load i s h.0, searches_back load (i + 1) searches h.1) refl

pub certificate_back : LoadBack → (searches : List SearchTold) → AllByRecursion IsWritable searches → certificate_of (certificate_text searches) ≡ Ok searches
certificate_back load searches h = rw (value_back searches h, document_shape searches, searches_back load 0 searches h) refl
