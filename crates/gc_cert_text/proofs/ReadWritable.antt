-- A search that is read can be written, where its graph is valid.
use Rattle.std.proofs.Common.{◌≡◌, ℕ, ◌+◌, ◌≤◌, Bool, true, false, List, [], ◌∷◌, Some, Ok, Err, subst, codes, if◌then◌else◌}
use Rattle.std.specs.List.{AllByRecursion}
use Rattle.gc_json.specs.CanonicalText.{element_count}
use Rattle.gc_json.specs.JsonValues.{value_of}
use Rattle.gc_json.specs.Reading.{or_refused}
use Rattle.gc_spec.specs.PropertyGraph.{IsGraph, IsId}
use Rattle.serde_json.specs.Data.{Data, Items, item, no_items}
use Rattle.serde_json.specs.Find.{get}
use Rattle.gc_cert_text.specs.Certificates.{SearchTold, certificate_of, certificate_of_data, search_of, searches_from, searches_in, tree_in}
use Rattle.gc_cert_text.specs.FormedSearches.{IsFormedSearch}
use Rattle.gc_cert_text.specs.Graphs.{graph_in}
use Rattle.gc_cert_text.specs.Numbers.{has_segment_numbers, id_in, potential_in, walk_doc_in}
use Rattle.gc_cert_text.specs.Options.{◌>>=◌, array_at, list_at}
use Rattle.gc_cert_text.specs.SearchNumberTexts.{numbers_in, numbers_of}
use Rattle.gc_cert_text.specs.SegmentsOfGraphs.{segments_in}
use Rattle.gc_cert_text.specs.Shapes.{each_is, has_array, has_document_shape}
use Rattle.gc_cert_text.specs.WritableSearches.{IsWritable, IsWritablePotential, IsWritableSegment, IsWritableWalkDoc}
use Rattle.gc_cert_text.specs.declared.refusal.CertRefusal.TheVariants.{NotJson, WrongShape, BadGraph, BadExpression, BadSegment, BadNumber}
use Rattle.gc_cert_text.specs.declared.search_numbers.SearchNumbers.{SearchNumbers}
use Rattle.gc_cert_text.proofs.Formed.{was_there, went, went_on}
use Rattle.gc_cert_text.proofs.ReadRanges.{graph_read, id_read, listed, potential_read, segments_read, there_if, walk_doc_read}

record AreInRange (n : SearchNumbers) : Type 0 where
  pub potentials : AllByRecursion IsWritablePotential n.potentials
  pub start : IsId n.start
  pub walks : AllByRecursion IsWritableWalkDoc n.walks

numbers_read : (d : Data) (n : SearchNumbers) → numbers_in d ≡ Some n → AreInRange n
numbers_read d n h =
    let all = there_if (has_array (codes "segments") (each_is has_segment_numbers) d) (numbers_of d) n h in
    let potentials = went_on (list_at potential_in (codes "potentials") d) _ n all in
    let start = went_on (get (codes "start") d >>= id_in) _ n potentials.2 in
    let walks = went_on (list_at walk_doc_in (codes "walks") d) _ n start.2 in
    let its = went_on (get (codes "start") d) id_in start.0 start.1 in
    let same : record { potentials = potentials.0; start = start.0; walks = walks.0 } ≡ n = cc in
    subst AreInRange same
    (record {
      potentials = listed potential_in IsWritablePotential potential_read (codes "potentials") d potentials.0 potentials.1;
      start = id_read its.0 start.0 its.2;
      walks = listed walk_doc_in IsWritableWalkDoc walk_doc_read (codes "walks") d walks.0 walks.1;
    })

-- what is asked of a search but that it is formed and that its graph is valid
record IsInRange (s : SearchTold) : Type 0 where
  pub few : element_count s.graph ≤ 1000000
  pub potentials : AllByRecursion IsWritablePotential s.potentials
  pub segments : AllByRecursion IsWritableSegment s.segments
  pub start : IsId s.start
  pub walks : AllByRecursion IsWritableWalkDoc s.walks

search_read : (i : ℕ) (d : Data) (s : SearchTold) → search_of i d ≡ Ok s → IsInRange s
search_read i d s h =
    let graph = went (or_refused (BadGraph i) (graph_in d)) _ s h in
    let tree = went (or_refused (BadExpression i) (tree_in d)) _ s graph.2 in
    let numbers = went (or_refused (BadNumber i) (numbers_in d)) _ s tree.2 in
    let segments = went (or_refused (BadSegment i) (segments_in graph.0 d)) _ s numbers.2 in
    let range = numbers_read d numbers.0 (was_there (BadNumber i) (numbers_in d) numbers.0 numbers.1) in
    let same : record { expression = tree.0; graph = graph.0; potentials = numbers.0.potentials; segments = segments.0; start = numbers.0.start; walks = numbers.0.walks } ≡ s = cc in
    subst IsInRange same
    (record {
      few = graph_read d graph.0 (was_there (BadGraph i) (graph_in d) graph.0 graph.1);
      potentials = range.potentials;
      segments = segments_read graph.0 d segments.0 (was_there (BadSegment i) (segments_in graph.0 d) segments.0 segments.1);
      start = range.start;
      walks = range.walks;
    })

searches_read : (i : ℕ) (ds : Items) (ss : List SearchTold) → searches_from i ds ≡ Ok ss → AllByRecursion IsInRange ss
searches_read i no_items [] h = tt
searches_read i no_items (s ∷ ss) h = absurd (cc)
searches_read i (item d ds) ss h =
    let first = went (search_of i d) _ ss h in
    let rest = went (searches_from (i + 1) ds) _ ss first.2 in
    let same : first.0 ∷ rest.0 ≡ ss = cc in
    subst (AllByRecursion IsInRange) same (search_read i d first.0 first.1, searches_read (i + 1) ds rest.0 rest.1)

data_read : (d : Data) (ss : List SearchTold) → certificate_of_data d ≡ Ok ss → AllByRecursion IsInRange ss
data_read d ss h = by (has_document_shape d) h
  where
    by : (b : Bool) → (if b then searches_in d else Err WrongShape) ≡ Ok ss → AllByRecursion IsInRange ss
    by true e = let items = went (or_refused WrongShape (array_at (codes "searches") d)) (searches_from 0) ss e in searches_read 0 items.0 ss items.2
    by false e = absurd (cc)

all_writable : (ss : List SearchTold) → AllByRecursion IsFormedSearch ss → AllByRecursion (λ s. IsGraph s.graph) ss → AllByRecursion IsInRange ss → AllByRecursion IsWritable ss
all_writable [] formed graphs ranges = tt
all_writable (s ∷ ss) formed graphs ranges = (
  record {
    formed = formed.0;
    graph = graphs.0;
    few = ranges.0.few;
    potentials = ranges.0.potentials;
    segments = ranges.0.segments;
    start = ranges.0.start;
    walks = ranges.0.walks;
  },
  all_writable ss formed.1 graphs.1 ranges.1,
)

pub writable : (bytes : List ℕ) (ss : List SearchTold) → certificate_of bytes ≡ Ok ss → AllByRecursion IsFormedSearch ss → AllByRecursion (λ s. IsGraph s.graph) ss → AllByRecursion IsWritable ss
writable bytes ss h formed graphs =
    let value = went (or_refused NotJson (value_of bytes)) certificate_of_data ss h in
    all_writable ss formed graphs (data_read value.0 ss value.2)
