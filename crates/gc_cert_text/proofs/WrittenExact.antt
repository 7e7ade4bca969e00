-- The data of a certificate can be printed and read: numbers are whole, keys ascend, texts are UTF-8, and they are flat.
use Rattle.std.proofs.Common.{ℕ, ◌^◌, ◌<◌, ◌≤◌, List, [], ◌∷◌, refl, arith}
use Rattle.std.proofs.lemmas.Fmt.{IsAscii-decimal_wide}
use Rattle.std.proofs.lemmas.Str.{IsUtf8-from_ascii}
use Rattle.std.specs.List.{AllByRecursion}
use Rattle.std.specs.Prelude.{decimal}
use Rattle.gc_automata.specs.Moves.{Segment}
use Rattle.gc_base.specs.declared.walk.Step.{Step}
use Rattle.gc_base.specs.declared.walk.Walk.{Walk}
use Rattle.gc_cert.specs.declared.document.Potential.{Potential}
use Rattle.gc_cert.specs.declared.document.WalkDoc.{WalkDoc}
use Rattle.gc_json.specs.CanonicalText.{step_items, walk_data}
use Rattle.gc_json.proofs.GraphsReadBack.{graph_exact, graph_flat, items_exact, items_flat, steps_flat}
use Rattle.gc_json.proofs.ReadsBack.{IsExact, ItemsAreExact}
use Rattle.gc_json.proofs.Utf8Texts.{IsPlain, graph_plain, items_plain, key_utf8, steps_plain}
use Rattle.gc_print.proofs.AsciiTexts.{formed_utf8}
use Rattle.gc_prod.specs.declared.moves.By.{By}
use Rattle.gc_prod.specs.declared.moves.By.TheVariants as by
use Rattle.serde_json.specs.Data.{depth}
use Rattle.gc_cert_text.specs.Certificates.{SearchTold}
use Rattle.gc_cert_text.specs.CertificateTexts.{certificate_data, cost_data, move_data, potential_data, run_move_data, search_data, segment_data, walk_doc_data}
use Rattle.gc_cert_text.specs.WritableSearches.{IsWritable, IsWritableBy, IsWritableMove, IsWritablePotential, IsWritableStep, IsWritableWalk, IsWritableWalkDoc}
use Rattle.gc_cert_text.proofs.WritableSegments.{IsWholeSegment, whole_segments}

-- ---- exact

steps_exact : (steps : List Step) → AllByRecursion IsWritableStep steps → ItemsAreExact (step_items steps)
steps_exact [] h = tt
steps_exact (step ∷ steps) h =
    let edge : step.edge < 2 ^ 64 = omega (arith, h.0.edge) in
    let node : step.node < 2 ^ 64 = omega (arith, h.0.node) in
    (edge, (node, steps_exact steps h.1))

walk_exact : (w : Walk) → IsWritableWalk w → IsExact (walk_data w)
walk_exact w h = let start : w.start < 2 ^ 64 = omega (arith, h.start) in (start, steps_exact w.steps h.steps)

potential_exact : (q : Potential) → IsWritablePotential q → IsExact (potential_data q)
potential_exact q h =
    let node : q.node < 2 ^ 64 = omega (arith, h.node) in
    let state : q.state < 2 ^ 64 = omega (arith, h.state) in
    (node, (state, (tt, tt)))

segment_exact : (s : Segment) → IsWholeSegment s → IsExact (segment_data s)
segment_exact s h = (tt, (refl, (refl, tt)), (tt, (refl, tt), (walk_exact s.walk h.walk, tt, tt)))

move_exact : (b : By) (to : ℕ) → IsWritableBy b → to < 2 ^ 32 → IsExact (move_data b to)
move_exact by.Nothing to way small = let number : to < 2 ^ 64 = omega arith in (number, tt, tt)
move_exact (by.Edge edge) to way small =
    let number : to < 2 ^ 64 = omega arith in
    let id : edge < 2 ^ 64 = omega (arith, way) in
    (id, (refl, tt), (number, tt, tt))
move_exact (by.Segment i) to way small =
    let number : to < 2 ^ 64 = omega arith in
    let index : i < 2 ^ 64 = omega (arith, way) in
    (index, (refl, tt), (number, tt, tt))

walk_doc_exact : (w : WalkDoc) → IsWritableWalkDoc w → IsExact (walk_doc_data w)
walk_doc_exact w h =
    let run = items_exact run_move_data IsWritableMove (λ r m. move_exact r.by r.to m.way m.to) w.run h.run in
    (tt, (refl, (refl, tt)), (run, (refl, tt), (walk_exact w.walk h.walk, tt, tt)))

search_exact : (s : SearchTold) → IsWritable s → IsExact (search_data s)
search_exact s h =
    let start : s.start < 2 ^ 64 = omega (arith, h.start) in
    let potentials = items_exact potential_data IsWritablePotential potential_exact s.potentials h.potentials in
    let segments = items_exact segment_data IsWholeSegment segment_exact s.segments (whole_segments s h) in
    let walks = items_exact walk_doc_data IsWritableWalkDoc walk_doc_exact s.walks h.walks in (
      tt,
      (refl, (refl, (refl, (refl, (refl, tt))))),
      (
        graph_exact s.graph h.graph,
        (refl, (refl, (refl, (refl, tt)))),
        (potentials, (refl, (refl, (refl, tt))), (segments, (refl, (refl, tt)), (start, (refl, tt), (walks, tt, tt)))),
      ),
    )

pub certificate_exact : (searches : List SearchTold) → AllByRecursion IsWritable searches → IsExact (certificate_data searches)
certificate_exact searches h = (omega arith, (refl, tt), (items_exact search_data IsWritable search_exact searches h, tt, tt))

-- ---- flat

potential_flat : (q : Potential) → depth (potential_data q) ≤ 1
potential_flat q = omega arith

segment_flat : (s : Segment) → depth (segment_data s) ≤ 2
segment_flat s = omega (arith, steps_flat s.walk.steps)

move_flat : (b : By) (to : ℕ) → depth (move_data b to) ≤ 1
move_flat by.Nothing to = omega arith
move_flat (by.Edge edge) to = omega arith
move_flat (by.Segment i) to = omega arith

walk_doc_flat : (w : WalkDoc) → depth (walk_doc_data w) ≤ 3
walk_doc_flat w = omega (arith, steps_flat w.walk.steps, items_flat run_move_data 1 (λ r. move_flat r.by r.to) w.run)

search_flat : (s : SearchTold) → depth (search_data s) ≤ 6
search_flat s =
    omega (
      arith,
      graph_flat s.graph,
      items_flat potential_data 1 potential_flat s.potentials,
      items_flat segment_data 2 segment_flat s.segments,
      items_flat walk_doc_data 3 walk_doc_flat s.walks,
    )

pub certificate_flat : (searches : List SearchTold) → depth (certificate_data searches) ≤ 8
certificate_flat searches = omega (arith, items_flat search_data 6 search_flat searches)

-- ---- plain

cost_plain : (c : ℕ) → c < 2 ^ 127 → IsPlain (cost_data c)
cost_plain c small = IsUtf8-from_ascii (decimal c) (IsAscii-decimal_wide c (omega (arith, small)))

potential_plain : (q : Potential) → IsWritablePotential q → IsPlain (potential_data q)
potential_plain q h = (tt, (tt, (cost_plain q.cost h.cost, tt)))

segment_plain : (s : Segment) → IsWholeSegment s → IsPlain (segment_data s)
segment_plain s h = (
  key_utf8 _ refl,
  cost_plain s.cost (omega (arith, h.cost)),
  (key_utf8 _ refl, key_utf8 s.view h.view, (key_utf8 _ refl, (tt, steps_plain s.walk.steps), tt)),
)

move_plain : (b : By) (to : ℕ) → IsPlain (move_data b to)
move_plain by.Nothing to = (key_utf8 _ refl, tt, tt)
move_plain (by.Edge edge) to = (key_utf8 _ refl, tt, (key_utf8 _ refl, tt, tt))
move_plain (by.Segment i) to = (key_utf8 _ refl, tt, (key_utf8 _ refl, tt, tt))

walk_doc_plain : (w : WalkDoc) → IsWritableWalkDoc w → IsPlain (walk_doc_data w)
walk_doc_plain w h = (
  key_utf8 _ refl,
  cost_plain w.cost h.cost,
  (
    key_utf8 _ refl,
    items_plain run_move_data IsWritableMove (λ r m. move_plain r.by r.to) w.run h.run,
    (key_utf8 _ refl, (tt, steps_plain w.walk.steps), tt),
  ),
)

search_plain : (s : SearchTold) → IsWritable s → IsPlain (search_data s)
search_plain s h = (
  key_utf8 _ refl,
  formed_utf8 _ _ _ (λ v named. named.0) s.expression h.formed.expression,
  (
    key_utf8 _ refl,
    graph_plain s.graph h.graph,
    (
      key_utf8 _ refl,
      items_plain potential_data IsWritablePotential potential_plain s.potentials h.potentials,
      (
        key_utf8 _ refl,
        items_plain segment_data IsWholeSegment segment_plain s.segments (whole_segments s h),
        (key_utf8 _ refl, tt, (key_utf8 _ refl, items_plain walk_doc_data IsWritableWalkDoc walk_doc_plain s.walks h.walks, tt)),
      ),
    ),
  ),
)

pub certificate_plain : (searches : List SearchTold) → AllByRecursion IsWritable searches → IsPlain (certificate_data searches)
certificate_plain searches h = (key_utf8 _ refl, tt, (key_utf8 _ refl, items_plain search_data IsWritable search_plain searches h, tt))
