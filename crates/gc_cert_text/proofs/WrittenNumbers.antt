-- The numbers of a search that is written are read as they are.
use Rattle.std.proofs.Common.{◌≡◌, ℕ, ◌+◌, ◌/◌, ◌%◌, ◌^◌, ◌<◌, ◌≤◌, ◌==◌, Bool, true, false, not, List, [], ◌∷◌, ◌++◌, map, length, get_or, Option, Some, Ok, refl, sym, ap, ◌∙◌, arith, nat_le, nat_lt, ne_eqb}
use Rattle.std.proofs.lemmas.Bool.Decides.{nat_tests}
use Rattle.std.proofs.lemmas.Fmt.{decimal_by_steps_wide, decimal_is_IsNumeral_wide}
use Rattle.std.proofs.lemmas.Str.Parse.{IsNumeralModel, numerals_by_value, tells_all_ascii_digits}
use Rattle.std.specs.List.{AllByRecursion}
use Rattle.std.specs.Prelude.{decimal}
use Rattle.std.specs.Str.{all_ascii_digits}
use Rattle.std.specs.Str.Parse.{digits_value}
use Rattle.gc_automata.specs.Moves.{Segment}
use Rattle.gc_base.specs.declared.walk.Step.{Step}
use Rattle.gc_base.specs.declared.walk.Walk.{Walk}
use Rattle.gc_cert.specs.declared.document.Potential.{Potential}
use Rattle.gc_cert.specs.declared.document.WalkDoc.{WalkDoc}
use Rattle.gc_json.specs.CanonicalText.{id_data, step_items}
use Rattle.gc_json.specs.WalkItems.{id_on_walk, steps_among, walk_of}
use Rattle.gc_json.proofs.GatheredSteps.{steps_gathered, walk_gathered}
use Rattle.gc_json.proofs.PartsLoadBack.{StepIsBounded, bound, id_back, on_walk_back, steps_back}
use Rattle.gc_prod.specs.declared.moves.By.{By}
use Rattle.gc_prod.specs.declared.moves.By.TheVariants as by
use Rattle.gc_spec.specs.PropertyGraph.{IsId}
use Rattle.serde_json.specs.Data.{Data, item}
use Rattle.serde_json.specs.View.{items_of}
use Rattle.gc_cert_text.specs.Certificates.{SearchTold}
use Rattle.gc_cert_text.specs.CertificateTexts.{cost_data, move_data, number_data, potential_data, run_move_data, search_data, segment_data, walk_doc_data}
use Rattle.gc_cert_text.specs.Numbers.{cost_in, has_segment_numbers, id_in, is_id, is_unpadded, move_in, potential_in, small_in, walk_doc_in}
use Rattle.gc_cert_text.specs.Options.{each_of}
use Rattle.gc_cert_text.specs.SearchNumberTexts.{numbers_in}
use Rattle.gc_cert_text.specs.Shapes.{each_is}
use Rattle.gc_cert_text.specs.WritableSearches.{IsWritable, IsWritableBy, IsWritableMove, IsWritablePotential, IsWritableStep, IsWritableWalk, IsWritableWalkDoc}
use Rattle.gc_cert_text.proofs.WritableSegments.{IsWholeSegment, whole_segments}

-- ---- lists

pub each_back : {X : Type 0} (read : Data → Option X) (f : X → Data) (P : X → Type 0) → ((x : X) → P x → read (f x) ≡ Some x) → (xs : List X) → AllByRecursion P xs → each_of read (items_of (map f xs)) ≡ Some xs
each_back read f P back [] h = refl
each_back read f P back (x ∷ xs) h = rw (back x h.0, each_back read f P back xs h.1) refl

pub each_so : {X : Type 0} (test : Data → Bool) (f : X → Data) (P : X → Type 0) → ((x : X) → P x → test (f x) ≡ true) → (xs : List X) → AllByRecursion P xs → each_is test (items_of (map f xs)) ≡ true
each_so test f P so [] h = refl
each_so test f P so (x ∷ xs) h = rw (so x h.0, each_so test f P so xs h.1) refl

-- ---- costs

-- digits without a zero before others; those of a number above 0 do not begin with a zero
record IsFirstOf (n : ℕ) (ds : List ℕ) : Type 0 where
  pub some : 0 < length ds
  pub unpadded : is_unpadded ds ≡ true
  pub above : 0 < n → (get_or ds 0 0 == 48) ≡ false

one_digit : (m : ℕ) → m < 10 → IsFirstOf m ((48 + m) ∷ [])
one_digit m small = record { some = omega arith; unpadded = refl; above = λ a. ne_eqb (48 + m) 48 (λ e. omega (arith, e, a)) }

more_digits : (m : ℕ) (ds : List ℕ) → 10 ≤ m → IsFirstOf (m / 10) ds → IsFirstOf m (ds ++ ((48 + m % 10) ∷ []))
more_digits m [] large h = absurd (omega (arith, h.some))
more_digits m (c ∷ ds) large h =
    let first : (c == 48) ≡ false = h.above (omega arith) in
    record { some = omega arith; unpadded = unpadded ds first; above = λ a. first }
  where
    unpadded : (es : List ℕ) → (c == 48) ≡ false → is_unpadded ((c ∷ es) ++ ((48 + m % 10) ∷ [])) ≡ true
    unpadded [] first = ap not first
    unpadded (e ∷ es) first = ap not first

decimal_unpadded : (c : ℕ) → c < 10 ^ 64 → is_unpadded (decimal c) ≡ true
decimal_unpadded c small = (decimal_by_steps_wide IsFirstOf one_digit more_digits c small).unpadded

digits : IsNumeralModel (λ ds. all_ascii_digits ds ≡ true) (digits_value 10)
digits = numerals_by_value (λ ds. all_ascii_digits ds ≡ true) tells_all_ascii_digits

pub cost_back : (c : ℕ) → c < 2 ^ 127 → cost_in (cost_data c) ≡ Some c
cost_back c small =
    let wide : c < 10 ^ 64 = omega (arith, small) in
    let numeral = decimal_is_IsNumeral_wide c wide in
    let are = digits.from (decimal c) numeral.0.1 in
    let below : nat_lt c (2 ^ 127) ≡ true = grind (arith, nat_tests) in
    rw (decimal_unpadded c wide, are, numeral.1, below) refl

-- ---- identities and small numbers

pub id_read : (id : ℕ) → IsId id → id_in (id_data id) ≡ Some id
id_read id h = id_back id h

small_back : (n : ℕ) → n < 2 ^ 32 → small_in (number_data n) ≡ Some n
small_back n h = let k : nat_le n 4294967295 ≡ true = grind (arith, nat_tests) in rw k refl

-- ---- potentials, walks and moves

potential_back : (q : Potential) → IsWritablePotential q → potential_in (potential_data q) ≡ Some q
potential_back q h = rw (id_read q.node h.node, small_back q.state h.state, cost_back q.cost h.cost) refl

bounded : (steps : List Step) → AllByRecursion IsWritableStep steps → AllByRecursion StepIsBounded steps
bounded [] h = tt
bounded (step ∷ steps) h = ((h.0.edge, h.0.node), bounded steps h.1)

pub walk_read : (w : Walk) → IsWritableWalk w → walk_of (item (id_data w.start) (step_items w.steps)) ≡ Ok w
walk_read w h =
    sym (walk_gathered (id_data w.start) (step_items w.steps))
    ∙ bound (id_on_walk (id_data w.start)) w.start _ (on_walk_back w.start h.start)
    ∙ bound (steps_among (step_items w.steps)) w.steps _ (sym (steps_gathered [] (step_items w.steps) refl) ∙ steps_back [] w.steps (bounded w.steps h.steps))

move_back : (b : By) (to : ℕ) → IsWritableBy b → to < 2 ^ 32 → move_in (move_data b to) ≡ Some (record { by = b; to = to })
move_back by.Nothing to way small = rw (small_back to small) refl
move_back (by.Edge edge) to way small = rw (id_read edge way, small_back to small) refl
move_back (by.Segment i) to way small = rw (small_back i way, small_back to small) refl

walk_doc_back : (w : WalkDoc) → IsWritableWalkDoc w → walk_doc_in (walk_doc_data w) ≡ Some w
walk_doc_back w h =
    let run = each_back move_in run_move_data IsWritableMove (λ r m. move_back r.by r.to m.way m.to) w.run h.run in
    rw (cost_back w.cost h.cost, run, walk_read w.walk h.walk) refl

-- ---- segments

steps_ids : (steps : List Step) → AllByRecursion IsWritableStep steps → each_is is_id (step_items steps) ≡ true
steps_ids [] h = refl
steps_ids (step ∷ steps) h = rw (id_read step.edge h.0.edge, id_read step.node h.0.node) (steps_ids steps h.1)

segment_numbers : (s : Segment) → IsWholeSegment s → has_segment_numbers (segment_data s) ≡ true
segment_numbers s h = rw (cost_back s.cost (omega (arith, h.cost)), id_read s.walk.start h.walk.start) (steps_ids s.walk.steps h.walk.steps)

-- ---- all of a search

pub numbers_back : (s : SearchTold) → IsWritable s → numbers_in (search_data s) ≡ Some (record { potentials = s.potentials; start = s.start; walks = s.walks })
numbers_back s h =
    let segments = each_so has_segment_numbers segment_data IsWholeSegment segment_numbers s.segments (whole_segments s h) in
    let potentials = each_back potential_in potential_data IsWritablePotential potential_back s.potentials h.potentials in
    let walks = each_back walk_doc_in walk_doc_data IsWritableWalkDoc walk_doc_back s.walks h.walks in
    rw (segments, potentials, id_read s.start h.start, walks) refl
