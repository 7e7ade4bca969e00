-- The data of a certificate have the shape of a document.
use Rattle.std.proofs.Common.{◌≡◌, ℕ, ◌*◌, ◌%◌, Bool, true, List, [], ◌∷◌, map, length, refl, arith, eq-eqb}
use Rattle.gc_base.specs.declared.walk.Step.{Step}
use Rattle.gc_cert.specs.declared.document.WalkDoc.{WalkDoc}
use Rattle.gc_json.specs.CanonicalText.{id_data, step_items}
use Rattle.gc_prod.specs.declared.moves.By.{By}
use Rattle.gc_prod.specs.declared.moves.By.TheVariants as by
use Rattle.serde_json.specs.Data.{Data, item}
use Rattle.serde_json.specs.Events.{items_len}
use Rattle.serde_json.specs.View.{items_of}
use Rattle.gc_cert_text.specs.Certificates.{SearchTold}
use Rattle.gc_cert_text.specs.CertificateTexts.{certificate_data, move_data, potential_data, run_move_data, search_data, segment_data, walk_doc_data}
use Rattle.gc_cert_text.specs.Shapes.{each_is, has_document_shape, has_move_shape, has_potential_shape, has_search_shape, has_segment_shape, has_walk_shape, is_odd}

each_so : {X : Type 0} (test : Data → Bool) (f : X → Data) → ((x : X) → test (f x) ≡ true) → (xs : List X) → each_is test (items_of (map f xs)) ≡ true
each_so test f so [] = refl
each_so test f so (x ∷ xs) = rw (so x, each_so test f so xs) refl

move_shape : (b : By) (to : ℕ) → has_move_shape (move_data b to) ≡ true
move_shape by.Nothing to = refl
move_shape (by.Edge edge) to = refl
move_shape (by.Segment i) to = refl

-- a walk is a node, and an edge and a node for each step
steps_counted : (steps : List Step) → items_len (step_items steps) ≡ 2 * length steps
steps_counted [] = refl
steps_counted (step ∷ steps) = omega (arith, steps_counted steps)

walk_odd : (start : ℕ) (steps : List Step) → is_odd (item (id_data start) (step_items steps)) ≡ true
walk_odd start steps =
    let odd : items_len (item (id_data start) (step_items steps)) % 2 ≡ 1 = omega (arith, steps_counted steps) in
    eq-eqb _ 1 odd

walk_shape : (w : WalkDoc) → has_walk_shape (walk_doc_data w) ≡ true
walk_shape w = rw (each_so has_move_shape run_move_data (λ r. move_shape r.by r.to) w.run, walk_odd w.walk.start w.walk.steps) refl

search_shape : (s : SearchTold) → has_search_shape (search_data s) ≡ true
search_shape s =
    rw (
      each_so has_potential_shape potential_data (λ q. refl) s.potentials,
      each_so has_segment_shape segment_data (λ t. refl) s.segments,
      each_so has_walk_shape walk_doc_data walk_shape s.walks,
    )
    refl

pub document_shape : (searches : List SearchTold) → has_document_shape (certificate_data searches) ≡ true
document_shape searches = rw (each_so has_search_shape search_data search_shape searches) refl
