use Rattle.std.proofs.Common.{◌≡◌, List, ◌∷◌, ◌++◌, ap, ◌∙◌, append_assoc, codes}
use Rattle.gc_json.specs.CanonicalText.{array_of, id_data}
use Rattle.gc_json.specs.Writing.{tokens_of}
use Rattle.json.specs.Token.{Token, key}
use Rattle.serde_json.specs.Data.{Data}
use Rattle.gc_cert_text.specs.CertificateTexts.{potential_data, segment_data, walk_doc_data}
use Rattle.gc_cert_text.proofs.writing.write_found.Goals as goal

-- lists that are added one after another are added together
added : (old a now rest all : List Token) → now ≡ old ++ a → all ≡ now ++ rest → all ≡ old ++ (a ++ rest)
added old a now rest all first later = later ∙ (ap (λ ts. ts ++ rest) first ∙ append_assoc old a rest)

-- the list that is written is one that is the same
listed : {X : Type 0} (f : X → Data) (k : Token) (old now : List Token) (xs ys : List X) → xs ≡ ys → now ≡ old ++ k ∷ tokens_of (array_of f xs) → now ≡ old ++ k ∷ tokens_of (array_of f ys)
listed f k old now xs ys same written = written ∙ ap (λ l. old ++ k ∷ tokens_of (array_of f l)) same

pub returns : goal.returns
returns c =
    let s = c.args.search.now in
    let a : List Token = key (codes "potentials") ∷ tokens_of (array_of potential_data s.potentials) in
    let b : List Token = key (codes "segments") ∷ tokens_of (array_of segment_data s.segments) in
    let d : List Token = key (codes "start") ∷ tokens_of (id_data s.start) in
    let e : List Token = key (codes "walks") ∷ tokens_of (array_of walk_doc_data s.walks) in
    let potentials = c.in_ok-write_list.ensures in
    let segments = c.in_ok-write_list-2.ensures in
    let start = c.in_ok-write_start.ensures in
    let walks = c.in_ok-write_list-3.ensures in
    let old : List Token = c.args.writer.now.tokens in
    let first : List Token = c.write_list.new.writer.tokens in
    let second : List Token = c.write_list-2.new.writer.tokens in
    let third : List Token = c.write_start.new.writer.tokens in
    let all : List Token = c.write_list-3.new.writer.tokens in
    let one = listed potential_data (key (codes "potentials")) old first c.as_slice.result.now s.potentials c.as_slice.ensures potentials.1 in
    let two = listed segment_data (key (codes "segments")) first second c.as_slice-2.result.now s.segments c.as_slice-2.ensures segments.1 in
    let last = listed walk_doc_data (key (codes "walks")) third all c.as_slice-3.result.now s.walks c.as_slice-3.ensures walks.1 in (
      walks.0 ∙ (start.0 ∙ (segments.0 ∙ potentials.0)),
      added old a first (b ++ (d ++ e)) all one (added first b second (d ++ e) all two (added second d third e all start.1 last)),
    )
