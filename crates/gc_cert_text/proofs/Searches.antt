-- A turn of a loop that reads searches.
use Rattle.std.proofs.Common.{◌≡◌, ℕ, ◌+◌, ◌<◌, get_or, drop, ◌++◌, List, [], ◌∷◌, length, map, Result, Ok, Err, refl, sym, ap, ap₂, subst, ◌∙◌, append_assoc, arith}
use Rattle.std.proofs.lemmas.List.{drop_more, length-append, map-append}
use Rattle.gc_cert.specs.declared.document.SearchDoc.{SearchDoc}
use Rattle.gc_json.specs.Reading.{◌>>=◌}
use Rattle.serde_json.specs.Data.{Data, Items, item}
use Rattle.serde_json.specs.View.{view, items_view}
use Rattle.serde_json.specs.declared.value.Value.{Value}
use Rattle.gc_cert_text.specs.Certificates.{SearchTold, IsCertRefusal, Tells, all_told, search_of, searches_from, told}
use Rattle.gc_cert_text.specs.declared.certificate.Certificate.{Certificate}
use Rattle.gc_cert_text.specs.declared.refusal.CertRefusal.{CertRefusal}
use Rattle.gc_cert_text.specs.declared.refusal.CertRefusal.TheVariants.{NotJson, WrongShape, BadGraph, BadExpression, BadSegment, BadNumber, Memory}

-- searches that were read, with those that are left
abbrev pub behind : List SearchTold → Result (List SearchTold) CertRefusal → Result (List SearchTold) CertRefusal
behind front r = r >>= λ ss. Ok (front ++ ss)

pub behind-none : (r : Result (List SearchTold) CertRefusal) → behind [] r ≡ r
behind-none (Ok ss) = refl
behind-none (Err e) = refl

behind-more : (front : List SearchTold) (s : SearchTold) (r : Result (List SearchTold) CertRefusal) → behind (front ++ s ∷ []) r ≡ behind front (r >>= λ ss. Ok (s ∷ ss))
behind-more front s (Ok ss) = ap Ok (append_assoc front (s ∷ []) ss)
behind-more front s (Err e) = refl

-- one more search is read
pub read_more : (old now : List SearchDoc) (n m : ℕ) (s : SearchDoc) (d : Data) (ds : Items) → now ≡ old ++ s ∷ [] → m ≡ n + 1 → search_of n d ≡ Ok (told s)
    → behind (map told now) (searches_from m ds) ≡ behind (map told old) (searches_from n (item d ds))
read_more old now n m s d ds pushed next is =
    ap₂ (λ ys k. behind (map told ys) (searches_from k ds)) pushed next
    ∙ ap (λ ys. behind ys (searches_from (n + 1) ds)) (map-append told old (s ∷ []))
    ∙ behind-more (map told old) (told s) (searches_from (n + 1) ds)
    ∙ ap (λ r. behind (map told old) (r >>= λ t. searches_from (n + 1) ds >>= λ ss. Ok (t ∷ ss))) (sym is)

-- a search that is refused is the refusal of all
pub read_none : (old : List SearchTold) (n : ℕ) (d : Data) (ds : Items) (e : CertRefusal) → search_of n d ≡ Err e → behind old (searches_from n (item d ds)) ≡ Err e
read_none old n d ds e is = ap (λ r. behind old (r >>= λ t. searches_from (n + 1) ds >>= λ ss. Ok (t ∷ ss))) is

-- a refusal of one is a refusal of another
pub refusal_on : {A B : Type 0} (due : Result A CertRefusal) (all : Result B CertRefusal) (r : CertRefusal) → ((e : CertRefusal) → due ≡ Err e → all ≡ Err e)
    → IsCertRefusal due r → IsCertRefusal all r
refusal_on due all NotJson on h = on NotJson h
refusal_on due all WrongShape on h = on WrongShape h
refusal_on due all (BadGraph i) on h = on (BadGraph i) h
refusal_on due all (BadExpression i) on h = on (BadExpression i) h
refusal_on due all (BadSegment i) on h = on (BadSegment i) h
refusal_on due all (BadNumber i) on h = on (BadNumber i) h
refusal_on due all Memory on h = tt

-- a loop that ends with the refusal of a search gives what is due
pub search_refused : (old : List SearchTold) (n : ℕ) (d : Data) (ds : Items) (all : Result (List SearchTold) CertRefusal) (e : CertRefusal) (result : Result Certificate CertRefusal)
    → result ≡ Err e → behind old (searches_from n (item d ds)) ≡ all → IsCertRefusal (search_of n d) e → Tells all_told all result
search_refused old n d ds all e result is so_far due =
    subst (Tells all_told all) (sym is) (refusal_on (search_of n d) all e (λ f h. sym so_far ∙ read_none old n d ds f h) due)

-- what is left of an array begins with the next item
pub next_item : (vs : List Value) (i : ℕ) (v : Value) → i < length vs → v ≡ get_or vs i v → items_view (drop i vs) ≡ item (view v) (items_view (drop (i + 1) vs))
next_item vs i v within is = ap items_view (drop_more vs i v within ∙ ap (λ x. x ∷ drop (i + 1) vs) (sym is))

pub longer : (old now : List SearchDoc) (s : SearchDoc) (n : ℕ) → n ≡ length old → now ≡ old ++ s ∷ [] → length now ≡ n + 1
longer old now s n is pushed = omega (arith, is, ap length pushed, length-append old (s ∷ []))
