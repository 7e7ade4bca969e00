-- Edges read through the places of their ends.
use Rattle.std.proofs.Common.{◌≡◌, ℕ, zero, suc, ◌+◌, ◌≤◌, ◌++◌, length, append-nil, true, false, cond, ◌==◌, List, [], ◌∷◌, drop, Option, Some, refl, sym, ap, ◌∙◌, arith}
use Rattle.std.specs.List.{filter, slice_get}
use Rattle.std.proofs.lemmas.List.{drop_all}
use Rattle.std.specs.Option.{option_map, option_and_then}
use Rattle.gc_spec.specs.PropertyGraph.{Edge}
use Rattle.gc_ppg.specs.KeyedPlaces.{at_key, ends_from, AreEnds}
use Rattle.gc_ppg.specs.declared.node_edges.FarEnd.{FarEnd}
use Rattle.gc_ppg.specs.declared.places.PlaceAt.{PlaceAt}

pub head_at : {X : Type 0} (n : ℕ) (es : List X) (x : X) (xs : List X) → drop n es ≡ x ∷ xs → (slice_get es n ≡ Some x) × (drop (n + 1) es ≡ xs)
head_at zero es x xs h = let e : 0 + 1 ≡ suc 0 = omega arith in (ap (λ l. slice_get l 0) h, ap (λ k. drop k es) e ∙ ap (drop 1) h)
head_at (suc n) [] x xs h = absurd (cc)
head_at (suc n) (e ∷ es) x xs h =
    let r = head_at n es x xs h in
    let k : suc n + 1 ≡ suc (n + 1) = omega arith in
    (r.0, ap (λ j. drop j (e ∷ es)) k ∙ r.1)

-- what a sort gives from all places
pub ends_kept : (end : Edge → ℕ) (far : Edge → FarEnd) (edges : List Edge) (before after : List PlaceAt) (n : ℕ) → length edges ≤ n → before ++ ends_from end far n (drop n edges) ≡ ends_from end far 0 edges
    → ((key : ℕ) → at_key key after ≡ at_key key before) → AreEnds end far edges after
ends_kept end far edges before after n past whole same = λ key.
    same key ∙ ap (at_key key) (sym (append-nil before) ∙ (ap (λ es. before ++ ends_from end far n es) (sym (drop_all n edges past)) ∙ whole))

-- no places list no edges
pub no_ends : (end : Edge → ℕ) (far : Edge → FarEnd) (edges : List Edge) (places : List PlaceAt) → edges ≡ [] → places ≡ [] → AreEnds end far edges places
no_ends end far edges places none empty = λ key. ap (at_key key) empty ∙ ap (λ es. at_key key (ends_from end far 0 es)) (sym none)

module _ (end : Edge → ℕ) (far : Edge → FarEnd) (key : ℕ) (all : List Edge) where
  abbrev pub read : List PlaceAt → ℕ → Option Edge
  read places i = option_and_then (slice_get all) (option_map (λ e. e.place) (slice_get places i))

  read_from : (n : ℕ) (es : List Edge) (i : ℕ) → drop n all ≡ es → read (at_key key (ends_from end far n es)) i ≡ slice_get (filter (λ e. end e == key) es) i
  read_from n [] i h = refl
  read_from n (e ∷ es) zero h =
      let r = head_at n all e es h in
      elim (end e == key) as
      (λ b. read (cond b (record { key = end e; place = n; far = far e } ∷ at_key key (ends_from end far (n + 1) es)) (at_key key (ends_from end far (n + 1) es))) 0 ≡ slice_get (cond b (e ∷ filter (λ d. end d == key) es) (filter (λ d. end d == key) es)) 0) [
        | true ↦ r.0
        | false ↦ read_from (n + 1) es 0 r.1
      ]
  read_from n (e ∷ es) (suc i) h =
      let r = head_at n all e es h in
      elim (end e == key) as
      (λ b. read (cond b (record { key = end e; place = n; far = far e } ∷ at_key key (ends_from end far (n + 1) es)) (at_key key (ends_from end far (n + 1) es))) (suc i)
      ≡ slice_get (cond b (e ∷ filter (λ d. end d == key) es) (filter (λ d. end d == key) es)) (suc i)) [
        | true ↦ read_from (n + 1) es i r.1
        | false ↦ read_from (n + 1) es (suc i) r.1
      ]

  -- the i-th place of an end is that of the i-th edge with this end
  pub read_at : (places : List PlaceAt) (i : ℕ) → AreEnds end far all places → read (at_key key places) i ≡ slice_get (filter (λ e. end e == key) all) i
  read_at places i h = ap (λ ps. read ps i) (h key) ∙ read_from 0 all i refl

  far_from : (n : ℕ) (es : List Edge) (i : ℕ) → option_map (λ e. e.far) (slice_get (at_key key (ends_from end far n es)) i) ≡ option_map far (slice_get (filter (λ e. end e == key) es) i)
  far_from n [] i = refl
  far_from n (e ∷ es) zero =
      elim (end e == key) as
      (λ b. option_map (λ p. p.far) (slice_get (cond b (record { key = end e; place = n; far = far e } ∷ at_key key (ends_from end far (n + 1) es)) (at_key key (ends_from end far (n + 1) es))) 0)
      ≡ option_map far (slice_get (cond b (e ∷ filter (λ d. end d == key) es) (filter (λ d. end d == key) es)) 0)) [
        | true ↦ refl
        | false ↦ far_from (n + 1) es 0
      ]
  far_from n (e ∷ es) (suc i) =
      elim (end e == key) as
      (λ b. option_map (λ p. p.far) (slice_get (cond b (record { key = end e; place = n; far = far e } ∷ at_key key (ends_from end far (n + 1) es)) (at_key key (ends_from end far (n + 1) es))) (suc i))
      ≡ option_map far (slice_get (cond b (e ∷ filter (λ d. end d == key) es) (filter (λ d. end d == key) es)) (suc i))) [
        | true ↦ far_from (n + 1) es i
        | false ↦ far_from (n + 1) es (suc i)
      ]

  -- and it tells how this edge is seen from there
  pub far_at : (places : List PlaceAt) (i : ℕ) → AreEnds end far all places → option_map (λ e. e.far) (slice_get (at_key key places) i) ≡ option_map far (slice_get (filter (λ e. end e == key) all) i)
  far_at places i h = ap (λ ps. option_map (λ e. e.far) (slice_get ps i)) (h key) ∙ far_from 0 all i
