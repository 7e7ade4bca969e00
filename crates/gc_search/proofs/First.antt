-- Lists of entries at places: where what follows each listed entry is covered, they are the first k.
use Rattle.std.proofs.Common.{◌≡◌, ℕ, suc, ◌+◌, ◌≤◌, List, [], ◌∷◌, ◌++◌, length, refl, sym, ap, ◌∙◌, subst, arith, inl, inr, ◌⊎◌}
use Rattle.std.proofs.lemmas.List.{append_cancel_right}
use Rattle.gc_search.specs.Entries.{Entry, entry, Before, AtMost, extend}
use Rattle.gc_search.specs.Passages.{Has, Passage, Goes, Reach, Rises, Covered, Listed, Past, IsFirstK}
use Rattle.gc_search.proofs.Order.{before_trans, before_at_most, at_most_before, at_most_same_walk, same_walk_at_most, before_same_walk, before_extend}

-- no walk twice
abbrev pub Distinct : List Entry → Type 0
Distinct [] = Unit {0}
Distinct (x ∷ xs) = ((y : Entry) → Has xs y → x.edges ≡ y.edges → ⊥) × Distinct xs

-- the list without one of its members
abbrev without : {Y : Type 0} (ys : List Y) (y : Y) → Has ys y → List Y
without [] y h = elim h [ ]
without (z ∷ ys) y (inl e) = ys
without (z ∷ ys) y (inr h) = z ∷ without ys y h

length-without : {Y : Type 0} (ys : List Y) (y : Y) (h : Has ys y) → length ys ≡ suc (length (without ys y h))
length-without [] y h = elim h [ ]
length-without (z ∷ ys) y (inl e) = omega arith
length-without (z ∷ ys) y (inr h) = omega (arith, length-without ys y h)

Has-without : {Y : Type 0} (ys : List Y) (y : Y) (h : Has ys y) (z : Y) → Has ys z → (y ≡ z) ⊎ Has (without ys y h) z
Has-without [] y h z g = elim h [ ]
Has-without (x ∷ ys) y (inl e) z (inl d) = inl (sym e ∙ d)
Has-without (x ∷ ys) y (inl e) z (inr g) = inr g
Has-without (x ∷ ys) y (inr h) z (inl d) = inr (inl d)
Has-without (x ∷ ys) y (inr h) z (inr g) = elim (Has-without ys y h z g) [ inl e ↦ inl e | inr f ↦ inr (inr f) ]

-- each of xs has one of ys, no two of xs can have the same, and ys are no more: so each of ys has one of xs
abbrev Apart : {X Y : Type 0} → (X → Y → Type 0) → List X → Type 0
Apart R [] = Unit {0}
Apart R (x ∷ xs) = ((x' : _) → Has xs x' → (y : _) → R x y → R x' y → ⊥) × Apart R xs

pigeonholes : {X Y : Type 0} (R : X → Y → Type 0) (xs : List X) (ys : List Y) → Apart R xs
    → ((x : X) → Has xs x → (y : Y) × Has ys y × R x y) → length ys ≤ length xs
    → (y : Y) → Has ys y → (x : X) × Has xs x × R x y
pigeonholes R [] [] apart each le y h = elim h [ ]
pigeonholes R [] (z ∷ ys) apart each le y h = let f : ⊥ = omega (arith, le) in elim f [ ]
pigeonholes {X = X} {Y = Y} R (x ∷ xs) ys apart each le y h =
    let a = each x (inl refl) in
    let y0 = a.0 in
    let h0 : Has ys y0 = a.1 in
    let rest = without ys y0 h0 in
    let n : length rest ≤ length xs = omega (arith, le, length-without ys y0 h0) in
    let each' : (x' : X) → Has xs x' → (z : Y) × Has rest z × R x' z = λ x' h'.
    let b = each x' (inr h') in
    elim (Has-without ys y0 h0 b.0 b.1) [
      | inl e ↦ elim (apart.0 x' h' b.0 (subst (λ z. R x z) e a.2) b.2) [ ]
      | inr g ↦ (b.0, g, b.2)
    ] in
    elim (Has-without ys y0 h0 y h) [
      | inl e ↦ (x, inl refl, subst (λ z. R x z) e a.2)
      | inr g ↦ let c = pigeonholes R xs rest apart.1 each' n y g in (c.0, inr c.1, c.2)
    ]

-- what is covered stays so at a greater cost
pub covered_up : (k : ℕ) (xs : List Entry) (a b : Entry) → AtMost a b → a.edges ≡ b.edges → Covered k xs a → Covered k xs b
covered_up k xs a b le e (Listed x h d c) = let n = at_most_same_walk a b le e in Listed x h (d ∙ e) (omega (arith, c, n))
covered_up k xs a b le e (Past n all) = Past n (λ x h. before_at_most x a b (all x h) le)

-- all extensions of a full list of distinct walks are covered: so is what extends an entry after all of them
abbrev Extends : ℕ → List ℕ → Entry → Entry → Type 0
Extends c w x y = (y.edges ≡ x.edges ++ w) × (y.cost ≤ x.cost + c)

apart_from_distinct : (c : ℕ) (w : List ℕ) (xs : List Entry) → Distinct xs → Apart (Extends c w) xs
apart_from_distinct c w [] d = tt
apart_from_distinct c w (x ∷ xs) d =
    (λ x' h y r r'. d.0 x' h (append_cancel_right x.edges x'.edges w (sym r.0 ∙ r'.0)), apart_from_distinct c w xs d.1)

-- at least as many
pigeon_count : {X Y : Type 0} (R : X → Y → Type 0) (xs : List X) (ys : List Y) → Apart R xs
    → ((x : X) → Has xs x → (y : Y) × Has ys y × R x y) → length xs ≤ length ys
pigeon_count R [] ys apart each = omega arith
pigeon_count {X = X} {Y = Y} R (x ∷ xs) ys apart each =
    let a = each x (inl refl) in
    let y0 = a.0 in
    let h0 : Has ys y0 = a.1 in
    let rest = without ys y0 h0 in
    let each' : (x' : X) → Has xs x' → (z : Y) × Has rest z × R x' z = λ x' h'.
    let b = each x' (inr h') in
    elim (Has-without ys y0 h0 b.0 b.1) [
      | inl e ↦ elim (apart.0 x' h' b.0 (subst (λ z. R x z) e a.2) b.2) [ ]
      | inr g ↦ (b.0, g, b.2)
    ] in
    let n : length xs ≤ length rest = pigeon_count R xs rest apart.1 each' in
    omega (arith, n, length-without ys y0 h0)

-- each is listed, or one is past a full list
data EachOr (k c : ℕ) (w : List ℕ) (xs ys : List Entry) : Type 0 where
  AllListed : ((x : Entry) → Has xs x → (y : Entry) × Has ys y × Extends c w x y) → EachOr k c w xs ys
  OnePast : (x : Entry) → Has xs x → k ≤ length ys → ((y : Entry) → Has ys y → Before y (extend x c w)) → EachOr k c w xs ys

each_or : (k c : ℕ) (w : List ℕ) (xs ys : List Entry) → ((x : Entry) → Has xs x → Covered k ys (extend x c w)) → EachOr k c w xs ys
each_or k c w [] ys all = AllListed (λ x h. elim h [ ])
each_or k c w (x ∷ xs) ys all = elim (all x (inl refl)) [
  | Past n b ↦ OnePast x (inl refl) n b
  | Listed y h e n ↦ elim (each_or k c w xs ys (λ z g. all z (inr g))) [
    | OnePast z g m b ↦ OnePast z (inr g) m b
    | AllListed each ↦ AllListed (λ z g. elim g [
      | inl d ↦ (y, h, subst (λ v. Extends c w v y) d (e, n))
      | inr i ↦ each z i
    ])
  ]
]

-- THE KEY LEMMA: the first k walks to a pair need only the first k walks to the pairs before it
pub covered_step : (k c : ℕ) (w : List ℕ) (xs ys : List Entry) (e : Entry) → Distinct xs → length ys ≤ k
    → ((x : Entry) → Has xs x → Covered k ys (extend x c w)) → Covered k xs e → Covered k ys (extend e c w)
covered_step k c w xs ys e dist few all (Listed x h d n) =
    let same : x.edges ++ w ≡ e.edges ++ w = ap (λ v. v ++ w) d in
    let le : x.cost + c ≤ e.cost + c = omega (arith, n) in
    covered_up k ys (extend x c w) (extend e c w) (same_walk_at_most (extend x c w) (extend e c w) same le) same (all x h)
covered_step k c w xs ys e dist few all (Past n before) = elim (each_or k c w xs ys all) [
  | OnePast x h m b ↦ Past m (λ y g. before_trans y (extend x c w) (extend e c w) (b y g) (before_extend x e c w (before x h)))
  | AllListed each ↦
      let apart = apart_from_distinct c w xs dist in
      let count : length xs ≤ length ys = pigeon_count (Extends c w) xs ys apart each in
      Past (omega (arith, n, count)) (λ y g.
      let a = pigeonholes (Extends c w) xs ys apart each (omega (arith, few, n)) y g in
      at_most_before y (extend a.0 c w) (extend e c w) (same_walk_at_most y (extend a.0 c w) a.2.0 a.2.1) (before_extend a.0 e c w (before a.0 a.1)))
]

distinct_one : (xs : List Entry) (x y : Entry) → Distinct xs → Has xs x → Has xs y → x.edges ≡ y.edges → x ≡ y
distinct_one [] x y d h g e = elim h [ ]
distinct_one (z ∷ xs) x y d (inl h) (inl g) e = sym h ∙ g
distinct_one (z ∷ xs) x y d (inl h) (inr g) e = elim (d.0 y g (ap (λ (v : Entry). v.edges) h ∙ e)) [ ]
distinct_one (z ∷ xs) x y d (inr h) (inl g) e = elim (d.0 x h (ap (λ (v : Entry). v.edges) g ∙ sym e)) [ ]
distinct_one (z ∷ xs) x y d (inr h) (inr g) e = distinct_one xs x y d.1 h g e

-- entries that rise, are reached and cover what is reached are the first k
pub first_of : (k : ℕ) (R : Entry → Type 0) (xs : List Entry) → Distinct xs → length xs ≤ k → Rises xs → ((x : Entry) → Has xs x → R x) → ((e : Entry) → R e → Covered k xs e) → IsFirstK k R xs
first_of k R xs dist few asc sound covered = record {
  ascending = asc;
  members = λ x h. (
    sound x h,
    λ c r. elim (covered (entry c x.edges) r) [
      | Listed y g d n ↦ let same : x.cost ≡ y.cost = ap (λ (v : Entry). v.cost) (distinct_one xs x y dist h g (sym d)) in omega (arith, same, n)
      | Past n b ↦ let l = before_same_walk x (entry c x.edges) (b x h) refl in omega (arith, l)
    ],
  );
  at_most = few;
  covers = covered;
}

module _ (P : Type 0) (passages : P → List (Passage P)) (source : P) (k : ℕ) (at : P → List Entry) where
  abbrev pub IsClosed : Type 0
  IsClosed = (p : P) (x : Entry) → Has (at p) x → (m : Passage P) → Has (passages p) m → Covered k (at m.to) (extend x m.cost m.edges)

  pub run_covered : ((p : P) → Distinct (at p)) → ((p : P) → length (at p) ≤ k) → IsClosed
      → (run : List (Passage P)) (p q : P) (e f : Entry) → Covered k (at p) e → Goes passages p e run q f → Covered k (at q) f
  run_covered dist few closed [] p q e f c g = subst (λ v. Covered k (at q) v) g.1 (subst (λ v. Covered k (at v) e) g.0 c)
  run_covered dist few closed (m ∷ run) p q e f c g =
      run_covered dist few closed run m.to q (extend e m.cost m.edges) f
      (covered_step k m.cost m.edges (at p) (at m.to) e (dist p) (few m.to) (λ x h. closed p x h m g.0) c) g.1

  pub first_k : ((p : P) → Distinct (at p)) → ((p : P) → length (at p) ≤ k) → IsClosed → Covered k (at source) (entry 0 [])
      → ((p : P) → Rises (at p)) → ((p : P) (x : Entry) → Has (at p) x → Reach passages source p x)
      → (q : P) → IsFirstK k (Reach passages source q) (at q)
  first_k dist few closed begun asc sound q =
      first_of k (Reach passages source q) (at q) (dist q) (few q) (asc q) (sound q) (λ e r. run_covered dist few closed r.0 source q (entry 0 []) e begun r.1)
