-- The settling loop: settled lists at each pair, and what is pending; the invariant, its three steps and its end.
use Rattle.std.proofs.Common.{◌≡◌, ℕ, ◌+◌, ◌<◌, ◌≤◌, List, [], ◌∷◌, ◌++◌, length, refl, sym, ap, ◌∙◌, subst, arith, inl, inr, ◌⊎◌, length-append}
use Rattle.gc_search.specs.Entries.{Entry, entry, Before, AtMost, Strictly, Same, extend}
use Rattle.gc_search.specs.Passages.{Has, Passage, IsOnward, IsCounted, Goes, Reach, IsFirstK, Rises, Covered, Listed, Past}
use Rattle.gc_search.proofs.First.{Distinct, covered_up, covered_step, first_of, first_k}
use Rattle.gc_search.proofs.Order.{before_at_most, before_same_walk, before_extend, same_walk_at_most, at_most_same_walk, at_most_apart, at_most_trans, at_most_extend}

pub Has_front : {X : Type 0} (xs ys : List X) (x : X) → Has xs x → Has (xs ++ ys) x
Has_front [] ys x h = elim h [ ]
Has_front (z ∷ xs) ys x (inl e) = inl e
Has_front (z ∷ xs) ys x (inr h) = inr (Has_front xs ys x h)

pub Has_back : {X : Type 0} (xs : List X) (x : X) → Has (xs ++ x ∷ []) x
Has_back [] x = inl refl
Has_back (z ∷ xs) x = inr (Has_back xs x)

pub Has_pushed : {X : Type 0} (xs : List X) (y x : X) → Has (xs ++ y ∷ []) x → Has xs x ⊎ (y ≡ x)
Has_pushed [] y x (inl e) = inr e
Has_pushed [] y x (inr h) = elim h [ ]
Has_pushed (z ∷ xs) y x (inl e) = inl (inl e)
Has_pushed (z ∷ xs) y x (inr h) = elim (Has_pushed xs y x h) [ inl g ↦ inl (inr g) | inr e ↦ inr e ]

ascends_push : (xs : List Entry) (e : Entry) → Rises xs → ((x : Entry) → Has xs x → Before x e) → Rises (xs ++ e ∷ [])
ascends_push [] e a b = (λ y h. elim h [ ], tt)
ascends_push (x ∷ xs) e a b = (
  λ y h. elim (Has_pushed xs e y h) [ inl g ↦ a.0 y g | inr d ↦ subst (λ v. Before x v) d (b x (inl refl)) ],
  ascends_push xs e a.1 (λ y g. b y (inr g)),
)

distinct_push : (xs : List Entry) (e : Entry) → Distinct xs → ((x : Entry) → Has xs x → x.edges ≡ e.edges → ⊥) → Distinct (xs ++ e ∷ [])
distinct_push [] e a b = (λ y h. elim h [ ], tt)
distinct_push (x ∷ xs) e a b = (
  λ y h s. elim (Has_pushed xs e y h) [ inl g ↦ a.0 y g s | inr d ↦ b x (inl refl) (s ∙ sym (ap (λ (v : Entry). v.edges) d)) ],
  distinct_push xs e a.1 (λ y g. b y (inr g)),
)

goes_push : {P : Type 0} (passages : P → List (Passage P)) (run : List (Passage P)) (p q : P) (e f : Entry) (m : Passage P)
    → Goes passages p e run q f → Has (passages q) m → Goes passages p e (run ++ m ∷ []) m.to (extend f m.cost m.edges)
goes_push passages [] p q e f m g h = (
  subst (λ v. Has (passages v) m) (sym g.0) h,
  (refl, ap (λ v. extend v m.cost m.edges) g.1),
)
goes_push passages (n ∷ run) p q e f m g h = (g.0, goes_push passages run n.to q (extend e n.cost n.edges) f m g.1 h)

module _ (P : Type 0) (passages : P → List (Passage P)) (source : P) (k : ℕ) where
  abbrev pub Table : Type 0
  Table = P → List Entry

  abbrev pub Pending : Type 1
  Pending = P → Entry → Type 0

  -- covered by what is settled, or pending
  abbrev pub IsDue : (P → List Entry) → (P → Entry → Type 0) → P → Entry → Type 0
  IsDue at pending p e = Covered k (at p) e ⊎ pending p e

  pub record Inv (at : P → List Entry) (pending : P → Entry → Type 0) : Type 0 where
    pub sound : (p : P) (x : Entry) → Has (at p) x → Reach passages source p x
    pub pending_sound : (p : P) (x : Entry) → pending p x → Reach passages source p x
    pub few : (p : P) → length (at p) ≤ k
    pub ascends : (p : P) → Rises (at p)
    pub distinct : (p : P) → Distinct (at p)
    pub ordered : (p q : P) (x e : Entry) → Has (at p) x → pending q e → AtMost x e
    pub begun : IsDue at pending source (entry 0 [])
    pub closed : (p : P) (x : Entry) → Has (at p) x → (m : Passage P) → Has (passages p) m → IsDue at pending m.to (extend x m.cost m.edges)

  -- the start: nothing settled, the source with the empty walk pending
  pub inv_start : (pending : P → Entry → Type 0) → pending source (entry 0 [])
      → ((p : P) (e : Entry) → pending p e → (p ≡ source) × (e ≡ entry 0 [])) → Inv (λ p. []) pending
  inv_start pending h only = record {
    sound = λ p x g. elim g [ ];
    pending_sound = λ p x g. let o = only p x g in ([], (sym o.0, sym o.1));
    few = λ p. omega arith;
    ascends = λ p. tt;
    distinct = λ p. tt;
    ordered = λ p q x e g d. elim g [ ];
    begun = inr h;
    closed = λ p x g m i. elim g [ ];
  }

  -- the end: nothing pending
  pub inv_end : (at : P → List Entry) (pending : P → Entry → Type 0) → Inv at pending → ((p : P) (e : Entry) → pending p e → ⊥)
      → (q : P) → IsFirstK k (Reach passages source q) (at q)
  inv_end at pending inv none q =
      let now : (p : P) (e : Entry) → IsDue at pending p e → Covered k (at p) e = λ p e d. elim d [ inl c ↦ c | inr h ↦ elim (none p e h) [ ] ] in
      first_k P passages source k at inv.distinct inv.few (λ p x h m g. now m.to (extend x m.cost m.edges) (inv.closed p x h m g)) (now source (entry 0 []) inv.begun) inv.ascends inv.sound q

  -- a pending entry whose walk is settled there
  pub seen_covered : (at : P → List Entry) (pending : P → Entry → Type 0) → Inv at pending → (q : P) (e : Entry) → pending q e
      → (x : Entry) → Has (at q) x → x.edges ≡ e.edges → Covered k (at q) e
  seen_covered at pending inv q e h x g s = Listed x g s (at_most_same_walk x e (inv.ordered q q x e g h) s)

  -- what comes behind k others, or is one of them
  full_or : (xs : List Entry) (e : Entry) → ((x : Entry) → Has xs x → AtMost x e) → ((x : Entry) → Has xs x → Before x e) ⊎ ((x : Entry) × Has xs x × (x ≡ e))
  full_or [] e all = inl (λ x h. elim h [ ])
  full_or (y ∷ xs) e all = elim (all y (inl refl)) [
    | Same same ↦ inr (y, inl refl, same)
    | Strictly before ↦ elim (full_or xs e (λ x h. all x (inr h))) [
      | inl rest ↦ inl (λ x h. elim h [ inl d ↦ subst (λ v. Before v e) d before | inr g ↦ rest x g ])
      | inr one ↦ inr (one.0, inr one.1, one.2)
    ]
  ]

  pub full_covered : (xs : List Entry) (e : Entry) → ((x : Entry) → Has xs x → AtMost x e) → k ≤ length xs → Covered k xs e
  full_covered xs e all full = elim (full_or xs e all) [
    | inl before ↦ Past full before
    | inr one ↦
        let cost : (one.0).cost ≡ e.cost = ap (λ (v : Entry). v.cost) one.2 in
        Listed one.0 one.1 (ap (λ (v : Entry). v.edges) one.2) (omega (arith, cost))
  ]

  -- the same is pending, but some of what is covered
  pub inv_less : (at : P → List Entry) (pending pending' : P → Entry → Type 0) → Inv at pending
      → ((p : P) (x : Entry) → pending p x → pending' p x ⊎ Covered k (at p) x)
      → ((p : P) (x : Entry) → pending' p x → pending p x) → Inv at pending'
  inv_less at pending pending' inv there back =
      let due : (p : P) (x : Entry) → IsDue at pending p x → IsDue at pending' p x = λ p x d. elim d [
        | inl c ↦ inl c
        | inr h ↦ elim (there p x h) [ inl g ↦ inr g | inr c ↦ inl c ]
      ] in
      record {
        sound = inv.sound;
        pending_sound = λ p x h. inv.pending_sound p x (back p x h);
        few = inv.few;
        ascends = inv.ascends;
        distinct = inv.distinct;
        ordered = λ p q x e g h. inv.ordered p q x e g (back q e h);
        begun = due source (entry 0 []) inv.begun;
        closed = λ p x g m h. due m.to (extend x m.cost m.edges) (inv.closed p x g m h);
      }

  -- what is covered is taken away
  pub inv_drop : (at : P → List Entry) (pending pending' : P → Entry → Type 0) → Inv at pending → (q : P) (e : Entry) → Covered k (at q) e
      → ((p : P) (x : Entry) → pending' p x → pending p x)
      → ((p : P) (x : Entry) → pending p x → pending' p x ⊎ ((q ≡ p) × (e ≡ x)))
      → Inv at pending'
  inv_drop at pending pending' inv q e c fewer kept =
      let due : (p : P) (x : Entry) → IsDue at pending p x → IsDue at pending' p x = λ p x d. elim d [
        | inl c' ↦ inl c'
        | inr h ↦ elim (kept p x h) [
          | inl h' ↦ inr h'
          | inr s ↦ inl (subst (λ v. Covered k (at p) v) s.1 (subst (λ v. Covered k (at v) e) s.0 c))
        ]
      ] in
      record {
        sound = inv.sound;
        pending_sound = λ p x h. inv.pending_sound p x (fewer p x h);
        few = inv.few;
        ascends = inv.ascends;
        distinct = inv.distinct;
        ordered = λ p r x y g h. inv.ordered p r x y g (fewer r y h);
        begun = due source (entry 0 []) inv.begun;
        closed = λ p x h m g. due m.to (extend x m.cost m.edges) (inv.closed p x h m g);
      }

  -- a least pending entry is settled at its pair, and the extensions by the pair's passages are pending or covered
  pub record Settles (at at' : P → List Entry) (pending pending' : P → Entry → Type 0) (q : P) (e : Entry) : Type 0 where
    pub taken : pending q e
    pub least : (p : P) (x : Entry) → pending p x → AtMost e x
    pub new : (x : Entry) → Has (at q) x → x.edges ≡ e.edges → ⊥
    pub room : length (at q) < k
    pub pushed : at' q ≡ at q ++ e ∷ []
    pub others : (p : P) → (at' p ≡ at p) ⊎ (q ≡ p)
    pub kept : (p : P) (x : Entry) → pending p x → pending' p x ⊎ ((q ≡ p) × (e ≡ x))
    pub from : (p : P) (x : Entry) → pending' p x → pending p x ⊎ ((m : Passage P) × Has (passages q) m × (m.to ≡ p) × (extend e m.cost m.edges ≡ x))
    pub onward : (m : Passage P) → Has (passages q) m → IsDue at' pending' m.to (extend e m.cost m.edges)

  pub inv_settle : ((p : P) (m : Passage P) → Has (passages p) m → IsOnward m)
      → (at at' : P → List Entry) (pending pending' : P → Entry → Type 0) (q : P) (e : Entry)
      → Inv at pending → Settles at at' pending pending' q e → Inv at' pending'
  inv_settle costs at at' pending pending' q e inv s =
      -- what is at each pair now
      let each : (p : P) → (at' p ≡ at p) ⊎ ((q ≡ p) × (at' p ≡ at p ++ e ∷ [])) = λ p. elim (s.others p) [
        | inl d ↦ inl d
        | inr d ↦ inr (d, subst (λ v. at' v ≡ at v ++ e ∷ []) d s.pushed)
      ] in
      let was : (p : P) (x : Entry) → Has (at' p) x → Has (at p) x ⊎ ((q ≡ p) × (e ≡ x)) = λ p x h. elim (each p) [
        | inl d ↦ inl (subst (λ v. Has v x) d h)
        | inr d ↦ elim (Has_pushed (at p) e x (subst (λ v. Has v x) d.1 h)) [ inl g ↦ inl g | inr f ↦ inr (d.0, f) ]
      ] in
      let stays : (p : P) (x : Entry) → Has (at p) x → Has (at' p) x = λ p x h. elim (each p) [
        | inl d ↦ subst (λ v. Has v x) (sym d) h
        | inr d ↦ subst (λ v. Has v x) (sym d.1) (Has_front (at p) (e ∷ []) x h)
      ] in
      let covered : (p : P) (x : Entry) → Covered k (at p) x → Covered k (at' p) x = λ p x c. elim c [
        | Listed y h d n ↦ Listed y (stays p y h) d n
        | Past n b ↦ elim (each p) [
          | inl d ↦ subst (λ v. Covered k v x) (sym d) (Past n b)
          | inr d ↦ let l : length (at q) ≡ length (at p) = ap (λ v. length (at v)) d.0 in let room : length (at q) < k = s.room in let f : ⊥ = omega (arith, l, n, room) in elim f [ ]
        ]
      ] in
      let here : Has (at' q) e = subst (λ v. Has v e) (sym s.pushed) (Has_back (at q) e) in
      let due : (p : P) (x : Entry) → IsDue at pending p x → IsDue at' pending' p x = λ p x d. elim d [
        | inl c ↦ inl (covered p x c)
        | inr h ↦ elim (s.kept p x h) [
          | inl h' ↦ inr h'
          | inr t ↦ inl (Listed e (subst (λ v. Has (at' v) e) t.0 here) (ap (λ (v : Entry). v.edges) t.1) (let n : e.cost ≡ x.cost = ap (λ (v : Entry). v.cost) t.1 in omega (arith, n)))
        ]
      ] in
      let reach : Reach passages source q e = inv.pending_sound q e s.taken in
      let before : (x : Entry) → Has (at q) x → Before x e = λ x h. at_most_apart x e (inv.ordered q q x e h s.taken) (s.new x h) in
      -- the least of what was pending is at most what is pending now
      let bound : (p : P) (x : Entry) → pending' p x → AtMost e x = λ p x h. elim (s.from p x h) [
        | inl g ↦ s.least p x g
        | inr f ↦
            let on = costs q f.0 f.1 in
            subst (AtMost e) f.3 (at_most_extend e (f.0).cost (f.0).edges on)
      ] in
      record {
        sound = λ p x h. elim (was p x h) [
          | inl g ↦ inv.sound p x g
          | inr t ↦ subst (λ v. Reach passages source p v) t.1 (subst (λ v. Reach passages source v e) t.0 reach)
        ];
        pending_sound = λ p x h. elim (s.from p x h) [
          | inl g ↦ inv.pending_sound p x g
          | inr f ↦
              let r : Reach passages source (f.0).to (extend e (f.0).cost (f.0).edges) = (reach.0 ++ f.0 ∷ [], goes_push passages reach.0 source q (entry 0 []) e f.0 reach.1 f.1) in
              subst (λ v. Reach passages source p v) f.3 (subst (λ v. Reach passages source v (extend e (f.0).cost (f.0).edges)) f.2 r)
        ];
        few = λ p. elim (each p) [
          | inl d ↦ subst (λ v. length v ≤ k) (sym d) (inv.few p)
          | inr d ↦
              let l : length (at q) ≡ length (at p) = ap (λ v. length (at v)) d.0 in
              let n : length (at' p) ≡ length (at p ++ e ∷ []) = ap length d.1 in
              let room : length (at q) < k = s.room in
              omega (arith, l, n, room, length-append (at p) (e ∷ []))
        ];
        ascends = λ p. elim (each p) [
          | inl d ↦ subst Rises (sym d) (inv.ascends p)
          | inr d ↦ subst Rises (sym d.1) (ascends_push (at p) e (inv.ascends p) (λ x h. before x (subst (λ v. Has (at v) x) (sym d.0) h)))
        ];
        distinct = λ p. elim (each p) [
          | inl d ↦ subst Distinct (sym d) (inv.distinct p)
          | inr d ↦ subst Distinct (sym d.1) (distinct_push (at p) e (inv.distinct p) (λ x h. s.new x (subst (λ v. Has (at v) x) (sym d.0) h)))
        ];
        ordered = λ p r x y h g. elim (was p x h) [
          | inl i ↦ at_most_trans x e y (inv.ordered p q x e i s.taken) (bound r y g)
          | inr t ↦ subst (λ v. AtMost v y) t.1 (bound r y g)
        ];
        begun = due source (entry 0 []) inv.begun;
        closed = λ p x h m g. elim (was p x h) [
          | inl i ↦ due m.to (extend x m.cost m.edges) (inv.closed p x i m g)
          | inr t ↦ subst (λ v. IsDue at' pending' m.to (extend v m.cost m.edges)) t.1 (s.onward m (subst (λ v. Has (passages v) m) (sym t.0) g))
        ];
      }

-- where all passages cost 1 for each edge, so do walks
goes_counted : {P : Type 0} (passages : P → List (Passage P)) → ((p : P) (m : Passage P) → Has (passages p) m → IsCounted m)
    → (run : List (Passage P)) (p q : P) (e f : Entry) → Goes passages p e run q f → e.cost ≡ length e.edges → f.cost ≡ length f.edges
goes_counted passages each [] p q e f g c = subst (λ v. v.cost ≡ length v.edges) g.1 c
goes_counted passages each (m ∷ run) p q e f g c =
    let one : m.cost ≡ length m.edges = each p m g.0 in
    goes_counted passages each run m.to q (extend e m.cost m.edges) f g.1 (omega (arith, c, one, length-append e.edges m.edges))

-- the last of what rises is behind the others
rises_last : (xs : List Entry) (y x : Entry) → Rises (xs ++ y ∷ []) → Has (xs ++ y ∷ []) x → Before x y ⊎ (y ≡ x)
rises_last [] y x r (inl e) = inr e
rises_last [] y x r (inr h) = elim h [ ]
rises_last (z ∷ xs) y x r (inl e) = inl (subst (λ v. Before v y) e (r.0 y (Has_back xs y)))
rises_last (z ∷ xs) y x r (inr h) = rises_last xs y x r.1 h

module _ (P : Type 0) (passages : P → List (Passage P)) (source : P) (k : ℕ) (each : (p : P) (m : Passage P) → Has (passages p) m → IsCounted m) where
  -- walks with one list of edges cost the same
  pub same_cost : (at : P → List Entry) (pending : P → Entry → Type 0) → Inv P passages source k at pending → (q : P) (x e : Entry) → Has (at q) x → pending q e → x.edges ≡ e.edges → x.cost ≡ e.cost
  same_cost at pending inv q x e g h same =
      let mine = inv.sound q x g in
      let theirs = inv.pending_sound q e h in
      let a : x.cost ≡ length x.edges = goes_counted passages each mine.0 source q (entry 0 []) x mine.1 refl in
      let b : e.cost ≡ length e.edges = goes_counted passages each theirs.0 source q (entry 0 []) e theirs.1 refl in
      omega (arith, a, b, ap length same)

  -- of walks whose edges tell their costs, one that is pending can have the edges of the last alone
  pub last_alone : (at : P → List Entry) (pending : P → Entry → Type 0) → Inv P passages source k at pending → (q : P) (e : Entry) → pending q e
      → (xs : List Entry) (y : Entry) → at q ≡ xs ++ y ∷ [] → (y.edges ≡ e.edges → ⊥) → (x : Entry) → Has (at q) x → x.edges ≡ e.edges → ⊥
  last_alone at pending inv q e h xs y is other x g same =
      let cost = same_cost at pending inv q x e g h same in
      let last : Has (at q) y = subst (λ v. Has v y) (sym is) (Has_back xs y) in
      elim (rises_last xs y x (subst Rises is (inv.ascends q)) (subst (λ v. Has v x) is g)) [
        | inl before ↦
            let between : AtMost y e = inv.ordered q q y e last h in
            let less = before_same_walk x e (before_at_most x y e before between) same in
            omega (arith, less, cost)
        | inr d ↦ other (ap (λ (v : Entry). v.edges) d ∙ same)
      ]

-- the end at one place: what leads on from what is settled is covered, or something that is pending comes no later
module _ (P : Type 0) (passages : P → List (Passage P)) (source : P) (k : ℕ) (costs : (p : P) (m : Passage P) → Has (passages p) m → IsOnward m)
    (at : P → List Entry) (pending : P → Entry → Type 0) (inv : Inv P passages source k at pending) where
  abbrev Earlier : P → Entry → Type 0
  Earlier p e = (r : P) × (x : Entry) × pending r x × AtMost x e

  abbrev IsMet : P → Entry → Type 0
  IsMet p e = Covered k (at p) e ⊎ Earlier p e

  -- of extensions all are covered, or one is pending
  all_or : (m : Passage P) (xs : List Entry) → ((x : Entry) → Has xs x → IsDue P passages source k at pending m.to (extend x m.cost m.edges))
      → ((x : Entry) → Has xs x → Covered k (at m.to) (extend x m.cost m.edges)) ⊎ ((x : Entry) × Has xs x × pending m.to (extend x m.cost m.edges))
  all_or m [] due = inl (λ x h. elim h [ ])
  all_or m (y ∷ xs) due = elim (due y (inl refl)) [
    | inr h ↦ inr (y, inl refl, h)
    | inl c ↦ elim (all_or m xs (λ x h. due x (inr h))) [
      | inr one ↦ inr (one.0, inr one.1, one.2)
      | inl all ↦ inl (λ x h. elim h [ inl d ↦ subst (λ v. Covered k (at m.to) (extend v m.cost m.edges)) d c | inr g ↦ all x g ])
    ]
  ]

  met_step : (p : P) (e : Entry) (m : Passage P) → Has (passages p) m → IsMet p e → IsMet m.to (extend e m.cost m.edges)
  met_step p e m h (inr early) =
      let on = costs p m h in
      inr (
        early.0,
        early.1,
        early.2,
        at_most_trans early.1 e (extend e m.cost m.edges) early.3 (at_most_extend e m.cost m.edges on),
      )
  met_step p e m h (inl (Listed x g d n)) =
      let same : x.edges ++ m.edges ≡ e.edges ++ m.edges = ap (λ v. v ++ m.edges) d in
      let le : x.cost + m.cost ≤ e.cost + m.cost = omega (arith, n) in
      let most = same_walk_at_most (extend x m.cost m.edges) (extend e m.cost m.edges) same le in
      elim (inv.closed p x g m h) [
        | inl c ↦ inl (covered_up k (at m.to) (extend x m.cost m.edges) (extend e m.cost m.edges) most same c)
        | inr i ↦ inr (m.to, extend x m.cost m.edges, i, most)
      ]
  met_step p e m h (inl (Past n before)) = elim (all_or m (at p) (λ x g. inv.closed p x g m h)) [
    | inl all ↦ inl (covered_step k m.cost m.edges (at p) (at m.to) e (inv.distinct p) (inv.few m.to) all (Past n before))
    | inr one ↦ inr (
      m.to,
      extend one.0 m.cost m.edges,
      one.2,
      Strictly (before_extend one.0 e m.cost m.edges (before one.0 one.1)),
    )
  ]

  met_run : (run : List (Passage P)) (p q : P) (e f : Entry) → IsMet p e → Goes passages p e run q f → IsMet q f
  met_run [] p q e f met g = subst (λ v. IsMet q v) g.1 (subst (λ v. IsMet v e) g.0 met)
  met_run (m ∷ run) p q e f met g = met_run run m.to q (extend e m.cost m.edges) f (met_step p e m g.0 met) g.1

  met_start : IsMet source (entry 0 [])
  met_start = elim inv.begun [ inl c ↦ inl c | inr h ↦ inr (source, entry 0 [], h, Same refl) ]

  -- a place that is full has the first k
  pub inv_full : (q : P) → k ≤ length (at q) → IsFirstK k (Reach passages source q) (at q)
  inv_full q full =
      first_of k (Reach passages source q) (at q) (inv.distinct q) (inv.few q) (inv.ascends q) (inv.sound q)
      (λ e r. elim (met_run r.0 source q (entry 0 []) e met_start r.1) [
        | inl c ↦ c
        | inr early ↦ full_covered P passages source k (at q) e
            (λ y g. at_most_trans y early.1 e (inv.ordered q early.0 y early.1 g early.2) early.3) full
      ])
