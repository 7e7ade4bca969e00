-- What is settled, in the order in which it was, and what is pending.
use Rattle.std.proofs.Common.{◌≡◌, ℕ, ◌+◌, ◌≤◌, ◌==◌, ◌&&◌, nat_lt, Bool, true, false, cond, List, [], ◌∷◌, ◌++◌, map, length, refl, sym, ap, ap₂, subst, ◌∙◌, arith, inl, inr, ◌⊎◌}
use Rattle.std.proofs.lemmas.Bool.{eq-eqb}
use Rattle.std.proofs.lemmas.Bool.Decides.{nat_tests}
use Rattle.std.specs.List.{filter}
use Rattle.std.proofs.lemmas.List.{append-nil, length-map, map-append}
use Rattle.std.proofs.lemmas.List.Elements.{filter-append}
use Rattle.gc_base.specs.declared.walk.Step.{Step}
use Rattle.gc_prod.specs.declared.moves.Move.{Move}
use Rattle.gc_prod.specs.declared.moves.Pair.{Pair}
use Rattle.gc_prod.specs.Leading.{pair, target_of, steps_of}
use Rattle.gc_prod.specs.Products.{Setting, moves}
use Rattle.gc_search.specs.Arrivals.{FoundWalk, edges_along, entry_of, same_pair, arrivals_at, settled_at, passage, passages, stays_at, extended, extensions, open_moves, TakesLeast, IsSeen, IsNew}
use Rattle.gc_search.specs.Entries.{Entry, entry, AtMost, extend}
use Rattle.gc_search.specs.Passages.{Has, Passage, IsOnward, Reach, IsFirstK, Covered}
use Rattle.gc_search.proofs.Order.{at_most_trans, at_most_extend}
use Rattle.gc_search.proofs.Settle.{Has_front, Inv, IsDue, inv_start, inv_end, inv_full, inv_less, seen_covered, full_covered, inv_drop, inv_settle}

eqb_same : (a b : ℕ) → (a == b) ≡ true → a ≡ b
eqb_same a b h = grind (arith, nat_tests)

and_both : (a b : Bool) → (a && b) ≡ true → (a ≡ true) × (b ≡ true)
and_both true b h = (refl, h)
and_both false b h = cc

pub same_is : (p q : Pair) → same_pair p q ≡ true → p ≡ q
same_is p q h =
    let both = and_both _ _ h in
    let node = eqb_same p.node q.node both.0 in
    let state = eqb_same p.state q.state both.1 in
    λ j. record { node = node j; state = state j }

pub same_itself : (p : Pair) → same_pair p p ≡ true
same_itself p = ap₂ (λ a b. a && b) (eq-eqb p.node p.node refl) (eq-eqb p.state p.state refl)

pub arrivals_at-append : (cs ds : List FoundWalk) (q : Pair) → arrivals_at (cs ++ ds) q ≡ arrivals_at cs q ++ arrivals_at ds q
arrivals_at-append cs ds q = filter-append (λ (a : FoundWalk). same_pair a.at q) cs ds

pub settled_at-append : (cs ds : List FoundWalk) (q : Pair) → settled_at (cs ++ ds) q ≡ settled_at cs q ++ settled_at ds q
settled_at-append cs ds q = ap (map entry_of) (arrivals_at-append cs ds q) ∙ map-append entry_of (arrivals_at cs q) (arrivals_at ds q)

pub settled_here : (cs : List FoundWalk) (c : FoundWalk) → settled_at (cs ++ c ∷ []) c.at ≡ settled_at cs c.at ++ entry_of c ∷ []
settled_here cs c = settled_at-append cs (c ∷ []) c.at ∙ ap (λ b. settled_at cs c.at ++ map entry_of (cond b (c ∷ []) [])) (same_itself c.at)

one_at : (b : Bool) (c : FoundWalk) (q : Pair) → same_pair c.at q ≡ b → (settled_at (c ∷ []) q ≡ []) ⊎ (c.at ≡ q)
one_at true c q e = inr (same_is c.at q e)
one_at false c q e = inl (ap (λ b. map entry_of (cond b (c ∷ []) [])) e)

only_at : (b : Bool) (c : FoundWalk) (q : Pair) (y : Entry) → same_pair c.at q ≡ b → Has (map entry_of (cond b (c ∷ []) [])) y → (c.at ≡ q) × (entry_of c ≡ y)
only_at true c q y e (inl d) = (same_is c.at q e, d)
only_at true c q y e (inr h) = elim h [ ]
only_at false c q y e h = elim h [ ]

pub settled_elsewhere : (cs : List FoundWalk) (c : FoundWalk) (q : Pair) → (settled_at (cs ++ c ∷ []) q ≡ settled_at cs q) ⊎ (c.at ≡ q)
settled_elsewhere cs c q = elim (one_at (same_pair c.at q) c q refl) [
  | inl e ↦ inl (settled_at-append cs (c ∷ []) q ∙ ap (λ v. settled_at cs q ++ v) e ∙ append-nil (settled_at cs q))
  | inr d ↦ inr d
]

pub Has_cases : {X : Type 0} (xs ys : List X) (x : X) → Has (xs ++ ys) x → Has xs x ⊎ Has ys x
Has_cases [] ys x h = inr h
Has_cases (z ∷ xs) ys x (inl e) = inl (inl e)
Has_cases (z ∷ xs) ys x (inr h) = elim (Has_cases xs ys x h) [ inl g ↦ inl (inr g) | inr g ↦ inr g ]

pub Has_later : {X : Type 0} (xs ys : List X) (x : X) → Has ys x → Has (xs ++ ys) x
Has_later [] ys x h = h
Has_later (z ∷ xs) ys x h = inr (Has_later xs ys x h)

pub Has_map : {X Y : Type 0} (f : X → Y) (xs : List X) (x : X) → Has xs x → Has (map f xs) (f x)
Has_map f [] x h = elim h [ ]
Has_map f (y ∷ xs) x (inl e) = inl (ap f e)
Has_map f (y ∷ xs) x (inr h) = inr (Has_map f xs x h)

pub Has_from_map : {X Y : Type 0} (f : X → Y) (xs : List X) (y : Y) → Has (map f xs) y → (x : X) × Has xs x × (f x ≡ y)
Has_from_map f [] y h = elim h [ ]
Has_from_map f (x ∷ xs) y (inl e) = (x, inl refl, e)
Has_from_map f (x ∷ xs) y (inr h) = let a = Has_from_map f xs y h in (a.0, inr a.1, a.2)

-- a test picks an item out, or fails
pub filter_or : {X : Type 0} (test : X → Bool) (xs : List X) (x : X) → Has xs x → (test x ≡ false) ⊎ Has (filter test xs) x
filter_or test [] x h = elim h [ ]
filter_or test (y ∷ xs) x (inl e) = subst (λ z. (test z ≡ false) ⊎ Has (filter test (y ∷ xs)) z) e (by (test y) refl)
  where
    by : (b : Bool) → test y ≡ b → (test y ≡ false) ⊎ Has (filter test (y ∷ xs)) y
    by true d = inr (subst (λ c. Has (cond c (y ∷ filter test xs) (filter test xs)) y) (sym d) (inl refl))
    by false d = inl d
filter_or test (y ∷ xs) x (inr h) = elim (filter_or test xs x h) [ inl fails ↦ inl fails | inr g ↦ inr (by (test y) g) ]
  where
    by : (b : Bool) → Has (filter test xs) x → Has (cond b (y ∷ filter test xs) (filter test xs)) x
    by true g = inr g
    by false g = g

-- each of some walks is among those at its pair
pub settled_has : (cs : List FoundWalk) (x : FoundWalk) → Has cs x → Has (settled_at cs x.at) (entry_of x)
settled_has cs x h = elim (filter_or (λ (a : FoundWalk). same_pair a.at x.at) cs x h) [
  | inl other ↦ let f : true ≡ false = sym (same_itself x.at) ∙ other in cc
  | inr g ↦ Has_map entry_of (arrivals_at cs x.at) x g
]

pub Has_filtered : {X : Type 0} (test : X → Bool) (xs : List X) (x : X) → Has (filter test xs) x → Has xs x
Has_filtered test [] x h = elim h [ ]
Has_filtered test (y ∷ xs) x h = by (λ g. Has_filtered test xs x g) (test y) h
  where
    by : (Has (filter test xs) x → Has xs x) → (b : Bool) → Has (cond b (y ∷ filter test xs) (filter test xs)) x → Has (y ∷ xs) x
    by next true (inl e) = inl e
    by next true (inr g) = inr (next g)
    by next false g = inr (next g)

not_less : (a b : ℕ) → nat_lt a b ≡ false → b ≤ a
not_less a b h = grind (arith, nat_tests)

-- an extension is seen by the extension of its entry
pub entry_extended : (setting : Setting) (c : FoundWalk) (m : Move) → entry_of (extended setting c m) ≡ extend (entry_of c) m.cost (edges_along (steps_of setting m))
entry_extended setting c m = ap (λ (w : List ℕ). entry (c.cost + m.cost) w) (map-append (λ (s : Step). s.edge) c.steps (steps_of setting m))

-- an entry is pending at a pair
abbrev pub IsPending : List FoundWalk → Pair → Entry → Type 0
IsPending cs p e = (c : FoundWalk) × Has cs c × (c.at ≡ p) × (entry_of c ≡ e)

module _ (setting : Setting) (source : ℕ) (k : ℕ) where
  abbrev pub State : List FoundWalk → List FoundWalk → Type 0
  State settled pending = Inv Pair (passages setting) (pair source 0) k (settled_at settled) (IsPending pending)

  pub state_start : State [] (stays_at source ∷ [])
  state_start = inv_start Pair (passages setting) (pair source 0) k (IsPending (stays_at source ∷ [])) (stays_at source, inl refl, refl, refl)
      (λ p e h. elim (h.1) [
        | inl d ↦ (sym (ap (λ (v : FoundWalk). v.at) d ∙ h.2), sym (ap entry_of d ∙ h.3))
        | inr g ↦ elim g [ ]
      ])

  -- the same are pending, but some to pairs that are full
  pub state_less : (settled xs ys : List FoundWalk) → ((x : FoundWalk) → Has xs x → Has ys x ⊎ (k ≤ length (arrivals_at settled x.at)))
      → ((x : FoundWalk) → Has ys x → Has xs x) → State settled xs → State settled ys
  state_less settled xs ys there back s =
      inv_less Pair (passages setting) (pair source 0) k (settled_at settled) (IsPending xs) (IsPending ys) s
      (λ p x h. elim (there h.0 h.1) [
        | inl g ↦ inl (h.0, g, h.2, h.3)
        | inr full ↦
            let a = h.0 in
            let many : k ≤ length (settled_at settled a.at) = omega (arith, full, length-map (arrivals_at settled a.at) entry_of) in
            let covered : Covered k (settled_at settled a.at) (entry_of a) =
            full_covered Pair (passages setting) (pair source 0) k (settled_at settled a.at) (entry_of a) (λ y g. s.ordered a.at a.at y (entry_of a) g (a, h.1, refl, refl)) many in
            inr (subst (Covered k (settled_at settled p)) h.3 (subst (λ q. Covered k (settled_at settled q) (entry_of a)) h.2 covered))
      ])
      (λ p x h. (h.0, back h.0 h.1, h.2, h.3))

  pub state_end : (settled : List FoundWalk) → State settled [] → (q : Pair) → IsFirstK k (Reach (passages setting) (pair source 0) q) (settled_at settled q)
  state_end settled s = inv_end Pair (passages setting) (pair source 0) k (settled_at settled) (IsPending []) s (λ p e h. h.1)

  pub state_full_at : ((p : Pair) (m : Passage Pair) → Has (passages setting p) m → IsOnward m) → (settled cs : List FoundWalk) → State settled cs
      → (q : Pair) → k ≤ length (settled_at settled q) → IsFirstK k (Reach (passages setting) (pair source 0) q) (settled_at settled q)
  state_full_at costs settled cs s = inv_full Pair (passages setting) (pair source 0) k costs (settled_at settled) (IsPending cs) s

  module _ (settled cs rest : List FoundWalk) (c : FoundWalk) (s : State settled cs) (t : TakesLeast cs c rest) where
    taken : IsPending cs c.at (entry_of c)
    taken = (c, t.there, refl, refl)

    fewer : (p : Pair) (x : Entry) → IsPending rest p x → IsPending cs p x
    fewer p x h = (h.0, t.from h.0 h.1, h.2, h.3)

    kept : (p : Pair) (x : Entry) → IsPending cs p x → IsPending rest p x ⊎ ((c.at ≡ p) × (entry_of c ≡ x))
    kept p x h = elim (t.kept h.0 h.1) [
      | inl g ↦ inl (h.0, g, h.2, h.3)
      | inr d ↦ inr (ap (λ (v : FoundWalk). v.at) d ∙ h.2, ap entry_of d ∙ h.3)
    ]

    pub state_seen : IsSeen settled c → State settled rest
    state_seen seen =
        inv_drop Pair (passages setting) (pair source 0) k (settled_at settled) (IsPending cs) (IsPending rest) s c.at (entry_of c)
        (seen_covered Pair (passages setting) (pair source 0) k (settled_at settled) (IsPending cs) s c.at (entry_of c) taken seen.0 seen.1 seen.2) fewer kept

    pub state_full : k ≤ length (settled_at settled c.at) → State settled rest
    state_full full =
        inv_drop Pair (passages setting) (pair source 0) k (settled_at settled) (IsPending cs) (IsPending rest) s c.at (entry_of c)
        (full_covered Pair (passages setting) (pair source 0) k (settled_at settled c.at) (entry_of c) (λ x h. s.ordered c.at c.at x (entry_of c) h taken) full) fewer kept

    abbrev all_moves : List Move
    all_moves = moves setting c.at.node c.at.state

    abbrev after : List FoundWalk
    after = settled ++ c ∷ []

    abbrev fresh : List FoundWalk
    fresh = extensions setting c (open_moves after k all_moves)

    module _ (costs : (p : Pair) (m : Passage Pair) → Has (passages setting p) m → IsOnward m) where
      -- an extension is pending, or its pair has k walks that come before it
      onward_by : (m : Move) → Has all_moves m → IsDue Pair (passages setting) (pair source 0) k (settled_at after) (IsPending (rest ++ fresh)) (target_of m) (extend (entry_of c) m.cost (edges_along (steps_of setting m)))
      onward_by m h =
          let x = passage setting m in
          let q = target_of m in
          let e = extend (entry_of c) x.cost x.edges in
          let a = extended setting c m in
          elim (filter_or (λ n. nat_lt (length (arrivals_at after (target_of n))) k) all_moves m h) [
            | inr g ↦ inr (a, Has_later rest fresh a (Has_map (extended setting c) (open_moves after k all_moves) m g), refl, entry_extended setting c m)
            | inl full ↦
                let many : k ≤ length (arrivals_at after q) = not_less (length (arrivals_at after q)) k full in
                let on = costs c.at x (Has_map (passage setting) all_moves m h) in
                let further = at_most_extend (entry_of c) x.cost x.edges on in
                inl (full_covered Pair (passages setting) (pair source 0) k (settled_at after q) e
                (λ y g. elim (Has_cases (settled_at settled q) (settled_at (c ∷ []) q) y (subst (λ l. Has l y) (settled_at-append settled (c ∷ []) q) g)) [
                  | inl h ↦ at_most_trans y (entry_of c) e (s.ordered q c.at y (entry_of c) h taken) further
                  | inr h ↦
                      let one = only_at (same_pair c.at q) c q y refl h in
                      subst (λ v. AtMost v e) one.1 further
                ])
                (omega (arith, many, length-map (arrivals_at after q) entry_of)))
          ]

      onward : (m : Passage Pair) → Has (passages setting c.at) m → IsDue Pair (passages setting) (pair source 0) k (settled_at after) (IsPending (rest ++ fresh)) m.to (extend (entry_of c) m.cost m.edges)
      onward m h =
          let from = Has_from_map (passage setting) all_moves m h in
          subst (λ (v : Passage Pair). IsDue Pair (passages setting) (pair source 0) k (settled_at after) (IsPending (rest ++ fresh)) v.to (extend (entry_of c) v.cost v.edges)) from.2 (onward_by from.0 from.1)

      came : (p : Pair) (x : Entry) → IsPending (rest ++ fresh) p x → IsPending cs p x ⊎ ((m : Passage Pair) × Has (passages setting c.at) m × (m.to ≡ p) × (extend (entry_of c) m.cost m.edges ≡ x))
      came p x h = elim (Has_cases rest fresh h.0 h.1) [
        | inl g ↦ inl (fewer p x (h.0, g, h.2, h.3))
        | inr g ↦
            let from = Has_from_map (extended setting c) (open_moves after k all_moves) h.0 g in
            inr (
              passage setting from.0,
              Has_map (passage setting) all_moves from.0 (Has_filtered (λ n. nat_lt (length (arrivals_at after (target_of n))) k) all_moves from.0 from.1),
              ap (λ (v : FoundWalk). v.at) from.2 ∙ h.2,
              sym (entry_extended setting c from.0) ∙ (ap entry_of from.2 ∙ h.3),
            )
      ]

      pub state_settle : IsNew settled k c → State (settled ++ c ∷ []) (rest ++ fresh)
      state_settle new =
          inv_settle Pair (passages setting) (pair source 0) k costs (settled_at settled) (settled_at (settled ++ c ∷ [])) (IsPending cs) (IsPending (rest ++ fresh)) c.at (entry_of c) s (record {
            taken = taken;
            least = λ p x h. subst (AtMost (entry_of c)) h.3 (t.least h.0 h.1);
            new = λ x h e. new.1 (x, h, e);
            room = new.0;
            pushed = settled_here settled c;
            others = settled_elsewhere settled c;
            kept = λ p x h. elim (kept p x h) [ inl g ↦ inl (g.0, Has_front rest fresh g.0 g.1, g.2, g.3) | inr d ↦ inr d ];
            from = came;
            onward = onward;
          })
