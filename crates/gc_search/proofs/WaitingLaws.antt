-- Taking a least walk out of those that are pending, and putting walks behind it.
use Rattle.std.proofs.Common.{◌≡◌, ℕ, ◌+◌, ◌<◌, List, [], ◌∷◌, ◌++◌, ◌⊎◌, inl, inr, map, length, nat_lt, refl, sym, ap, subst, ◌∙◌, arith, length-append}
use Rattle.std.specs.List.{AllByRecursion}
use Rattle.std.specs.List.Sorted.{IsPermutation}
use Rattle.std.proofs.lemmas.List.{append-nil, length-map, map-append}
use Rattle.std.proofs.lemmas.List.Sorted.{IsPermutation-sym}
use Rattle.gc_prod.specs.declared.moves.Move.{Move}
use Rattle.gc_prod.specs.declared.moves.Pair.{Pair}
use Rattle.gc_prod.specs.Leading.{target_of}
use Rattle.gc_prod.specs.Products.{Setting, moves}
use Rattle.gc_search.specs.Arrivals.{FoundWalk, entry_of, arrivals_at, passage, passages, extended, extensions, open_moves, NoLater}
use Rattle.gc_search.specs.Entries.{Entry, extend, IsMoveCost, Same, Strictly, AtMost, Cheaper, Shorter, Lower}
use Rattle.gc_search.specs.Links.{Link, Walks, IsTold}
use Rattle.gc_search.specs.Passages.{Has, Passage, IsOnward}
use Rattle.gc_search.specs.Waiting.{Queue, links_of, told_by, walks_by, waiting, AllTold, Falls, IsQueue, IsLed, IsFirstTaken, IsBehind}
use Rattle.gc_search.proofs.Bridge.{has_permuted}
use Rattle.gc_search.proofs.Flat.{Has_cases, Has_later, Has_map, Has_from_map, Has_filtered, entry_extended}
use Rattle.gc_search.proofs.LoopLaws.{all_has, all_of_has}
use Rattle.gc_search.proofs.Order.{entry_eq, at_most_trans, at_most_extend}
use Rattle.gc_search.proofs.Settle.{Has_front, Has_back, Has_pushed}

abbrev pub queue : List Link → List Link → Queue
queue front later = record { front = front; later = later }

pub no_later_trans : (a b c : FoundWalk) → NoLater a b → NoLater b c → NoLater a c
no_later_trans a b c h g = at_most_trans (entry_of a) (entry_of b) (entry_of c) h g

pub no_later_itself : (a : FoundWalk) → NoLater a a
no_later_itself a = Same refl

-- the last in front is taken away, or is there
module _ {X : Type 0} (front later : List X) (x : X) where
  pub fewer : (y : X) → Has (front ++ later) y → Has ((front ++ x ∷ []) ++ later) y
  fewer y h = elim (Has_cases front later y h) [
    | inl g ↦ Has_front (front ++ x ∷ []) later y (Has_front front (x ∷ []) y g)
    | inr g ↦ Has_later (front ++ x ∷ []) later y g
  ]

  pub split : (y : X) → Has ((front ++ x ∷ []) ++ later) y → Has (front ++ later) y ⊎ (x ≡ y)
  split y h = elim (Has_cases (front ++ x ∷ []) later y h) [
    | inl g ↦ elim (Has_pushed front x y g) [ inl f ↦ inl (Has_front front later y f) | inr e ↦ inr e ]
    | inr g ↦ inl (Has_later front later y g)
  ]

-- stacks
falls_push : (others xs : List FoundWalk) (a : FoundWalk) → Falls others xs → ((y : FoundWalk) → Has xs y → NoLater a y) → ((y : FoundWalk) → Has others y → NoLater a y)
    → Falls others (xs ++ a ∷ [])
falls_push others [] a f less first = (λ y h. elim h [ ], first, tt)
falls_push others (x ∷ xs) a f less first = (
  λ y h. elim (Has_pushed xs a y h) [ inl g ↦ f.0 y g | inr e ↦ subst (λ v. NoLater v x) e (less x (inl refl)) ],
  f.1,
  falls_push others xs a f.2 (λ y h. less y (inr h)) first,
)

falls_others : (others others' xs : List FoundWalk) → Falls others xs → ((x y : FoundWalk) → Has xs x → Has others' y → NoLater x y) → Falls others' xs
falls_others others others' [] f more = tt
falls_others others others' (x ∷ xs) f more = (f.0, λ y h. more x y (inl refl) h, falls_others others others' xs f.2 (λ a y g h. more a y (inr g) h))

falls_top : (others xs : List FoundWalk) (t : FoundWalk) → Falls others (xs ++ t ∷ []) → (y : FoundWalk) → Has xs y → NoLater t y
falls_top others [] t f y h = elim h [ ]
falls_top others (x ∷ xs) t f y (inl e) = subst (NoLater t) e (f.0 t (Has_back xs t))
falls_top others (x ∷ xs) t f y (inr h) = falls_top others xs t f.2 y h

falls_each : (others xs : List FoundWalk) → Falls others xs → (x y : FoundWalk) → Has xs x → Has others y → NoLater x y
falls_each others [] f x y h g = elim h [ ]
falls_each others (z ∷ xs) f x y (inl e) g = subst (λ v. NoLater v y) e (f.1 y g)
falls_each others (z ∷ xs) f x y (inr h) g = falls_each others xs f.2 x y h g

falls_rest : (others xs : List FoundWalk) (t : FoundWalk) → Falls others (xs ++ t ∷ []) → Falls others xs
falls_rest others [] t f = tt
falls_rest others (x ∷ xs) t f = (λ y h. f.0 y (Has_front xs (t ∷ []) y h), f.1, falls_rest others xs t f.2)

-- a walk that comes no later, but does not cost the same, costs less
dearer : (a b : FoundWalk) → NoLater a b → (b.cost ≡ a.cost → ⊥) → a.cost < b.cost
dearer a b (Strictly (Cheaper l)) other = l
dearer a b (Strictly (Shorter d l)) other = absurd (other (sym d))
dearer a b (Strictly (Lower d n l)) other = absurd (other (sym d))
dearer a b (Same d) other = absurd (other (sym (ap (λ (v : Entry). v.cost) d)))

module _ (tree : Walks) where
  abbrev walk : Link → FoundWalk
  walk l = told_by tree l

  -- the last in front is taken
  module _ (front later : List Link) (t : Link) (q : IsQueue tree (queue (front ++ t ∷ []) later)) where
    all : List FoundWalk
    all = map walk ((front ++ t ∷ []) ++ later)

    falls : Falls (map walk later) (map walk front ++ walk t ∷ [])
    falls = subst (Falls (map walk later)) (map-append walk front (t ∷ [])) q.falls

    least : (y : FoundWalk) → Has (map walk ((front ++ t ∷ []) ++ later)) y → NoLater (walk t) y
    least y h =
        let from = Has_from_map walk ((front ++ t ∷ []) ++ later) y h in
        subst (NoLater (walk t)) from.2 (elim (Has_cases (front ++ t ∷ []) later from.0 from.1) [
          | inr g ↦ falls_each (map walk later) (map walk front ++ walk t ∷ []) falls (walk t) (walk from.0) (Has_back (map walk front) (walk t)) (Has_map walk later from.0 g)
          | inl g ↦ elim (Has_pushed front t from.0 g) [
            | inl f ↦ falls_top (map walk later) (map walk front) (walk t) falls (walk from.0) (Has_map walk front from.0 f)
            | inr e ↦ subst (λ (v : Link). NoLater (walk t) (walk v)) e (no_later_itself (walk t))
          ]
        ])

    from_rest : (y : FoundWalk) → Has (map walk (front ++ later)) y → Has (map walk ((front ++ t ∷ []) ++ later)) y
    from_rest y h =
        let from = Has_from_map walk (front ++ later) y h in
        subst (Has (map walk ((front ++ t ∷ []) ++ later))) from.2 (Has_map walk ((front ++ t ∷ []) ++ later) from.0 (fewer front later t from.0 from.1))

    there : Has ((front ++ t ∷ []) ++ later) t
    there = Has_front (front ++ t ∷ []) later t (Has_back front t)

    pub front_taken : IsFirstTaken tree (queue (front ++ t ∷ []) later) t (queue front later)
    front_taken = record {
      takes = record {
        there = Has_map walk ((front ++ t ∷ []) ++ later) t there;
        least = least;
        kept = λ y h.
            let from = Has_from_map walk ((front ++ t ∷ []) ++ later) y h in
            elim (split front later t from.0 from.1) [
              | inl g ↦ inl (subst (Has (map walk (front ++ later))) from.2 (Has_map walk (front ++ later) from.0 g))
              | inr e ↦ inr (ap walk e ∙ from.2)
            ];
        from = from_rest;
        shorter = omega (
          arith,
          length-map ((front ++ t ∷ []) ++ later) walk,
          length-map (front ++ later) walk,
          length-append (front ++ t ∷ []) later,
          length-append front (t ∷ []),
          length-append front later,
        );
      };
      told = all_has (IsTold tree.setting tree.walks) ((front ++ t ∷ []) ++ later) t q.told there;
      led = record {
        queue = record {
          told = all_of_has (IsTold tree.setting tree.walks) (front ++ later)
              (λ x h. all_has (IsTold tree.setting tree.walks) ((front ++ t ∷ []) ++ later) x q.told (fewer front later t x h));
          falls = falls_rest (map walk later) (map walk front) (walk t) falls;
          level = λ x y h g. q.level x y (Has_front front (t ∷ []) x h) (Has_front front (t ∷ []) y g);
        };
        level = λ x h. q.level x t (Has_front front (t ∷ []) x h) (Has_back front t);
        all = λ y h. least y (from_rest y h);
      };
    }

  -- a walk is put behind one that was taken
  module _ (last a : Link) (q : Queue) (led : IsLed tree last q) (behind : IsBehind tree last a) where
    pub led_front : a.cost ≡ last.cost → IsLed tree last (queue (q.front ++ a ∷ []) q.later)
    led_front near =
        let no_later : (y : FoundWalk) → Has (waiting tree q) y → NoLater (walk a) y = λ y h. no_later_trans (walk a) (walk last) y (behind.near near) (led.all y h) in
        let in_front : (y : FoundWalk) → Has (map walk q.front) y → NoLater (walk a) y = λ y h.
        let from = Has_from_map walk q.front y h in
        subst (NoLater (walk a)) from.2 (no_later (walk from.0) (Has_map walk (links_of q) from.0 (Has_front q.front q.later from.0 from.1))) in
        let in_later : (y : FoundWalk) → Has (map walk q.later) y → NoLater (walk a) y = λ y h.
        let from = Has_from_map walk q.later y h in
        subst (NoLater (walk a)) from.2 (no_later (walk from.0) (Has_map walk (links_of q) from.0 (Has_later q.front q.later from.0 from.1))) in
        let level : (x : Link) → Has (q.front ++ a ∷ []) x → x.cost ≡ last.cost = λ x h. elim (Has_pushed q.front a x h) [
          | inl g ↦ led.level x g
          | inr e ↦ subst (λ (v : Link). v.cost ≡ last.cost) e near
        ] in
        record {
          queue = record {
            told = all_of_has (IsTold tree.setting tree.walks) ((q.front ++ a ∷ []) ++ q.later) (λ x h. elim (split q.front q.later a x h) [
              | inl g ↦ all_has (IsTold tree.setting tree.walks) (links_of q) x led.queue.told g
              | inr e ↦ subst (IsTold tree.setting tree.walks) e behind.told
            ]);
            falls = subst (Falls (map walk q.later)) (sym (map-append walk q.front (a ∷ [])))
                (falls_push (map walk q.later) (map walk q.front) (walk a) led.queue.falls in_front in_later);
            level = λ x y h g. level x h ∙ sym (level y g);
          };
          level = level;
          all = λ y h.
              let from = Has_from_map walk ((q.front ++ a ∷ []) ++ q.later) y h in
              subst (NoLater (walk last)) from.2 (elim (split q.front q.later a from.0 from.1) [
                | inl g ↦ led.all (walk from.0) (Has_map walk (links_of q) from.0 g)
                | inr e ↦ subst (λ (v : Link). NoLater (walk last) (walk v)) e behind.later
              ]);
        }

    pub led_later : (after : List Link) → (a.cost ≡ last.cost → ⊥) → IsPermutation (a ∷ q.later) after → IsLed tree last (queue q.front after)
    led_later after dear p =
        let came : (x : Link) → Has after x → (a ≡ x) ⊎ Has q.later x = λ x h. has_permuted after (a ∷ q.later) x (IsPermutation-sym (a ∷ q.later) after p) h in
        let less : last.cost < a.cost = dearer (walk last) (walk a) behind.later dear in
        record {
          queue = record {
            told = all_of_has (IsTold tree.setting tree.walks) (q.front ++ after) (λ x h. elim (Has_cases q.front after x h) [
              | inl g ↦ all_has (IsTold tree.setting tree.walks) (links_of q) x led.queue.told (Has_front q.front q.later x g)
              | inr g ↦ elim (came x g) [
                | inl e ↦ subst (IsTold tree.setting tree.walks) e behind.told
                | inr f ↦ all_has (IsTold tree.setting tree.walks) (links_of q) x led.queue.told (Has_later q.front q.later x f)
              ]
            ]);
            falls = falls_others (map walk q.later) (map walk after) (map walk q.front) led.queue.falls (λ x y h g.
                let from = Has_from_map walk after y g in
                let front = Has_from_map walk q.front x h in
                subst (NoLater x) from.2 (elim (came from.0 from.1) [
                  | inr f ↦ falls_each (map walk q.later) (map walk q.front) led.queue.falls x (walk from.0) h (Has_map walk q.later from.0 f)
                  | inl e ↦
                      let same : (front.0).cost ≡ last.cost = led.level front.0 front.1 in
                      let sooner : NoLater (walk front.0) (walk a) = Strictly (Cheaper (omega (arith, same, less))) in
                      subst (λ (v : Link). NoLater x (walk v)) e (subst (λ (v : FoundWalk). NoLater v (walk a)) front.2 sooner)
                ]));
            level = led.queue.level;
          };
          level = led.level;
          all = λ y h.
              let from = Has_from_map walk (q.front ++ after) y h in
              subst (NoLater (walk last)) from.2 (elim (Has_cases q.front after from.0 from.1) [
                | inl g ↦ led.all (walk from.0) (Has_map walk (links_of q) from.0 (Has_front q.front q.later from.0 g))
                | inr g ↦ elim (came from.0 g) [
                  | inl e ↦ subst (λ (v : Link). NoLater (walk last) (walk v)) e behind.later
                  | inr f ↦ led.all (walk from.0) (Has_map walk (links_of q) from.0 (Has_later q.front q.later from.0 f))
                ]
              ]);
        }

-- the extensions of a walk come behind it
free_is : (e : Entry) (c : ℕ) (w : List ℕ) → IsMoveCost c w → c ≡ 0 → extend e c w ≡ e
free_is e c w (inl some) free = absurd (omega (arith, some, free))
free_is e c w (inr none) free =
    let n : e.cost + c ≡ e.cost = omega (arith, free) in
    entry_eq (extend e c w) e n (ap (λ l. e.edges ++ l) none.1 ∙ append-nil e.edges)

-- a walk comes behind another, and is as near where it costs no more
pub record Follows (last a : FoundWalk) : Type 0 where
  pub later : NoLater last a
  pub near : a.cost ≡ last.cost → NoLater a last

module _ (setting : Setting) (costs : (q : Pair) (m : Passage Pair) → Has (passages setting q) m → IsOnward m) (c : FoundWalk) where
  follows_one : (m : Move) → Has (moves setting c.at.node c.at.state) m → Follows c (extended setting c m)
  follows_one m h =
      let x = passage setting m in
      let a = extended setting c m in
      let on = costs c.at x (Has_map (passage setting) (moves setting c.at.node c.at.state) m h) in
      let is : extend (entry_of c) x.cost x.edges ≡ entry_of a = sym (entry_extended setting c m) in
      record {
        later = subst (AtMost (entry_of c)) is (at_most_extend (entry_of c) x.cost x.edges on);
        near = λ same.
            let free : x.cost ≡ 0 = omega (arith, same) in
            Same (sym is ∙ free_is (entry_of c) x.cost x.edges on free);
      }

  -- what is told by links that are extensions comes behind
  pub behind_all : (tree : Walks) (last : Link) (more : List Link) (k : ℕ) (walks : List FoundWalk) → told_by tree last ≡ c → AllTold tree more
      → walks_by tree more ≡ extensions setting c (open_moves walks k (moves setting c.at.node c.at.state)) → AllByRecursion (IsBehind tree last) more
  behind_all tree last more k walks is told same =
      let ms = moves setting c.at.node c.at.state in
      let some = open_moves walks k ms in
      all_of_has (IsBehind tree last) more
      (λ l h.
      let there = subst (λ (v : List FoundWalk). Has v (told_by tree l)) same (Has_map (told_by tree) more l h) in
      let from = Has_from_map (extended setting c) some (told_by tree l) there in
      let follows = subst (Follows c) from.2 (follows_one from.0 (Has_filtered (λ m. nat_lt (length (arrivals_at walks (target_of m))) k) ms from.0 from.1)) in
      let one = subst (λ (v : FoundWalk). Follows v (told_by tree l)) (sym is) follows in
      record { told = all_has (IsTold tree.setting tree.walks) more l told h; later = one.later; near = one.near })
