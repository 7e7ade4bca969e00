-- Filling the front: walks that are alike, sorted by their edges.
use Rattle.std.proofs.Common.{◌≡◌, ℕ, suc, ◌+◌, ◌<◌, ◌≤◌, nat_lt, Bool, true, false, cond, List, [], ◌∷◌, ◌++◌, map, length, slice_index_or, inl, inr, refl, sym, subst, ◌∙◌, arith, length-append, Ordering, Less, Equal, Greater}
use Rattle.std.specs.Cmp.{IsTotalOrder, nat_cmp_total, on_total, then_total, back_total}
use Rattle.std.specs.Cmp.Lexicographic.{slice_cmp, nat_list_cmp_total}
use Rattle.std.specs.List.{filter}
use Rattle.std.specs.List.Sorted.{IsPermutation, IsSorted}
use Rattle.std.specs.Ordering.{MatchOrdering, nat_cmp, is_lt, ordering_then}
use Rattle.std.proofs.lemmas.Bool.Decides.{nat_tests}
use Rattle.std.proofs.lemmas.Cmp.{ranked}
use Rattle.std.proofs.lemmas.List.{length-map}
use Rattle.std.proofs.lemmas.List.Sorted.{IsPermutation-sym, length_permutation}
use Rattle.gc_base.specs.declared.walk.Step.{Step}
use Rattle.gc_prod.specs.Products.{Setting}
use Rattle.gc_search.specs.Arrivals.{FoundWalk, arrivals_at, entry_of, NoLater}
use Rattle.gc_search.specs.Entries.{Entry, LexLess, Lower, Cheaper, Shorter, AtMost, Strictly, Same}
use Rattle.gc_search.specs.Links.{Link, Walks, IsTold}
use Rattle.gc_search.specs.Passages.{Has}
use Rattle.gc_search.specs.Tails.{edges_told, edges_order}
use Rattle.gc_search.specs.Waiting.{Queue, links_of, told_by, Falls, IsAlike, IsSooner, IsQueue, AreFirst, IsSifted}
use Rattle.gc_search.proofs.Bridge.{has_permuted}
use Rattle.gc_search.proofs.Flat.{Has_cases, Has_later, Has_from_map, Has_filtered, filter_or}
use Rattle.gc_search.proofs.LoopLaws.{lex_ranked, all_has, all_of_has}
use Rattle.gc_search.proofs.Order.{entry_eq}
use Rattle.gc_search.proofs.Settle.{Has_front}
use Rattle.gc_search.proofs.WaitingLaws.{queue, no_later_trans}

-- the front is sorted the other way round, since its last is taken first
abbrev pub front_order : Setting → List FoundWalk → Link → Link → Ordering
front_order setting walks a b = edges_order setting walks b a

pub front_order_total : (setting : Setting) (walks : List FoundWalk) → IsTotalOrder (front_order setting walks)
front_order_total setting walks =
    back_total (then_total (on_total (λ (l : Link). length (edges_told setting walks l)) nat_cmp_total) (on_total (λ (l : Link). edges_told setting walks l) nat_list_cmp_total))

-- walks with equally many edges at one cost
level_least : (a b : Entry) (n o : Ordering) → a.cost ≡ b.cost → length a.edges ≡ length b.edges
    → MatchOrdering n (length b.edges < length a.edges) (length b.edges ≡ length a.edges) (length a.edges < length b.edges)
    → MatchOrdering o (LexLess b.edges a.edges) (b.edges ≡ a.edges) (LexLess a.edges b.edges)
    → is_lt (ordering_then n o) ≡ false → AtMost a b
level_least a b Less o cost same m l h = absurd (omega (arith, m, same))
level_least a b Greater o cost same m l h = absurd (omega (arith, m, same))
level_least a b Equal Less cost same m l h = cc
level_least a b Equal Equal cost same m l h = Same (entry_eq a b cost (sym l))
level_least a b Equal Greater cost same m l h = Strictly (Lower cost same l)

module _ (tree : Walks) where
  abbrev walk : Link → FoundWalk
  walk l = told_by tree l

  abbrev edges_of : Link → List ℕ
  edges_of l = edges_told tree.setting tree.walks l

  count_is : (l : Link) → IsTold tree.setting tree.walks l → l.edges ≡ length (edges_of l)
  count_is l t = t.edges ∙ sym (length-map (walk l).steps (λ (s : Step). s.edge))

  level_no_later : (a b : Link) → IsTold tree.setting tree.walks a → IsTold tree.setting tree.walks b → IsAlike a b
      → is_lt (edges_order tree.setting tree.walks b a) ≡ false → NoLater (walk a) (walk b)
  level_no_later a b s t e h =
      let same : length (edges_of a) ≡ length (edges_of b) = sym (count_is a s) ∙ (e.1 ∙ count_is b t) in
      level_least (entry_of (walk a)) (entry_of (walk b)) (nat_cmp (length (edges_of b)) (length (edges_of a))) (slice_cmp nat_cmp (edges_of b) (edges_of a))
      e.0 same (ranked (length (edges_of b)) (length (edges_of a)) (nat_cmp (length (edges_of b)) (length (edges_of a))) refl) (lex_ranked (edges_of b) (edges_of a) (sym same)) h

  sooner_no_later : (a b : Link) → IsTold tree.setting tree.walks a → IsTold tree.setting tree.walks b → IsSooner a b → NoLater (walk a) (walk b)
  sooner_no_later a b s t (inl l) = Strictly (Cheaper l)
  sooner_no_later a b s t (inr (c, l)) = Strictly (Shorter c (omega (arith, l, count_is a s, count_is b t)))

  falls_sorted : (others : List FoundWalk) (front : List Link) → ((x : Link) → Has front x → IsTold tree.setting tree.walks x)
      → ((x y : Link) → Has front x → Has front y → IsAlike x y) → ((x : Link) (y : FoundWalk) → Has front x → Has others y → NoLater (walk x) y)
      → IsSorted (front_order tree.setting tree.walks) front → Falls others (map walk front)
  falls_sorted others [] each alike first sorted = tt
  falls_sorted others (x ∷ []) each alike first sorted = (λ y h. elim h [ ], λ y h. first x y (inl refl) h, tt)
  falls_sorted others (x ∷ y ∷ front) each alike first sorted =
      let rest : Falls others (map walk (y ∷ front)) =
      falls_sorted others (y ∷ front) (λ a h. each a (inr h)) (λ a b h g. alike a b (inr h) (inr g)) (λ a b h g. first a b (inr h) g)
      (λ k d z l. shifted k d (sorted (suc k) d (omega arith) (omega (arith, l)))) in
      let next : NoLater (walk y) (walk x) =
      level_no_later y x (each y (inr (inl refl))) (each x (inl refl)) (alike y x (inr (inl refl)) (inl refl)) (sorted 0 x (omega arith) (omega arith)) in (
        λ z h. elim h [ inl e ↦ subst (λ (v : FoundWalk). NoLater v (walk x)) e next | inr g ↦ no_later_trans z (walk y) (walk x) (rest.0 z g) next ],
        λ z h. first x z (inl refl) h,
        rest,
      )
    where
      shifted : (k : ℕ) (d : Link) → is_lt (front_order tree.setting tree.walks (slice_index_or (x ∷ y ∷ front) (suc k + 1) d) (slice_index_or (x ∷ y ∷ front) (suc k) d)) ≡ false
          → is_lt (front_order tree.setting tree.walks (slice_index_or (y ∷ front) (k + 1) d) (slice_index_or (y ∷ front) k d)) ≡ false
      shifted k d h =
          let e : suc k + 1 ≡ suc (k + 1) = omega arith in
          subst (λ n. is_lt (front_order tree.setting tree.walks (slice_index_or (x ∷ y ∷ front) n d) (slice_index_or (y ∷ front) k d)) ≡ false) e h

  -- the first group comes to the front, but for some to pairs that are full
  module _ (k : ℕ) (before middle : Queue) (some front : List Link) (q : IsQueue tree before) (same : IsPermutation (links_of before) (links_of middle)) (are : AreFirst middle)
      (left : IsSifted tree k middle.front some) (p : IsPermutation some front) (sorted : IsSorted (front_order tree.setting tree.walks) front) where
    back : (x : Link) → Has front x → Has middle.front x
    back x h = left.from x (has_permuted front some x (IsPermutation-sym some front p) h)

    from : (x : Link) → Has (front ++ middle.later) x → Has (links_of before) x
    from x h = has_permuted (links_of middle) (links_of before) x (IsPermutation-sym (links_of before) (links_of middle) same) (elim (Has_cases front middle.later x h) [
      | inl g ↦ Has_front middle.front middle.later x (back x g)
      | inr g ↦ Has_later middle.front middle.later x g
    ])

    pub group_sifted : IsSifted tree k (links_of before) (front ++ middle.later)
    group_sifted = record {
      kept = λ x h. elim (Has_cases middle.front middle.later x (has_permuted (links_of before) (links_of middle) x same h)) [
        | inl g ↦ elim (left.kept x g) [ inl f ↦ inl (Has_front front middle.later x (has_permuted some front x p f)) | inr full ↦ inr full ]
        | inr g ↦ inl (Has_later front middle.later x g)
      ];
      from = from;
      fewer = omega (
        arith,
        left.fewer,
        length_permutation (links_of before) (links_of middle) same,
        length_permutation some front p,
        length-append front middle.later,
        length-append middle.front middle.later,
      );
    }

    told : (x : Link) → Has (front ++ middle.later) x → IsTold tree.setting tree.walks x
    told x h = all_has (IsTold tree.setting tree.walks) (links_of before) x q.told (from x h)

    pub group_queue : IsQueue tree (queue front middle.later)
    group_queue = record {
      told = all_of_has (IsTold tree.setting tree.walks) (front ++ middle.later) told;
      falls = falls_sorted (map walk middle.later) front (λ x h. told x (Has_front front middle.later x h)) (λ x y h g. are.alike x y (back x h) (back y g))
          (λ x y h g.
          let one = Has_from_map walk middle.later y g in
          subst (NoLater (walk x)) one.2
          (sooner_no_later x one.0 (told x (Has_front front middle.later x h)) (told one.0 (Has_later front middle.later one.0 one.1)) (are.sooner x one.0 (back x h) one.1)))
          sorted;
      level = λ x y h g. (are.alike x y (back x h) (back y g)).0;
    }

-- some walks without those to pairs that have k
abbrev pub has_room : List FoundWalk → ℕ → Link → Bool
has_room walks k l = nat_lt (length (arrivals_at walks l.at)) k

no_room : (n k : ℕ) → nat_lt n k ≡ false → k ≤ n
no_room n k h = grind (arith, nat_tests)

fewer_if : (b : Bool) (x : Link) (xs rest : List Link) → length rest ≤ length xs → length (cond b (x ∷ rest) rest) ≤ length (x ∷ xs)
fewer_if true x xs rest h = omega (arith, h)
fewer_if false x xs rest h = omega (arith, h)

fewer_left : (test : Link → Bool) (xs : List Link) → length (filter test xs) ≤ length xs
fewer_left test [] = omega arith
fewer_left test (x ∷ xs) = fewer_if (test x) x xs (filter test xs) (fewer_left test xs)

pub room_sifted : (tree : Walks) (k : ℕ) (xs : List Link) → IsSifted tree k xs (filter (has_room tree.walks k) xs)
room_sifted tree k xs = record {
  kept = λ x h. elim (filter_or (has_room tree.walks k) xs x h) [
    | inl full ↦ inr (no_room (length (arrivals_at tree.walks x.at)) k full)
    | inr g ↦ inl g
  ];
  from = λ x h. Has_filtered (has_room tree.walks k) xs x h;
  fewer = fewer_left (has_room tree.walks k) xs;
}

pub sifted_none : (tree : Walks) (k : ℕ) (xs : List Link) → IsSifted tree k xs xs
sifted_none tree k xs = record { kept = λ x h. inl h; from = λ x h. h; fewer = omega arith }

pub sifted_more : (tree : Walks) (k : ℕ) (xs ys zs : List Link) → IsSifted tree k xs ys → IsSifted tree k ys zs → IsSifted tree k xs zs
sifted_more tree k xs ys zs f g = record {
  kept = λ x h. elim (f.kept x h) [ inl a ↦ g.kept x a | inr full ↦ inr full ];
  from = λ x h. f.from x (g.from x h);
  fewer = omega (arith, f.fewer, g.fewer);
}
