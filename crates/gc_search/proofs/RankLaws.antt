-- Ranks of settled walks: one more walk, one fewer, and what ranks tell.
use Rattle.std.proofs.Common.{◌≡◌, ℕ, zero, suc, ◌-◌, ◌<◌, ◌≤◌, List, [], ◌∷◌, ◌++◌, length, Option, Some, None, inl, inr, ◌⊎◌, refl, sym, ap, ap₂, subst, ◌∙◌, arith, length-append, Ordering, Less, Equal, Greater}
use Rattle.std.specs.List.{slice_get, zip}
use Rattle.std.specs.Option.{MatchOption, option_to_list}
use Rattle.std.specs.Ordering.{MatchOrdering, nat_cmp}
use Rattle.std.specs.Cmp.Lexicographic.{slice_cmp}
use Rattle.std.proofs.lemmas.Cmp.{ranked}
use Rattle.std.proofs.lemmas.List.{append-nil, same_from_push}
use Rattle.gc_prod.specs.Products.{Setting}
use Rattle.gc_search.specs.Arrivals.{FoundWalk, edges_along, entry_of, NoLater}
use Rattle.gc_search.specs.Entries.{Entry, LexLess, Before, Cheaper, Shorter, Lower, AtMost, Strictly, Same}
use Rattle.gc_search.specs.Links.{Link, numbered, walk_of, told, IsTold}
use Rattle.gc_search.specs.Passages.{Has}
use Rattle.gc_search.specs.Ranks.{AreRanked, IsRankedTree}
use Rattle.gc_search.specs.Tails.{edges_if}
use Rattle.gc_search.proofs.LoopLaws.{lex_ranked}
use Rattle.gc_search.proofs.Order.{lex_not_self, lex_trans, at_most_before}
use Rattle.gc_search.proofs.TailLaws.{cmp_itself}
use Rattle.gc_search.proofs.TreeLaws.{are_front, are_push, numbered_at, told_push, tree_length}

-- what stands at a place
pub zip_there : {X Y : Type 0} (xs : List X) (ys : List Y) (i : ℕ) (x : X) (y : Y) → slice_get xs i ≡ Some x → slice_get ys i ≡ Some y → slice_get (zip xs ys) i ≡ Some (x, y)
zip_there [] ys i x y h g = cc
zip_there (a ∷ xs) [] i x y h g = cc
zip_there (a ∷ xs) (b ∷ ys) zero x y h g = let e : a ≡ x = cc in let d : b ≡ y = cc in ap₂ (λ u v. Some (u, v)) e d
zip_there (a ∷ xs) (b ∷ ys) (suc i) x y h g = zip_there xs ys i x y h g

zip_push : {X Y : Type 0} (xs : List X) (ys : List Y) (x : X) (y : Y) → length ys ≡ length xs → zip (xs ++ x ∷ []) (ys ++ y ∷ []) ≡ zip xs ys ++ (x, y) ∷ []
zip_push [] [] x y n = refl
zip_push [] (b ∷ ys) x y n = absurd (omega (arith, n))
zip_push (a ∷ xs) [] x y n = absurd (omega (arith, n))
zip_push (a ∷ xs) (b ∷ ys) x y n = ap (λ l. (a, b) ∷ l) (zip_push xs ys x y (omega (arith, n)))

zip_length : {X Y : Type 0} (xs : List X) (ys : List Y) → length ys ≡ length xs → length (zip xs ys) ≡ length xs
zip_length [] ys n = refl
zip_length (a ∷ xs) [] n = absurd (omega (arith, n))
zip_length (a ∷ xs) (b ∷ ys) n = let e = zip_length xs ys (omega (arith, n)) in omega (arith, e)

zip_first : {X Y : Type 0} (xs : List X) (ys : List Y) (i : ℕ) (z : X × Y) → slice_get (zip xs ys) i ≡ Some z → slice_get xs i ≡ Some z.0
zip_first [] ys i z h = cc
zip_first (a ∷ xs) [] i z h = cc
zip_first (a ∷ xs) (b ∷ ys) zero z h = let e : (a, b) ≡ z = cc in ap (λ v. Some v.0) e
zip_first (a ∷ xs) (b ∷ ys) (suc i) z h = zip_first xs ys i z h

got_cases : {X : Type 0} (xs : List X) (z : X) (i : ℕ) (x : X) → slice_get (xs ++ z ∷ []) i ≡ Some x → (slice_get xs i ≡ Some x) ⊎ ((i ≡ length xs) × (z ≡ x))
got_cases [] z zero x h = inr (refl, cc)
got_cases [] z (suc i) x h = cc
got_cases (y ∷ xs) z zero x h = inl h
got_cases (y ∷ xs) z (suc i) x h = elim (got_cases xs z i x h) [ inl g ↦ inl g | inr e ↦ let n = e.0 in inr (omega (arith, n), e.1) ]

got_more : {X : Type 0} (xs ys : List X) (i : ℕ) (x : X) → slice_get xs i ≡ Some x → slice_get (xs ++ ys) i ≡ Some x
got_more [] ys i x h = cc
got_more (y ∷ xs) ys zero x h = h
got_more (y ∷ xs) ys (suc i) x h = got_more xs ys i x h

pub got_within : {X : Type 0} (xs : List X) (i : ℕ) (x : X) → slice_get xs i ≡ Some x → i < length xs
got_within [] i x h = cc
got_within (y ∷ xs) zero x h = omega arith
got_within (y ∷ xs) (suc i) x h = let l = got_within xs i x h in omega (arith, l)

pub got_has : {X : Type 0} (xs : List X) (i : ℕ) (x : X) → slice_get xs i ≡ Some x → Has xs x
got_has [] i x h = cc
got_has (y ∷ xs) zero x h = inl cc
got_has (y ∷ xs) (suc i) x h = inr (got_has xs i x h)

pub something : {X : Type 0} (xs : List X) (i : ℕ) → i < length xs → (x : X) × (slice_get xs i ≡ Some x)
something [] i l = absurd (omega (arith, l))
something (x ∷ xs) zero l = (x, refl)
something (x ∷ xs) (suc i) l = something xs i (omega (arith, l))

other_before : (a b : Entry) → AtMost a b → (a ≡ b → ⊥) → Before a b
other_before a b (Strictly h) other = h
other_before a b (Same e) other = absurd (other e)

-- a walk behind others, and a rank that suits it
record IsRankOf (some : List (FoundWalk × ℕ)) (x : FoundWalk × ℕ) : Type 0 where
  pub low : x.1 ≤ length some
  pub later : (i : ℕ) (y : FoundWalk × ℕ) → slice_get some i ≡ Some y → NoLater y.0 x.0
  pub lower : (i : ℕ) (y : FoundWalk × ℕ) → slice_get some i ≡ Some y → y.1 < x.1 → Before (entry_of y.0) (entry_of x.0)
  pub higher : (i : ℕ) (y : FoundWalk × ℕ) → slice_get some i ≡ Some y → x.1 < y.1 → Before (entry_of x.0) (entry_of y.0)
  pub same : (i : ℕ) (y : FoundWalk × ℕ) → slice_get some i ≡ Some y → y.1 ≡ x.1 → entry_of y.0 ≡ entry_of x.0

module _ (some : List (FoundWalk × ℕ)) (are : AreRanked some) where
  push : (x : FoundWalk × ℕ) → IsRankOf some x → AreRanked (some ++ x ∷ [])
  push x r = record {
    low = λ i y h. elim (got_cases some x i y h) [
      | inl g ↦ are.low i y g
      | inr e ↦ let at = e.0 in let rank : x.1 ≡ y.1 = ap (λ (v : FoundWalk × ℕ). v.1) e.1 in omega (arith, r.low, at, rank)
    ];
    ordered = λ i j y z h g le. elim (got_cases some x i y h) [
      | inl a ↦ elim (got_cases some x j z g) [
        | inl b ↦ are.ordered i j y z a b le
        | inr e ↦ subst (λ (v : FoundWalk × ℕ). NoLater y.0 v.0) e.1 (r.later i y a)
      ]
      | inr d ↦ elim (got_cases some x j z g) [
        | inl b ↦ let at = d.0 in absurd (omega (arith, le, at, got_within some j z b))
        | inr e ↦ Same (ap (λ (v : FoundWalk × ℕ). entry_of v.0) (sym d.1 ∙ e.1))
      ]
    ];
    lower = λ i j y z h g less. elim (got_cases some x i y h) [
      | inl a ↦ elim (got_cases some x j z g) [
        | inl b ↦ are.lower i j y z a b less
        | inr e ↦
            let rank : x.1 ≡ z.1 = ap (λ (v : FoundWalk × ℕ). v.1) e.1 in
            subst (λ (v : FoundWalk × ℕ). Before (entry_of y.0) (entry_of v.0)) e.1 (r.lower i y a (omega (arith, less, rank)))
      ]
      | inr d ↦ elim (got_cases some x j z g) [
        | inl b ↦
            let rank : x.1 ≡ y.1 = ap (λ (v : FoundWalk × ℕ). v.1) d.1 in
            subst (λ (v : FoundWalk × ℕ). Before (entry_of v.0) (entry_of z.0)) d.1 (r.higher j z b (omega (arith, less, rank)))
        | inr e ↦ let rank : y.1 ≡ z.1 = ap (λ (v : FoundWalk × ℕ). v.1) (sym d.1 ∙ e.1) in absurd (omega (arith, less, rank))
      ]
    ];
    same = λ i j y z h g level. elim (got_cases some x i y h) [
      | inl a ↦ elim (got_cases some x j z g) [
        | inl b ↦ are.same i j y z a b level
        | inr e ↦
            let rank : x.1 ≡ z.1 = ap (λ (v : FoundWalk × ℕ). v.1) e.1 in
            r.same i y a (level ∙ sym rank) ∙ ap (λ (v : FoundWalk × ℕ). entry_of v.0) e.1
      ]
      | inr d ↦ elim (got_cases some x j z g) [
        | inl b ↦
            let rank : x.1 ≡ y.1 = ap (λ (v : FoundWalk × ℕ). v.1) d.1 in
            sym (r.same j z b (sym level ∙ sym rank) ∙ ap (λ (v : FoundWalk × ℕ). entry_of v.0) d.1)
        | inr e ↦ ap (λ (v : FoundWalk × ℕ). entry_of v.0) (sym d.1 ∙ e.1)
      ]
    ];
  }

  module _ (a : FoundWalk) (later : (i : ℕ) (y : FoundWalk × ℕ) → slice_get some i ≡ Some y → NoLater y.0 a) where
    -- its own rank, where the last is another
    own : ((y : FoundWalk × ℕ) → slice_get some (length some - 1) ≡ Some y → entry_of y.0 ≡ entry_of a → ⊥) → IsRankOf some (a, length some)
    own other =
        let before : (i : ℕ) (y : FoundWalk × ℕ) → slice_get some i ≡ Some y → Before (entry_of y.0) (entry_of a) = λ i y g.
        let within = got_within some i y g in
        let last = something some (length some - 1) (omega (arith, within)) in
        let last_before = other_before (entry_of (last.0).0) (entry_of a) (later (length some - 1) last.0 last.1) (other last.0 last.1) in
        at_most_before (entry_of y.0) (entry_of (last.0).0) (entry_of a) (are.ordered i (length some - 1) y last.0 g last.1 (omega (arith, within))) last_before in
        record {
          low = omega arith;
          later = later;
          lower = λ i y g less. before i y g;
          higher = λ i y g less. absurd (omega (arith, less, are.low i y g, got_within some i y g));
          same = λ i y g level. absurd (omega (arith, level, are.low i y g, got_within some i y g));
        }

    -- that of the last, where this is the same
    shared : (y : FoundWalk × ℕ) → slice_get some (length some - 1) ≡ Some y → entry_of y.0 ≡ entry_of a → IsRankOf some (a, y.1)
    shared y last is = record {
      low = omega (arith, are.low (length some - 1) y last);
      later = later;
      lower = λ i x g less. subst (λ (e : Entry). Before (entry_of x.0) e) is (are.lower i (length some - 1) x y g last less);
      higher = λ i x g less. subst (λ (e : Entry). Before e (entry_of x.0)) is (are.lower (length some - 1) i y x last g less);
      same = λ i x g level. are.same i (length some - 1) x y g last level ∙ is;
    }

-- one fewer
front : (some : List (FoundWalk × ℕ)) (x : FoundWalk × ℕ) → AreRanked (some ++ x ∷ []) → AreRanked some
front some x are = record {
  low = λ i y h. are.low i y (got_more some (x ∷ []) i y h);
  ordered = λ i j y z h g. are.ordered i j y z (got_more some (x ∷ []) i y h) (got_more some (x ∷ []) j z g);
  lower = λ i j y z h g. are.lower i j y z (got_more some (x ∷ []) i y h) (got_more some (x ∷ []) j z g);
  same = λ i j y z h g. are.same i j y z (got_more some (x ∷ []) i y h) (got_more some (x ∷ []) j z g);
}

-- of walks with one cost and equally many edges the ranks tell the order of these
lex_before : (a b : Entry) → Before a b → a.cost ≡ b.cost → length a.edges ≡ length b.edges → LexLess a.edges b.edges
lex_before a b (Cheaper l) c n = absurd (omega (arith, l, c))
lex_before a b (Shorter e l) c n = absurd (omega (arith, l, n))
lex_before a b (Lower e m l) c n = l

less_is : (xs ys : List ℕ) → length xs ≡ length ys → LexLess xs ys → Less ≡ slice_cmp nat_cmp xs ys
less_is xs ys n l = by (slice_cmp nat_cmp xs ys) (lex_ranked xs ys n)
  where
    by : (o : Ordering) → MatchOrdering o (LexLess xs ys) (xs ≡ ys) (LexLess ys xs) → Less ≡ o
    by Less m = refl
    by Equal m = elim (lex_not_self ys (subst (λ v. LexLess v ys) m l)) [ ]
    by Greater m = elim (lex_not_self xs (lex_trans xs ys xs l m)) [ ]

greater_is : (xs ys : List ℕ) → length xs ≡ length ys → LexLess ys xs → Greater ≡ slice_cmp nat_cmp xs ys
greater_is xs ys n l = by (slice_cmp nat_cmp xs ys) (lex_ranked xs ys n)
  where
    by : (o : Ordering) → MatchOrdering o (LexLess xs ys) (xs ≡ ys) (LexLess ys xs) → Greater ≡ o
    by Less m = elim (lex_not_self xs (lex_trans xs ys xs m l)) [ ]
    by Equal m = elim (lex_not_self ys (subst (λ v. LexLess ys v) m l)) [ ]
    by Greater m = refl

module _ (some : List (FoundWalk × ℕ)) (are : AreRanked some) (i j : ℕ) (x y : FoundWalk × ℕ) (h : slice_get some i ≡ Some x) (g : slice_get some j ≡ Some y) where
  abbrev xs : List ℕ
  xs = edges_along (x.0).steps

  abbrev ys : List ℕ
  ys = edges_along (y.0).steps

  pub rank_order : (x.0).cost ≡ (y.0).cost → length xs ≡ length ys → nat_cmp x.1 y.1 ≡ slice_cmp nat_cmp xs ys
  rank_order cost level = by (nat_cmp x.1 y.1) (ranked x.1 y.1 (nat_cmp x.1 y.1) refl)
    where
      by : (o : Ordering) → MatchOrdering o (x.1 < y.1) (x.1 ≡ y.1) (y.1 < x.1) → o ≡ slice_cmp nat_cmp xs ys
      by Less l = less_is xs ys level (lex_before (entry_of x.0) (entry_of y.0) (are.lower i j x y h g l) cost level)
      by Equal e = subst (λ (v : List ℕ). Equal ≡ slice_cmp nat_cmp xs v) (ap (λ (v : Entry). v.edges) (are.same i j x y h g e)) (sym (cmp_itself xs))
      by Greater l = greater_is xs ys level (lex_before (entry_of y.0) (entry_of x.0) (are.lower j i y x g h l) (sym cost) (sym level))

-- a walk is put behind those of a tree, or the last is taken away
module _ (setting : Setting) where
  module _ (links : List Link) (ranks : List ℕ) (tree : IsRankedTree setting links ranks) (l : Link) where
    abbrev walks : List FoundWalk
    walks = told setting links

    abbrev a : FoundWalk
    a = walk_of setting walks l

    abbrev some : List (FoundWalk × ℕ)
    some = zip walks ranks

    same_size : length ranks ≡ length walks
    same_size = tree.size ∙ sym (tree_length setting links)

    whole : length some ≡ length walks
    whole = zip_length walks ranks same_size

    pushed : (r : ℕ) → IsTold setting walks l → IsRankOf some (a, r) → IsRankedTree setting (links ++ l ∷ []) (ranks ++ r ∷ [])
    pushed r is rank = record {
      tree = are_push setting [] links l tree.tree is;
      size = omega (arith, tree.size, length-append ranks (r ∷ []), length-append links (l ∷ []));
      ranked = subst AreRanked (sym (zip_push walks ranks a r same_size) ∙ ap (λ v. zip v (ranks ++ r ∷ [])) (sym (told_push setting [] links l))) (push some tree.ranked (a, r) rank);
    }

    module _ (is : IsTold setting walks l) (later : (x : FoundWalk) → Has walks x → NoLater x a) where
      each_later : (i : ℕ) (y : FoundWalk × ℕ) → slice_get some i ≡ Some y → NoLater y.0 a
      each_later i y g = later y.0 (got_has walks i y.0 (zip_first walks ranks i y g))

      pub pushed_own : ((y : FoundWalk) → slice_get walks (length walks - 1) ≡ Some y → entry_of y ≡ entry_of a → ⊥) → IsRankedTree setting (links ++ l ∷ []) (ranks ++ length ranks ∷ [])
      pushed_own other =
          let last : (y : FoundWalk × ℕ) → slice_get some (length some - 1) ≡ Some y → entry_of y.0 ≡ entry_of a → ⊥ = λ y g. other y.0 (zip_first walks ranks (length walks - 1) y (subst (λ n. slice_get some (n - 1) ≡ Some y) whole g)) in
          subst (λ n. IsRankedTree setting (links ++ l ∷ []) (ranks ++ n ∷ [])) (whole ∙ sym same_size) (pushed (length some) is (own some tree.ranked a each_later last))

      pub pushed_shared : (y : FoundWalk) (r : ℕ) → slice_get walks (length walks - 1) ≡ Some y → entry_of y ≡ entry_of a → slice_get ranks (length ranks - 1) ≡ Some r
          → IsRankedTree setting (links ++ l ∷ []) (ranks ++ r ∷ [])
      pushed_shared y r at same rank =
          let there = zip_there walks ranks (length walks - 1) y r at (subst (λ n. slice_get ranks (n - 1) ≡ Some r) same_size rank) in
          pushed r is (shared some tree.ranked a each_later (y, r) (subst (λ n. slice_get some (n - 1) ≡ Some (y, r)) (sym whole) there) same)

  pub popped_ranked : (P : Type 0) (Q : Link → Type 0) (R : Type 0) (S : ℕ → Type 0) (old new : List Link) (o : Option Link) (ranks ranks' : List ℕ) (p : Option ℕ)
      → old ≡ new ++ option_to_list o → ranks ≡ ranks' ++ option_to_list p → MatchOption o P Q → (P → length old ≡ 0) → MatchOption p R S → (R → length ranks ≡ 0)
      → IsRankedTree setting old ranks → IsRankedTree setting new ranks'
  popped_ranked P Q R S old new None ranks ranks' None e d m none n nothing tree =
      subst (λ (v : List Link). IsRankedTree setting v ranks') (e ∙ append-nil new) (subst (λ (v : List ℕ). IsRankedTree setting old v) (d ∙ append-nil ranks') tree)
  popped_ranked P Q R S old new (Some l) ranks ranks' None e d m none n nothing tree = absurd (omega (arith, nothing n, tree.size, ap length e, length-append new (l ∷ [])))
  popped_ranked P Q R S old new None ranks ranks' (Some r) e d m none n nothing tree = absurd (omega (arith, none m, tree.size, ap length d, length-append ranks' (r ∷ [])))
  popped_ranked P Q R S old new (Some l) ranks ranks' (Some r) e d m none n nothing tree =
      let was : IsRankedTree setting (new ++ l ∷ []) (ranks' ++ r ∷ []) =
      subst (λ (v : List Link). IsRankedTree setting v (ranks' ++ r ∷ [])) e (subst (λ (v : List ℕ). IsRankedTree setting old v) d tree) in
      let size : length ranks' ≡ length new = omega (arith, was.size, length-append new (l ∷ []), length-append ranks' (r ∷ [])) in
      let walks = told setting new in
      record {
        tree = are_front setting [] new l was.tree;
        size = size;
        ranked = front (zip walks ranks') (walk_of setting walks l, r)
            (subst AreRanked (ap (λ v. zip v (ranks' ++ r ∷ [])) (told_push setting [] new l) ∙ zip_push walks ranks' (walk_of setting walks l) r (size ∙ sym (tree_length setting new))) was.ranked);
      }

-- what was put behind others is taken away
pub popped_same : {X : Type 0} (P : Type 0) (Q : X → Type 0) (xs new : List X) (x : X) (o : Option X) → xs ++ x ∷ [] ≡ new ++ option_to_list o → MatchOption o P Q → (P → length (xs ++ x ∷ []) ≡ 0) → new ≡ xs
popped_same P Q xs new x None e m none = absurd (omega (arith, none m, length-append xs (x ∷ [])))
popped_same P Q xs new x (Some y) e m none = (same_from_push new xs y x (sym e)).0

-- the ranks of two settled walks, by their numbers
pub ranked_numbers : (setting : Setting) (links : List Link) (ranks : List ℕ) → IsRankedTree setting links ranks → (m n : ℕ) (a b : FoundWalk) (r s : ℕ) → 0 < m → 0 < n
    → slice_get (told setting links) (m - 1) ≡ Some a → slice_get (told setting links) (n - 1) ≡ Some b → slice_get ranks (m - 1) ≡ Some r → slice_get ranks (n - 1) ≡ Some s → a.cost ≡ b.cost
    → length (edges_if (numbered (told setting links) m)) ≡ length (edges_if (numbered (told setting links) n))
    → nat_cmp r s ≡ slice_cmp nat_cmp (edges_if (numbered (told setting links) m)) (edges_if (numbered (told setting links) n))
ranked_numbers setting links ranks tree m n a b r s first second there other rank its cost level =
    let walks = told setting links in
    let one = ap edges_if (numbered_at walks m a first there) in
    let two = ap edges_if (numbered_at walks n b second other) in
    let same : length (edges_along a.steps) ≡ length (edges_along b.steps) = sym (ap length one) ∙ (level ∙ ap length two) in
    rank_order (zip walks ranks) tree.ranked (m - 1) (n - 1) (a, r) (b, s) (zip_there walks ranks (m - 1) a r there rank) (zip_there walks ranks (n - 1) b s other its) cost same
    ∙ sym (ap₂ (slice_cmp nat_cmp) one two)
