-- Going from bundle to bundle: the extensions of a walk by one move after another.
use Rattle.std.proofs.Common.{◌≡◌, ℕ, zero, suc, ◌+◌, ◌^◌, ◌<◌, ◌≤◌, Bool, true, false, cond, List, [], ◌∷◌, ◌++◌, map, length, drop, nat_lt, Some, refl, sym, ap, subst, ◌∙◌, arith, length-append, append_assoc}
use Rattle.std.specs.List.{flat_map, slice_get}
use Rattle.std.proofs.lemmas.List.{append-nil, length-map, map-append}
use Rattle.std.proofs.lemmas.List.Elements.{filter-append}
use Rattle.gc_base.proofs.SetLaws.{AllByRecursion-append}
use Rattle.gc_prod.specs.declared.moves.Hop.{Hop}
use Rattle.gc_prod.specs.declared.moves.Move.{Move}
use Rattle.gc_prod.specs.Leading.{target_of}
use Rattle.gc_prod.specs.Products.{Bundle, moved, moves_by}
use Rattle.gc_prod.proofs.HopLists.{left_at}
use Rattle.gc_search.specs.Arrivals.{FoundWalk, arrivals_at, extended, extensions, open_moves}
use Rattle.gc_search.specs.Links.{Link, Walks, IsTold}
use Rattle.gc_search.specs.Waiting.{told_by, walks_by, IsGrown}

abbrev pub moves_from : List Bundle → ℕ → List Move
moves_from bs j = flat_map moves_by (drop j bs)

-- one more bundle
module _ (bs : List Bundle) (j : ℕ) (b : Bundle) (at : slice_get bs j ≡ Some b) where
  pub one_off : moves_from bs j ≡ moves_by b ++ moves_from bs (j + 1)
  one_off = ap (flat_map moves_by) (left_at bs j b at)

  pub moves_left : length (moves_from bs j) ≡ length b.hops + length (moves_from bs (j + 1))
  moves_left = ap length one_off ∙ (length-append (moves_by b) (moves_from bs (j + 1)) ∙ ap (λ n. n + length (moves_from bs (j + 1))) (length-map b.hops (moved b.state)))

module _ (tree : Walks) (k : ℕ) (a : FoundWalk) where
  -- by no move, by one, and by some and others
  pub grown_none : (before : List Link) → IsGrown tree k a [] before before
  grown_none before = record { exact = sym (append-nil (walks_by tree before)); told = λ h. h; small = λ h. h }

  pub grown_shut : (m : Move) (before : List Link) → nat_lt (length (arrivals_at tree.walks (target_of m))) k ≡ false → IsGrown tree k a (m ∷ []) before before
  grown_shut m before shut = record {
    exact = sym (ap (λ b. walks_by tree before ++ extensions tree.setting a (cond b (m ∷ []) [])) shut ∙ append-nil (walks_by tree before));
    told = λ h. h;
    small = λ h. h;
  }

  pub grown_one : (m : Move) (before : List Link) (l : Link) → nat_lt (length (arrivals_at tree.walks (target_of m))) k ≡ true → told_by tree l ≡ extended tree.setting a m
      → IsTold tree.setting tree.walks l → m.cost < 2 ^ 64 → IsGrown tree k a (m ∷ []) before (before ++ l ∷ [])
  grown_one m before l fits is told low =
      let cost : l.cost ≡ a.cost + m.cost = ap (λ (v : FoundWalk). v.cost) is in
      record {
        exact =
            map-append (told_by tree) before (l ∷ [])
            ∙ (ap (λ (v : FoundWalk). walks_by tree before ++ v ∷ []) is ∙ sym (ap (λ b. walks_by tree before ++ extensions tree.setting a (cond b (m ∷ []) [])) fits));
        told = λ h. AllByRecursion-append (IsTold tree.setting tree.walks) before (l ∷ []) h (told, tt);
        small = λ h. AllByRecursion-append (λ (x : Link). x.cost ≤ a.cost + 2 ^ 64) before (l ∷ []) h (omega (arith, cost, low), tt);
      }

  pub grown_append : (ms ns : List Move) (before middle after : List Link) → IsGrown tree k a ms before middle → IsGrown tree k a ns middle after → IsGrown tree k a (ms ++ ns) before after
  grown_append ms ns before middle after g h =
      let test : Move → Bool = λ m. nat_lt (length (arrivals_at tree.walks (target_of m))) k in
      let both : extensions tree.setting a (open_moves tree.walks k (ms ++ ns)) ≡ extensions tree.setting a (open_moves tree.walks k ms) ++ extensions tree.setting a (open_moves tree.walks k ns) =
      ap (map (extended tree.setting a)) (filter-append test ms ns) ∙ map-append (extended tree.setting a) (open_moves tree.walks k ms) (open_moves tree.walks k ns) in
      let first = extensions tree.setting a (open_moves tree.walks k ms) in
      let second = extensions tree.setting a (open_moves tree.walks k ns) in
      record {
        exact =
            h.exact
            ∙ (ap (λ (v : List FoundWalk). v ++ second) g.exact ∙ (append_assoc (walks_by tree before) first second ∙ sym (ap (λ (v : List FoundWalk). walks_by tree before ++ v) both)));
        told = λ t. h.told (g.told t);
        small = λ t. h.small (g.small t);
      }

  -- one more hop, and one more bundle
  pub grown_hop : (state : ℕ) (hops : List Hop) (i : ℕ) (hop : Hop) → slice_get hops i ≡ Some hop → (before middle after : List Link) → IsGrown tree k a (moved state hop ∷ []) before middle
      → IsGrown tree k a (map (moved state) (drop (i + 1) hops)) middle after → IsGrown tree k a (map (moved state) (drop i hops)) before after
  grown_hop state hops i hop at before middle after g h =
      subst (λ (v : List Hop). IsGrown tree k a (map (moved state) v) before after) (sym (left_at hops i hop at))
      (grown_append (moved state hop ∷ []) (map (moved state) (drop (i + 1) hops)) before middle after g h)

  pub grown_bundle : (bs : List Bundle) (j : ℕ) (b : Bundle) → slice_get bs j ≡ Some b → (before middle after : List Link) → IsGrown tree k a (moves_by b) before middle
      → IsGrown tree k a (moves_from bs (j + 1)) middle after → IsGrown tree k a (moves_from bs j) before after
  grown_bundle bs j b at before middle after g h =
      subst (λ (v : List Move). IsGrown tree k a v before after) (sym (one_off bs j b at)) (grown_append (moves_by b) (moves_from bs (j + 1)) before middle after g h)

pub drop_all : {X : Type 0} (xs : List X) (i : ℕ) → length xs ≤ i → drop i xs ≡ []
drop_all [] zero h = refl
drop_all [] (suc i) h = refl
drop_all (x ∷ xs) zero h = absurd (omega (arith, h))
drop_all (x ∷ xs) (suc i) h = drop_all xs i (omega (arith, h))
