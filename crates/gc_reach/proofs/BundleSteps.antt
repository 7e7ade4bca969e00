-- Going from bundle to bundle.
use Rattle.std.proofs.Common.{◌≡◌, ℕ, zero, suc, ◌+◌, ◌<◌, List, [], ◌∷◌, ◌++◌, map, length, drop, get_or, Some, refl, sym, ap, ◌∙◌, length-append, append_assoc, arith}
use Rattle.std.specs.List.{flat_map, slice_get}
use Rattle.std.proofs.lemmas.List.{length-map, map-append}
use Rattle.std.proofs.lemmas.List.Sums.{fold-append}
use Rattle.gc_prod.specs.declared.moves.Move.{Move}
use Rattle.gc_prod.specs.declared.moves.Pair.{Pair}
use Rattle.gc_prod.specs.declared.moves.Hop.{Hop}
use Rattle.gc_prod.specs.Landings.{Landing, LandsAs}
use Rattle.gc_prod.specs.Leading.{pair, target_of}
use Rattle.gc_prod.specs.Products.{Bundle, moved, moves_by}
use Rattle.gc_prod.proofs.HopLists.{left_at}
use Rattle.gc_reach.specs.Exploring.{landed, targets_by}
use Rattle.gc_reach.specs.Marking.{visit, visit_all}

abbrev pub moves_from : List Bundle → ℕ → List Move
moves_from bs j = flat_map moves_by (drop j bs)

module _ (bs : List Bundle) (j : ℕ) (b : Bundle) (at : slice_get bs j ≡ Some b) where
  -- what is left are the moves of one more bundle, and those behind it
  one_off : moves_from bs j ≡ moves_by b ++ moves_from bs (j + 1)
  one_off = ap (flat_map moves_by) (left_at bs j b at)

  pub moves_left : length (moves_from bs j) ≡ length b.hops + length (moves_from bs (j + 1))
  moves_left = ap length one_off ∙ (length-append (moves_by b) (moves_from bs (j + 1)) ∙ ap (λ n. n + length (moves_from bs (j + 1))) (length-map b.hops (moved b.state)))

  pub visits_left : (pairs : List Pair) → visit_all (visit_all pairs (targets_by b)) (map target_of (moves_from bs (j + 1))) ≡ visit_all pairs (map target_of (moves_from bs j))
  visits_left pairs =
      sym (fold-append visit pairs (targets_by b) (map target_of (moves_from bs (j + 1))))
      ∙ ap (visit_all pairs) (sym (map-append target_of (moves_by b) (moves_from bs (j + 1))) ∙ ap (map target_of) (sym one_off))

  pub kept_left : {Y : Type 0} (f : Move → Y) (so_far whole : List Y) → so_far ++ map f (moves_from bs j) ≡ whole → (so_far ++ map f (moves_by b)) ++ map f (moves_from bs (j + 1)) ≡ whole
  kept_left f so_far whole all =
      append_assoc so_far (map f (moves_by b)) (map f (moves_from bs (j + 1)))
      ∙ (ap (λ l. so_far ++ l) (sym (map-append f (moves_by b) (moves_from bs (j + 1))) ∙ ap (map f) (sym one_off)) ∙ all)

-- what a loop reads at a place stands there
pub item_at : {X : Type 0} (xs : List X) (i : ℕ) (x : X) → i < length xs → x ≡ get_or xs i x → slice_get xs i ≡ Some x
item_at [] i x below is = absurd (omega arith)
item_at (y ∷ xs) zero x below is = ap Some (sym is)
item_at (y ∷ xs) (suc i) x below is = item_at xs i x (omega arith) is

map_twice : {X Y Z : Type 0} (f : Y → Z) (g : X → Y) (xs : List X) → map f (map g xs) ≡ map (λ x. f (g x)) xs
map_twice f g [] = refl
map_twice f g (x ∷ xs) = ap (λ l. f (g x) ∷ l) (map_twice f g xs)

-- landing at the nodes of a bundle is going to the pairs to which it leads
module _ (nodes : List ℕ) (l : Landing) (b : Bundle) (lands : LandsAs nodes l b) where
  pub landed_is : landed nodes l ≡ targets_by b
  landed_is =
      sym (map_twice (λ n. pair n l.state) (λ p. get_or nodes p 0) l.places)
      ∙ (ap (map (λ n. pair n l.state)) lands.places
      ∙ (ap (λ s. map (λ n. pair n s) (map (λ (h : Hop). h.to) b.hops)) lands.state
      ∙ (map_twice (λ n. pair n b.state) (λ (h : Hop). h.to) b.hops ∙ sym (map_twice target_of (moved b.state) b.hops))))

  pub landed_count : length l.places ≡ length b.hops
  landed_count = sym (length-map l.places (λ p. get_or nodes p 0)) ∙ (ap length lands.places ∙ length-map b.hops (λ (h : Hop). h.to))
