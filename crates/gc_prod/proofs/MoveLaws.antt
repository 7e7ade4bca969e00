-- The moves of some bundles, one after another.
use Rattle.std.proofs.Common.{◌≡◌, ℕ, zero, suc, ◌+◌, ◌-◌, ◌<◌, ◌≤◌, List, [], ◌∷◌, ◌++◌, map, length, drop, Option, Some, sym, ap, ◌∙◌, arith}
use Rattle.std.specs.List.{flat_map, slice_get}
use Rattle.std.specs.Option.{option_map}
use Rattle.std.proofs.lemmas.List.{length-map}
use Rattle.std.proofs.lemmas.Option.{slice_get-map}
use Rattle.gc_prod.specs.declared.moves.Hop.{Hop}
use Rattle.gc_prod.specs.declared.moves.Move.{Move}
use Rattle.gc_prod.specs.Products.{Bundle, moved, moves_by}
use Rattle.gc_prod.proofs.FanLaws.{slice_get-left}
use Rattle.gc_prod.proofs.HopLists.{left_at}

slice_get-right : {X : Type 0} (xs ys : List X) (i : ℕ) → length xs ≤ i → slice_get (xs ++ ys) i ≡ slice_get ys (i - length xs)
slice_get-right [] ys i le = let e : i - 0 ≡ i = omega arith in ap (slice_get ys) (sym e)
slice_get-right (x ∷ xs) ys zero le = absurd (omega arith)
slice_get-right (x ∷ xs) ys (suc i) le = let e : suc i - suc (length xs) ≡ i - length xs = omega arith in slice_get-right xs ys i (omega arith) ∙ ap (slice_get ys) (sym e)

module _ (b : Bundle) (rest : List Move) where
  length_moves : length (moves_by b) ≡ length b.hops
  length_moves = length-map b.hops (moved b.state)

  -- a move of the first bundle
  pub in_first : (i : ℕ) (h : Hop) → i < length b.hops → slice_get b.hops i ≡ Some h → slice_get (moves_by b ++ rest) i ≡ Some (moved b.state h)
  in_first i h below at =
      let within : i < length (moves_by b) = omega (arith, length_moves) in
      slice_get-left (moves_by b) rest i within ∙ (slice_get-map (moved b.state) b.hops i ∙ ap (option_map (moved b.state)) at)

  -- a move behind it
  pub in_rest : (i : ℕ) → length b.hops ≤ i → slice_get (moves_by b ++ rest) i ≡ slice_get rest (i - length b.hops)
  in_rest i le =
      let same : length (moves_by b) ≡ length b.hops = length_moves in
      slice_get-right (moves_by b) rest i (omega (arith, same)) ∙ ap (λ n. slice_get rest (i - n)) same

-- going over legs, each of which has a bundle
module _ {L : Type 0} (f : L → Bundle) where
  abbrev pub moves_along : List L → List Move
  moves_along legs = flat_map moves_by (map f legs)

  pub found_here : (legs : List L) (k left : ℕ) (leg : L) (b : Bundle) (h : Hop) (whole : Option Move) → slice_get (moves_along (drop k legs)) left ≡ whole
      → slice_get legs k ≡ Some leg → b ≡ f leg → left < length b.hops → slice_get b.hops left ≡ Some h → Some (moved b.state h) ≡ whole
  found_here legs k left leg b h whole all at is below here =
      sym (in_first b (moves_along (drop (k + 1) legs)) left h below here)
      ∙ (ap (λ (c : Bundle). slice_get (moves_by c ++ moves_along (drop (k + 1) legs)) left) is
      ∙ (ap (λ ls. slice_get (moves_along ls) left) (sym (left_at legs k leg at)) ∙ all))

  pub found_later : (legs : List L) (k left : ℕ) (leg : L) (b : Bundle) (whole : Option Move) → slice_get (moves_along (drop k legs)) left ≡ whole
      → slice_get legs k ≡ Some leg → b ≡ f leg → length b.hops ≤ left → slice_get (moves_along (drop (k + 1) legs)) (left - length b.hops) ≡ whole
  found_later legs k left leg b whole all at is past =
      sym (in_rest b (moves_along (drop (k + 1) legs)) left past)
      ∙ (ap (λ (c : Bundle). slice_get (moves_by c ++ moves_along (drop (k + 1) legs)) left) is
      ∙ (ap (λ ls. slice_get (moves_along ls) left) (sym (left_at legs k leg at)) ∙ all))
