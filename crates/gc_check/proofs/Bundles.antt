-- Tests of the moves of a pair, bundle by bundle.
use Rattle.std.proofs.Common.{◌≡◌, ℕ, ◌+◌, Bool, true, false, ◌&&◌, ◌||◌, List, drop, Some, refl, sym, ap, ◌∙◌}
use Rattle.std.specs.List.{flat_map, list_all, list_any, slice_get}
use Rattle.std.proofs.lemmas.List.Folds.{list_all-append, list_any-append}
use Rattle.gc_prod.specs.declared.moves.Move.{Move}
use Rattle.gc_prod.specs.Products.{Setting, Bundle, bundles, moves, moves_by}
use Rattle.gc_prod.proofs.HopLists.{left_at}

-- the moves from a bundle on
abbrev pub moves_from : List Bundle → ℕ → List Move
moves_from bs j = flat_map moves_by (drop j bs)

and_and : (a b c : Bool) → ((a && b) && c) ≡ (a && (b && c))
and_and true b c = refl
and_and false b c = refl

module _ (setting : Setting) (node state : ℕ) (test : Move → Bool) (j : ℕ) (b : Bundle) (at : slice_get (bundles setting node state) j ≡ Some b) where
  abbrev left : ℕ → List Move
  left i = moves_from (bundles setting node state) i

  all_left : list_all test (left j) ≡ (list_all test (moves_by b) && list_all test (left (j + 1)))
  all_left = ap (λ l. list_all test (flat_map moves_by l)) (left_at (bundles setting node state) j b at) ∙ list_all-append test (moves_by b) (left (j + 1))

  any_left : list_any test (left j) ≡ (list_any test (moves_by b) || list_any test (left (j + 1)))
  any_left = ap (λ l. list_any test (flat_map moves_by l)) (left_at (bundles setting node state) j b at) ∙ list_any-append test (moves_by b) (left (j + 1))

  -- one more bundle is tested
  pub all_on : (so_far led : Bool) → led ≡ list_all test (moves_by b) → (so_far && list_all test (left j)) ≡ list_all test (moves setting node state)
      → ((so_far && led) && list_all test (left (j + 1))) ≡ list_all test (moves setting node state)
  all_on so_far led is all =
      and_and so_far led (list_all test (left (j + 1)))
      ∙ (ap (λ x. so_far && (x && list_all test (left (j + 1)))) is ∙ (ap (λ x. so_far && x) (sym all_left) ∙ all))

  pub any_on : (found : Bool) → found ≡ list_any test (moves_by b) → list_any test (left j) ≡ list_any test (moves setting node state)
      → (found || list_any test (left (j + 1))) ≡ list_any test (moves setting node state)
  any_on found is any = ap (λ x. x || list_any test (left (j + 1))) is ∙ (sym any_left ∙ any)
