-- What is claimed for elements, one after another.
use Rattle.std.proofs.Common.{◌≡◌, refl, sym, ap, ◌∙◌, ℕ, zero, suc, ◌+◌, ◌<◌, List, [], ◌∷◌, ◌++◌, append-nil, append_assoc, length, get_or, drop, slice_get, Option, arith, add-one, if◌then◌else◌}
use Rattle.std.specs.Option.{option_to_list}
use Rattle.gc_base.specs.declared.place.Sym.{Sym}
use Rattle.gc_build_numbers.specs.declared.numbered.Element.{Element}
use Rattle.gc_build.specs.Claimed.{claims_of}
use Rattle.gc_build.specs.Kept.{Kept, is_claimed}
use Rattle.gc_values.specs.Descriptions.{Description}

module _ {X : Type 0} (kept : List Kept) (x : Sym) (claim : Element → Description → List X) where
  pub none_described : (es : List Element) → claims_of kept x claim es [] ≡ []
  none_described [] = refl
  none_described (e ∷ es) = refl

  -- what is claimed from a place on is that for the element there and that for those after it
  claims_step : (es : List Element) (ds : List Description) (i : ℕ) (e : Element) → i < length es
      → claims_of kept x claim (drop i es) (drop i ds)
      ≡ claims_of kept x claim (get_or es i e ∷ []) (option_to_list (slice_get ds i)) ++ claims_of kept x claim (drop (suc i) es) (drop (suc i) ds)
  claims_step [] ds i e h = absurd (omega (arith, h))
  claims_step (y ∷ es) [] zero e h = sym (none_described es)
  claims_step (y ∷ es) [] (suc i) e h = none_described (drop i es) ∙ sym (none_described (drop (suc i) es))
  claims_step (y ∷ es) (d ∷ ds) zero e h = ap (λ c. c ++ claims_of kept x claim es ds) (sym (append-nil (if is_claimed kept x y then claim y d else [])))
  claims_step (y ∷ es) (d ∷ ds) (suc i) e h = claims_step es ds i e (omega (arith, h))

  -- one element more
  pub claimed_next : (es : List Element) (ds : List Description) (i : ℕ) (e : Element) (d : Option Description) (before after all : List X) → i < length es → e ≡ get_or es i e
      → d ≡ slice_get ds i → before ++ claims_of kept x claim (drop i es) (drop i ds) ≡ all
      → after ≡ before ++ claims_of kept x claim (e ∷ []) (option_to_list d)
      → after ++ claims_of kept x claim (drop (i + 1) es) (drop (i + 1) ds) ≡ all
  claimed_next es ds i e d before after all h is told so_far next =
      let here = claims_of kept x claim (e ∷ []) (option_to_list d) in
      let later = claims_of kept x claim (drop (suc i) es) (drop (suc i) ds) in
      rw add-one
      (ap (λ c. c ++ later) next ∙ append_assoc before here later
      ∙ ap (λ c. before ++ (c ++ later)) (λ j. claims_of kept x claim (is j ∷ []) (option_to_list (told j)))
      ∙ ap (λ c. before ++ c) (sym (claims_step es ds i e h)) ∙ so_far)
