-- The items of a list, one after another.
use Rattle.std.proofs.Common.{◌≡◌, ◌<◌, get_or, length, ℕ, zero, suc, ◌+◌, Bool, true, false, ◌&&◌, List, [], ◌∷◌, ◌++◌, drop, Some, refl, sym, ap, ◌∙◌, arith, slice_get}
use Rattle.std.specs.List.{list_all}

pub drop_at : {X : Type 0} (xs : List X) (i : ℕ) (x : X) → slice_get xs i ≡ Some x → drop i xs ≡ x ∷ drop (i + 1) xs
drop_at [] zero x h = cc
drop_at [] (suc i) x h = cc
drop_at (y ∷ ys) zero x h = let e : y ≡ x = cc in ap (λ z. z ∷ ys) e
drop_at (y ∷ ys) (suc i) x h =
    let next : suc i + 1 ≡ suc (i + 1) = omega arith in
    drop_at ys i x h ∙ ap (λ n. x ∷ drop n (y ∷ ys)) (sym next)

pub over_two : {X : Type 0} (p : X → Bool) (xs ys : List X) → list_all p (xs ++ ys) ≡ (list_all p xs && list_all p ys)
over_two p [] ys = refl
over_two p (x ∷ xs) ys = ap (λ b. p x && b) (over_two p xs ys) ∙ grouped (p x) (list_all p xs) (list_all p ys)
  where
    grouped : (a b c : Bool) → (a && (b && c)) ≡ ((a && b) && c)
    grouped true b c = refl
    grouped false b c = refl

-- the item of a loop, where it stands in the list
pub got : {X : Type 0} (xs : List X) (i : ℕ) (x : X) → i < length xs → x ≡ get_or xs i x → slice_get xs i ≡ Some x
got [] i x within read = absurd (omega (arith, within))
got (y ∷ ys) zero x within read = ap Some (sym read)
got (y ∷ ys) (suc i) x within read = got ys i x (omega (arith, within)) read

-- the item at a place that a list has, whatever stands for one that it lacks
pub at_place : {X : Type 0} (xs : List X) (i : ℕ) (d : X) → i < length xs → slice_get xs i ≡ Some (get_or xs i d)
at_place [] i d within = absurd (omega (arith, within))
at_place (y ∷ ys) zero d within = refl
at_place (y ∷ ys) (suc i) d within = at_place ys i d (omega (arith, within))
