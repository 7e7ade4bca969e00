-- Other names in rows.
use Rattle.std.proofs.Common.{◌≡◌, refl, ap, List, [], ◌∷◌, map}
use Rattle.gc_expr.specs.Trees.{Kind, TreeOf, row, more, renamed}

-- a row with other names is the row of the trees with other names
pub renamed_row : {A N M : Type 0} {k : Kind} (f : N → M) (g : A → TreeOf N k) (xs : List A) → renamed f (row (map g xs)) ≡ row (map (λ x. renamed f (g x)) xs)
unfolding renamed
renamed_row f g [] = refl
renamed_row f g (x ∷ xs) = ap (more (renamed f (g x))) (renamed_row f g xs)
