-- The trees of a row by number, where the row is made of a list.
use Rattle.std.proofs.Common.{◌≡◌, ℕ, zero, suc, List, [], ◌∷◌, map, refl}
use Rattle.std.specs.Prelude.{slice_get}
use Rattle.std.specs.Option.{option_map}
use Rattle.gc_ast.specs.Trees.{Tree, Kind, row}
use Rattle.gc_sorts.specs.Blocks.{nth}

pub nth_row : {A : Type 0} {k : Kind} (f : A → Tree k) (xs : List A) (n : ℕ) → nth (row (map f xs)) n ≡ option_map f (slice_get xs n)
nth_row f [] n = refl
nth_row f (x ∷ xs) zero = refl
nth_row f (x ∷ xs) (suc n) = nth_row f xs n
