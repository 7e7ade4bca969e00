-- The instance of a chain on a row has its places where the row makes an element of each of their variables.
use Rattle.std.proofs.Common.{◌≡◌, ℕ, ◌==◌, ◌&&◌, Bool, List, [], ◌∷◌, map, Option, Some, None, is_some, refl, ap, sym, ◌∙◌}
use Rattle.std.specs.List.{find, list_all}
use Rattle.std.specs.Option.{option_map, option_and_then}
use Rattle.gc_base.specs.declared.place.Sym.{Sym}
use Rattle.gc_build_numbers.specs.Keys.{number_in}
use Rattle.gc_build_numbers.specs.declared.numbered.Numbered.{Numbered}
use Rattle.gc_build_recipe.specs.declared.variable.Variable.{Variable}
use Rattle.gc_build.specs.Kept.{has_places}
use Rattle.gc_build.specs.Makers.{has_all, maker_of, makes}
use Rattle.gc_build.specs.Makings.{Making, identity_at, identity_by}

is_some_of : {A B : Type 0} (f : A → B) (o : Option A) → is_some o ≡ is_some (option_map f o)
is_some_of f None = refl
is_some_of f (Some x) = refl

module _ (m : Making) (place : ℕ) where
  by_variable : (o : Option Variable)
      → makes place (option_and_then (λ v. find (λ (n : Numbered). n.var.0 == v.var.0) m.numbered) o)
      ≡ is_some (option_and_then (λ v. option_map (identity_by m.next v.grouping) (option_and_then (number_in place) (find (λ (n : Numbered). n.var.0 == v.var.0) m.numbered))) o)
  by_variable None = refl
  by_variable (Some v) = is_some_of (identity_by m.next v.grouping) (option_and_then (number_in place) (find (λ (n : Numbered). n.var.0 == v.var.0) m.numbered))

  makes_at : (x : Sym) → makes place (maker_of m x) ≡ is_some (identity_at m x place)
  makes_at x = by_variable (find (λ v. v.var.0 == x.0) m.variables)

  pub all_made_at : (places : List Sym) → has_all place (map (maker_of m) places) ≡ list_all (λ x. is_some (identity_at m x place)) places
  all_made_at [] = refl
  all_made_at (x ∷ places) = λ i. makes_at x i && all_made_at places i
