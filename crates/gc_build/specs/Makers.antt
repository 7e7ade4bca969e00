-- The elements of the variables at the places of a chain, and at the ends of an edge.
use Rattle.std.specs.Prelude.{◌≡◌, ℕ, ◌==◌, Bool, List, Option, is_some, ⊤}
use Rattle.std.specs.List.{find, list_all}
use Rattle.std.specs.Option.{option_and_then, option_copied}
use Rattle.gc_base.specs.declared.place.Sym.{Sym}
use Rattle.gc_build_recipe.specs.declared.variable.Grouping.{Grouping}
use Rattle.gc_build_recipe.specs.declared.variable.Grouping.TheVariants as by
use Rattle.gc_build_numbers.specs.Keys.{number_in}
use Rattle.gc_build_numbers.specs.declared.numbered.Numbered.{Numbered}
use Rattle.gc_build.specs.Makings.{Making}
use Rattle.gc_build.specs.declared.making.EndMakers.{EndMakers}
use Rattle.gc_build.specs.declared.making.Maker.{Maker}

-- the variable of a number with its elements, if the CONSTRUCT has it
abbrev pub maker_of : Making → Sym → Option Numbered
maker_of m x = option_and_then (λ v. find (λ n. n.var.0 == v.var.0) m.numbered) (find (λ v. v.var.0 == x.0) m.variables)

-- the row at a place makes an element of it, and of each of several
abbrev pub makes : (place : ℕ) → Option Numbered → Bool
makes place maker = is_some (option_and_then (number_in place) maker)

abbrev pub has_all : (place : ℕ) → List (Option Numbered) → Bool
has_all place makers = list_all (makes place) makers

-- this makes the elements of a variable: the variable and its elements, so far as the CONSTRUCT has them
pub record IsMaker (m : Making) (x : Sym) (k : Maker) : Type 0 where
  pub variable : option_copied k.variable ≡ find (λ v. v.var.0 == x.0) m.variables
  pub numbered : option_copied k.numbered ≡ maker_of m x

-- and this those at the ends of what is grouped so; only edges have ends
abbrev pub AreEndMakers : Making → Grouping → EndMakers → Type 0
AreEndMakers m (by.Link source target terms) k = IsMaker m source k.source × IsMaker m target k.target
AreEndMakers m grouping k = ⊤
