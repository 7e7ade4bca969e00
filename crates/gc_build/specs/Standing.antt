-- The instances of chains, by the variables at their places and by the paths that they project.
use Rattle.std.specs.Prelude.{ℕ, Bool, List, map}
use Rattle.std.specs.List.{flat_map, list_any}
use Rattle.gc_base.specs.declared.place.Sym.{Sym}
use Rattle.gc_build.specs.Kept.{Kept, is_kept}

-- a variable at a place of a chain with these instances, or a path that the chain projects
pub record Standing : Type 0 where
  pub var : Sym
  pub kept : Kept

-- those at the places of a chain, and of all chains
abbrev pub standing_as : Kept → List Sym → List Standing
standing_as k variables = map (λ x. record { var = x; kept = k }) variables

abbrev pub standing_in : Kept → List Standing
standing_in k = standing_as k k.places

abbrev pub standing : List Kept → List Standing
standing kept = flat_map standing_in kept

-- the paths that chains project
abbrev pub projected_in : Kept → List Standing
projected_in k = standing_as k k.projected

abbrev pub projected : List Kept → List Standing
projected kept = flat_map projected_in kept

-- one of them has a kept instance on the row at a place
abbrev pub has_kept : (place : ℕ) → List Standing → Bool
has_kept place found = list_any (λ s. is_kept place s.kept) found
