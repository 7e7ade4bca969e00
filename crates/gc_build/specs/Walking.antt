-- The instances of chains that have the walk of a path.
use Rattle.std.specs.Prelude.{ℕ, Bool, ◌||◌}
use Rattle.std.specs.Option.{option_copied}
use Rattle.gc_build_recipe.specs.Places.{listed}
use Rattle.gc_build.specs.Standing.{has_kept}
use Rattle.gc_build.specs.declared.standing.Walking.{Walking}

-- one of those that store the path, or of those that project it, is kept on the row at a place
abbrev pub has_either : (place : ℕ) → Walking → Bool
has_either place own = has_kept place (listed (option_copied own.stored)) || has_kept place (listed (option_copied own.projected))
