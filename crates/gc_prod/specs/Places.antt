-- Where a number stands among others.
use Rattle.std.specs.Prelude.{ℕ, suc, ◌==◌, List, [], ◌∷◌, if◌then◌else◌}

-- the place of a number among some, or how many these are where it is not among them
abbrev pub place_in : List ℕ → ℕ → ℕ
place_in [] node = 0
place_in (x ∷ nodes) node = if x == node then 0 else suc (place_in nodes node)
