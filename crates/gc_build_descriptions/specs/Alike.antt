-- Descriptions of elements that may all have the same.
use Rattle.std.specs.Prelude.{ℕ, List, Option, Some, None, replicate}
use Rattle.gc_values.specs.Descriptions.{Description}

-- the one that so many elements have, or one for each
abbrev pub one_each : (alike : Option Description) → (count : ℕ) → (each : List Description) → List Description
one_each None count each = each
one_each (Some d) count each = replicate count d
