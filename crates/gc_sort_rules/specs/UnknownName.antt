-- S3. A name is no variable that may be named there: in a WHERE or a COST one of the block or of one around it; in a
-- GROUP, a copy, an assignment or a path of a CONSTRUCT one of the MATCH; in a WHEN also one of the CONSTRUCT. A target of
-- SET or REMOVE is a node, an edge or a stored path of the CONSTRUCT.
-- `CONSTRUCT (n) MATCH (n) WHERE m.a = 1` breaks it at `m`.
use Rattle.std.specs.Prelude.{ℕ, List, Bool, false, not, ◌||◌}
use Rattle.gc_sorts.specs.Graphs.{has_name}
use Rattle.gc_sorts.specs.Variables.{Use, has_use}
use Rattle.gc_sort_rules.specs.Places.{Occurrence, At, Name, Target}

-- whether a name is one that SET and REMOVE may change
abbrev pub is_target : (made : List Use) → (stored : List (List ℕ)) → List ℕ → Bool
is_target made stored name = has_use made name || has_name stored name

abbrev pub breaks : Occurrence → Bool
breaks (At token (Name name) seen) = not (has_use seen.variables name)
breaks (At token (Target name known made stored) seen) = not (is_target made stored name)
breaks occurrence = false
