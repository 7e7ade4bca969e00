-- S9. A GROUP or a copy is of a variable of the MATCH, or a second one of its variable; or the name of a new edge stands in
-- a second place.
-- `CONSTRUCT (x GROUP n), (x GROUP n) MATCH (n)` breaks it at the second GROUP.
use Rattle.std.specs.Prelude.{Bool, false, not, ◌&&◌, ◌||◌}
use Rattle.gc_sorts.specs.Constructs.{is_later}
use Rattle.gc_sorts.specs.Variables.{first_use, has_use}
use Rattle.gc_sort_rules.specs.Places.{Occurrence, At, Group, Copy, EdgeName}

abbrev pub breaks : Occurrence → Bool
breaks (At token (Group name groups) seen) = has_use seen.variables name || is_later (first_use groups name) token
breaks (At token (Copy name copies) seen) = has_use seen.variables name || is_later (first_use copies name) token
breaks (At token (EdgeName name made) seen) = not (has_use seen.variables name) && is_later (first_use made name) token
breaks occurrence = false
