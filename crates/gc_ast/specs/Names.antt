-- Name tables: the names of a query file by number, each there once.
use Rattle.std.specs.Prelude.{ℕ, List, [], ◌∷◌, ◌++◌, Bool, Option, nat_eq, position, if◌then◌else◌}
use Rattle.std.specs.Cmp.Lexicographic.{pointwise}
use Rattle.std.specs.List.{list_any}
use Rattle.gc_expr.specs.Views.{Names}

-- whether two names are the same
abbrev pub same_name : List ℕ → List ℕ → Bool
same_name = pointwise nat_eq

-- a table with a name: one that it has keeps its number, a new one goes last
abbrev pub with_name : Names → List ℕ → Names
with_name names name = if list_any (same_name name) names then names else names ++ name ∷ []

-- the number of a name, if the table has it
abbrev pub number_in : Names → List ℕ → Option ℕ
number_in names name = position (same_name name) names
