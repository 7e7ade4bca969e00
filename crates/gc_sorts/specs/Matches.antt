-- Where variables stand in the patterns of a MATCH and its OPTIONAL blocks.
use Rattle.std.specs.Prelude.{ℕ, List, [], ◌∷◌, ◌++◌, Bool, false, not, ◌&&◌, ◌||◌, Option, Some, None, nat_eq, nat_le, nat_lt, length, if◌then◌else◌}
use Rattle.gc_ast.specs.Trees as tree
use Rattle.gc_ast.specs.Trees.{Tree, TreeOf, RowOf, AnOptional}
use Rattle.gc_sorts.specs.declared.breach.SortRule.TheVariants.{SortClash, TwiceBound, SharedOptional}
use Rattle.gc_sorts.specs.declared.sort.Sort.{Sort}
use Rattle.gc_sorts.specs.declared.sort.Sort.TheVariants.{Node, Edge, Stored, Found, All, Value}
use Rattle.gc_sorts.specs.Breaches.{Breaches, none, both, broken, broken_if}
use Rattle.gc_sorts.specs.Orders.{first_place}
use Rattle.gc_sorts.specs.Uses.{optional_uses}
use Rattle.gc_sorts.specs.Variables.{Use, sort_of, is_single, is_property, use_names, first_use, has_cost}

-- a number for each sort, by which they are compared
abbrev pub sort_number : Sort → ℕ
sort_number Node = 0
sort_number Edge = 1
sort_number Stored = 2
sort_number Found = 3
sort_number All = 4
sort_number Value = 5

abbrev pub same_sort : Sort → Sort → Bool
same_sort a b = nat_eq (sort_number a) (sort_number b)

-- whether a variable, by its first place, may stand at no other: a found path, an ALL path, or a value
-- that is a cost at some place
abbrev pub stands_once : List Use → Use → Bool
stands_once uses first = is_single first.role || (is_property first.role && has_cost uses first.name)

-- a place beside the first one of its variable: of a variable that stands once it is one too many, and
-- of another it has to be of the same sort
abbrev pub later_place : List Use → Use → Use → Breaches
later_place uses first u =
    if nat_eq first.token u.token then none
    else if stands_once uses first then broken TwiceBound u.token
    else broken_if (not (same_sort (sort_of first.role) (sort_of u.role))) SortClash u.token

abbrev pub beside : List Use → Option Use → Use → Breaches
beside uses None u = none
beside uses (Some first) u = later_place uses first u

-- a place, among all that are in scope
abbrev pub place_breaches : List Use → Use → Breaches
place_breaches uses u = beside uses (first_use uses u.name) u

-- what each place of a list breaks
abbrev pub each_use : (Use → Breaches) → List Use → Breaches
each_use f [] = none
each_use f (u ∷ us) = both (f u) (each_use f us)

-- whether a variable's first place is one of the numbers from one to another
abbrev pub is_between : ℕ → ℕ → Option ℕ → Bool
is_between from upto None = false
is_between from upto (Some place) = nat_le from place && nat_lt place upto

-- a place in an OPTIONAL block: behind the mandatory places, of which there are so many, the variable
-- may not have its first place before this block, before which there are so many
abbrev pub shared_place : List Use → (mandatory before : ℕ) → Use → Breaches
shared_place uses mandatory before u =
    broken_if (is_between mandatory before (first_place (use_names uses) u.name)) SharedOptional u.token

-- the places of OPTIONAL blocks behind those of a list, in which so many are mandatory
abbrev pub shared_breaches : ℕ → List Use → Tree (RowOf AnOptional) → Breaches
shared_breaches mandatory uses tree.none = none
shared_breaches mandatory uses (tree.more o os) =
    both (each_use (shared_place (uses ++ optional_uses o) mandatory (length uses)) (optional_uses o))
    (shared_breaches mandatory (uses ++ optional_uses o) os)
