-- Variables: the places at which they stand, and what they stand for.
use Rattle.std.specs.Prelude.{ℕ, List, Bool, true, false, Option, map, is_some}
use Rattle.std.specs.List.{find, filter, list_any}
use Rattle.std.specs.Option.{option_map}
use Rattle.gc_expr.specs.Views.{Names, name_of}
use Rattle.gc_ast.specs.Names.{same_name}
use Rattle.gc_sorts.specs.declared.sort.Sort.{Sort}
use Rattle.gc_sorts.specs.declared.sort.Sort.TheVariants as sort
use Rattle.gc_sorts.specs.declared.sort.Role.{Role}
use Rattle.gc_sorts.specs.declared.sort.Role.TheVariants.{Node, Edge, Stored, Found, All, Property, Cost}
use Rattle.gc_sorts.specs.declared.sort.UseAt.{UseAt}

-- a place at which a variable stands: its name, its token, and what it is there
pub record Use : Type 0 where
  pub name : List ℕ
  pub token : ℕ
  pub role : Role

-- a place with the bytes of its name
abbrev pub use_by : Names → UseAt → Use
use_by names u = record { name = name_of names u.name; token = u.token; role = u.role }

-- the sort of what stands in a place
abbrev pub sort_of : Role → Sort
sort_of Node = sort.Node
sort_of Edge = sort.Edge
sort_of Stored = sort.Stored
sort_of Found = sort.Found
sort_of All = sort.All
sort_of Property = sort.Value
sort_of Cost = sort.Value

-- whether a place is behind COST
abbrev pub is_cost : Role → Bool
is_cost Cost = true
is_cost role = false

-- whether a place binds a property's values
abbrev pub is_property : Role → Bool
is_property Property = true
is_property role = false

-- whether what stands in a place may stand in one alone: a found path, an ALL path, a cost
abbrev pub is_single : Role → Bool
is_single Found = true
is_single All = true
is_single Cost = true
is_single role = false

-- the names of places
abbrev pub use_names : List Use → List (List ℕ)
use_names uses = map (λ u. u.name) uses

-- the first place of a name
abbrev pub first_use : List Use → List ℕ → Option Use
first_use uses name = find (λ u. same_name name u.name) uses

-- the sort of a name, which is that of its first place
abbrev pub first_sort : List Use → List ℕ → Option Sort
first_sort uses name = option_map (λ u. sort_of u.role) (first_use uses name)

-- whether a name has a place
abbrev pub has_use : List Use → List ℕ → Bool
has_use uses name = is_some (first_use uses name)

-- the names of the places behind COST
abbrev pub cost_names : List Use → List (List ℕ)
cost_names uses = use_names (filter (λ u. is_cost u.role) uses)

-- whether a name has a place behind COST
abbrev pub has_cost : List Use → List ℕ → Bool
has_cost uses name = list_any (same_name name) (cost_names uses)

-- a name table, and places of variables in order
pub record Scope : Type 0 where
  pub names : Names
  pub uses : List Use
