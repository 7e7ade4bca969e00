-- Names of graphs and of views in scope, and the rules on them.
use Rattle.std.specs.Prelude.{ℕ, List, [], ◌∷◌, ◌++◌, Bool, not, Option, Some, None}
use Rattle.std.specs.List.{list_any}
use Rattle.gc_expr.specs.Views.{Names}
use Rattle.gc_ast.specs.Names.{same_name}
use Rattle.gc_ast.specs.Trees.{Named}
use Rattle.gc_sorts.specs.declared.breach.SortRule.TheVariants.{UnknownGraph, UnknownView, NameTaken}
use Rattle.gc_sorts.specs.Breaches.{Breaches, none, both, broken_if}

-- the graphs that are known: those of the session, and those that the query file has declared
pub record Known : Type 0 where
  pub names : Names
  pub loaded : List (List ℕ)
  pub declared : List (List ℕ)

-- all of them, in the order of their numbers
abbrev pub known : Known → List (List ℕ)
known graphs = graphs.loaded ++ graphs.declared

-- whether a name is on a list
abbrev pub has_name : List (List ℕ) → List ℕ → Bool
has_name names name = list_any (same_name name) names

-- a graph that is named has to be known
abbrev pub unknown_graph : List (List ℕ) → Named → Breaches
unknown_graph graphs g = broken_if (not (has_name graphs g.name)) UnknownGraph g.token

abbrev pub unknown_graph_if : List (List ℕ) → Option Named → Breaches
unknown_graph_if graphs None = none
unknown_graph_if graphs (Some g) = unknown_graph graphs g

-- a name that is given to a graph or a view has to be free
abbrev pub taken : List (List ℕ) → Named → Breaches
taken names x = broken_if (has_name names x.name) NameTaken x.token

-- views that are named have to be in scope
abbrev pub unknown_views : List (List ℕ) → List Named → Breaches
unknown_views views [] = none
unknown_views views (v ∷ vs) = both (broken_if (not (has_name views v.name)) UnknownView v.token) (unknown_views views vs)
