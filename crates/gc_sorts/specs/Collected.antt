-- What is kept of the occurrences of a file: the numbers of graphs, views and hidden variables by token.
use Rattle.std.specs.Prelude.{ℕ, ◌+◌, List, [], Option, Some, None, nat_eq, is_some, if◌then◌else◌}
use Rattle.std.specs.Map.{lookup}
use Rattle.indexmap.specs.IndexMap.{insert_entry}
use Rattle.gc_expr.specs.Views.{Names}
use Rattle.gc_ast.specs.Trees.{Kind, Tree}
use Rattle.gc_sorts.specs.Occurrences.{Occurrence, Occurrences, GraphName, ViewName, Unnamed, none, one, both, occurrences}
use Rattle.gc_sorts.specs.Scopes.{Scope, behind, graph_number, view_number}

-- the number of a token among pairs of a token and its number
abbrev pub number_of : List (ℕ × ℕ) → ℕ → Option ℕ
number_of pairs token = lookup (nat_eq token) pairs

-- pairs with a token's number, unless it has one
abbrev pub with_first : List (ℕ × ℕ) → ℕ → ℕ → List (ℕ × ℕ)
with_first pairs token number = if is_some (number_of pairs token) then pairs else insert_entry nat_eq pairs token number

abbrev pub with_number : List (ℕ × ℕ) → ℕ → Option ℕ → List (ℕ × ℕ)
with_number pairs token None = pairs
with_number pairs token (Some number) = with_first pairs token number

-- the numbers of graphs, of views and of hidden variables by token, and the next hidden variable
pub record Collected : Type 0 where
  pub graphs : List (ℕ × ℕ)
  pub views : List (ℕ × ℕ)
  pub hidden : List (ℕ × ℕ)
  pub next : ℕ

-- nothing yet of a file with so many names
abbrev pub nothing : ℕ → Collected
nothing names = record { graphs = []; views = []; hidden = []; next = names }

-- the same with one occurrence
abbrev pub with_one : Collected → Occurrence → Collected
with_one c (GraphName token name scope) = record c { graphs = with_number c.graphs token (graph_number scope name) }
with_one c (ViewName token name scope) = record c { views = with_number c.views token (view_number scope name) }
with_one c (Unnamed token) = record c { hidden = with_first c.hidden token c.next; next = c.next + 1 }

-- and with all in turn
abbrev pub collect : Collected → Occurrences → Collected
collect c none = c
collect c (one o) = with_one c o
collect c (both left right) = collect (collect c left) right

-- a name table, and what is in scope
pub record HeldScope : Type 0 where
  pub names : Names
  pub at : Scope

-- what is in scope behind a tree, by what the name table makes of it
abbrev pub scope_behind : {k : Kind} → HeldScope → (Names → Tree k) → HeldScope
scope_behind h tree = record { names = h.names; at = behind h.at (tree h.names) }

-- what is kept with the occurrences of a tree
abbrev pub read_in : {k : Kind} → Collected → HeldScope → (Names → Tree k) → Collected
read_in c h tree = collect c (occurrences h.at (tree h.names))
