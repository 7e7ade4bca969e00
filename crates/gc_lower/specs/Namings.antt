-- What the names and the tokens of a checked file stand for, by its reads.
use Rattle.std.specs.Prelude.{ℕ, List, length}
use Rattle.gc_ast.specs.QueryViews.{file_trees}
use Rattle.gc_ast.specs.Trees.{Tree, AStatement, row}
use Rattle.gc_sorts.specs.Blocks.{file_blocks}
use Rattle.gc_sorts.specs.Occurrences.{Occurrences, file_occurrences}
use Rattle.gc_sorts.specs.Reads.{graph_at, view_at, hidden_from}
use Rattle.gc_sorts.specs.declared.checked.Checked.{Checked}
use Rattle.gc_base.specs.declared.place.Sym.{Sym}
use Rattle.gc_expr.specs.Views.{Names, name_of}
use Rattle.gc_lower.specs.PathHeads.{path_heads}
use Rattle.gc_lower.specs.Scopes.{Scope, variable_of}
use Rattle.gc_lower.specs.declared.naming.Naming.{Naming}

-- what a query file says: the names of the graphs that it stands over, its name table, and its statements
pub record QueryFile : Type 0 where
  pub graphs : List (List ℕ)
  pub names : Names
  pub statements : List (Tree AStatement)

-- where the names of graphs and views and the unnamed elements of a file stand
abbrev pub occurrences_of : QueryFile → Occurrences
occurrences_of f = file_occurrences f.graphs (row f.statements)

-- what stands in a file, where chains without ON stand on the graph of a number
unfoldable pub scope_in : QueryFile → (on : ℕ) → Scope
scope_in f on =
    record {
      names = f.names;
      graph_at = graph_at (occurrences_of f);
      view_at = view_at (occurrences_of f);
      hidden_at = hidden_from (length f.names) (occurrences_of f);
      views = path_heads (row f.statements);
      blocks = file_blocks (row f.statements);
      on = on;
    }

-- a checked file as it is read
abbrev pub file_of : Checked → QueryFile
file_of c = record { graphs = c.graphs; names = c.file.names; statements = file_trees c.file }

abbrev pub scope_of : Checked → (on : ℕ) → Scope
scope_of c on = scope_in (file_of c) on

abbrev pub scope : Naming → Scope
scope n = scope_of n.checked.now n.on

-- the name table
abbrev pub names_of : Naming → Names
names_of n = n.checked.now.file.names

-- the variable of a name, by its number in the file
abbrev pub variable_in : Naming → Sym → Sym
variable_in n sym = variable_of (scope n) (name_of (names_of n) sym)
