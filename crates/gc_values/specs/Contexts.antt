-- What an expression is read on: a row, graphs by number, and which of them each variable is read in.
use Rattle.std.specs.Prelude.{ℕ, ◌==◌, List, Option, Some, None, slice_get}
use Rattle.std.specs.List.{find}
use Rattle.std.specs.Option.{option_map, option_and_then}
use Rattle.gc_base.specs.declared.place.Sym.{Sym}
use Rattle.gc_rows.specs.Rows.{datum_at}
use Rattle.gc_rows.specs.declared.datum.Datum.{Datum}
use Rattle.gc_rows.specs.declared.row.Binding.{Binding}
use Rattle.gc_spec.specs.PropertyGraph.{PropertyGraph}
use Rattle.gc_values.specs.declared.reads.ReadUse.{ReadUse}
use Rattle.gc_values.specs.declared.reads.Made.{Made}

-- the row; for a variable the numbers of its graphs; the graphs; in a WHEN the construct variables as they were made
pub record Context : Type 0 where
  pub row : List Binding
  pub reads : List ReadUse
  pub graphs : List PropertyGraph
  pub made : List Made

-- the graph of a variable, if it has one: of its two numbers the one that is asked for
abbrev pub graph_by : (ReadUse → ℕ) → List ReadUse → List PropertyGraph → Sym → Option PropertyGraph
graph_by number reads graphs x = option_and_then (slice_get graphs) (option_map number (find (λ read. read.var.0 == x.0) reads))

-- among graphs, the one in which a variable's own labels, properties and walk are read
abbrev pub own_among : List ReadUse → List PropertyGraph → Sym → Option PropertyGraph
own_among = graph_by (λ read. read.own)

-- among graphs, the one in which the elements on a variable's walk are read
abbrev pub walk_among : List ReadUse → List PropertyGraph → Sym → Option PropertyGraph
walk_among = graph_by (λ read. read.walk)

-- the same in a context
abbrev pub own_graph : Context → Sym → Option PropertyGraph
own_graph ctx x = own_among ctx.reads ctx.graphs x

abbrev pub walk_graph : Context → Sym → Option PropertyGraph
walk_graph ctx x = walk_among ctx.reads ctx.graphs x

-- what was made of a construct variable, if it is one
abbrev pub made_of : Context → Sym → Option Made
made_of ctx x = find (λ m. m.var.0 == x.0) ctx.made

-- what a variable stands for; that of a construct variable is told with what was made of it
abbrev pub datum_made_or : Option Datum → Option Made → Option Datum
datum_made_or on_row None = on_row
datum_made_or on_row (Some m) = m.datum

abbrev pub datum_of : Context → Sym → Option Datum
datum_of ctx x = datum_made_or (datum_at ctx.row x) (made_of ctx x)
