-- What a CONSTRUCT is read on.
use Rattle.std.specs.Prelude.{List, []}
use Rattle.gc_base.specs.declared.place.Sym.{Sym}
use Rattle.gc_rows.specs.declared.row.Binding.{Binding}
use Rattle.gc_spec.specs.PropertyGraph.{PropertyGraph}
use Rattle.gc_values.specs.Contexts.{Context}
use Rattle.gc_values.specs.declared.reads.ReadUse.{ReadUse}

-- the rows of a table and the order of its variables, the graphs by number, and those in which variables are read
pub record Setting : Type 0 where
  pub schema : List Sym
  pub rows : List (List Binding)
  pub reads : List ReadUse
  pub graphs : List PropertyGraph

-- one of the rows, before anything is made
abbrev pub on_row : Setting → List Binding → Context
on_row s row = record { row = row; reads = s.reads; graphs = s.graphs; made = [] }

-- the graphs in which variables are read
pub record ReadGraphs : Type 0 where
  pub reads : List ReadUse
  pub graphs : List PropertyGraph

abbrev pub read_graphs : Setting → ReadGraphs
read_graphs s = record { reads = s.reads; graphs = s.graphs }
