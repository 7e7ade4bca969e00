-- Nodes that are reached from one which a row binds, where the row does not bind them.
use Rattle.std.specs.Prelude.{ℕ, List, map}
use Rattle.gc_base.specs.declared.place.Sym.{Sym}
use Rattle.gc_rows.specs.Rows.{bind}
use Rattle.gc_rows.specs.declared.datum.Datum.TheVariants as datum
use Rattle.gc_rows.specs.declared.row.Binding.{Binding}
use Rattle.gc_alg.specs.Instances.{bound}
use Rattle.gc_exec.specs.declared.reached.Reached.{Reached}

-- a row with a node
abbrev pub row_at : List Binding → (far : Sym) → ℕ → List Binding
row_at row far node = bind row (bound far (datum.Node node))

-- a row with each of some nodes
abbrev pub rows_at : List Binding → (far : Sym) → List ℕ → List (List Binding)
rows_at row far nodes = map (row_at row far) nodes

abbrev pub reached_rows : List Binding → Reached → List (List Binding)
reached_rows row r = rows_at row r.far r.nodes
