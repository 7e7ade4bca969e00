-- Rows where they lie.
use Rattle.std.specs.Prelude.{List}
use Rattle.gc_rows.specs.declared.row.Binding.{Binding}
use Rattle.gc_rows.specs.declared.view.RowPlace.{RowPlace}
use Rattle.gc_rows.specs.declared.view.RowPlace.TheVariants.{Alone, InArray}

-- the row at a place
abbrev pub row_at : RowPlace → List Binding
row_at (Alone row) = row.now
row_at (InArray row) = row.row
