-- The walks that the table of a MATCH binds to a variable.
use Rattle.std.specs.Prelude.{◌≡◌, ℕ, List, Some}
use Rattle.std.specs.List.{Contains}
use Rattle.gc_base.specs.declared.place.Sym.{Sym}
use Rattle.gc_base.specs.declared.walk.Walk.{Walk}
use Rattle.gc_rows.specs.Rows.{datum_at}
use Rattle.gc_rows.specs.declared.datum.Datum.TheVariants as datum
use Rattle.gc_rows.specs.declared.row.Binding.{Binding}

-- some row binds a walk to a variable
pub record IsBound (rows : List (List Binding)) (p : Sym) (w : Walk) : Type 0 where
  pub row : List Binding
  pub among : Contains rows row
  pub bound : datum_at row p ≡ Some (datum.Found w)

-- it does, and the walk starts at a node
pub record IsBoundFrom (rows : List (List Binding)) (p : Sym) (start : ℕ) (w : Walk) : Type 0 where
  pub bound : IsBound rows p w
  pub starts : w.start ≡ start

-- a node is a source: some row binds a walk from it
abbrev pub IsSource : List (List Binding) → Sym → ℕ → Type 0
IsSource rows p start = (w : Walk) × IsBoundFrom rows p start w
