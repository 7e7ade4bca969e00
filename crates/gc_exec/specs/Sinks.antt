-- What takes the rows that come out of a pipeline.
use Rattle.std.specs.Prelude.{◌≡◌, ◌↔◌, ◌⊎◌, Bool, true, List}
use Rattle.gc_rows.specs.declared.row.Binding.{Binding}
use Rattle.gc_exec.specs.Found.{AreExactly}
use Rattle.gc_exec.specs.Sources.{HasGathered}
use Rattle.gc_exec.specs.declared.sink.Sink.{Sink}
use Rattle.gc_exec.specs.declared.sink.Sink.TheVariants as into

-- a sink before and after the rows of which something holds went into it: an array has them behind its own; and where it is only kept
-- whether there is a row, there was one before or there is one of these
abbrev pub IsSunk : (List Binding → Type 0) → Sink → Sink → Type 0
IsSunk Holds (into.All old) (into.All new) = HasGathered (AreExactly Holds) old new
IsSunk Holds (into.Any before) (into.Any after) = (after ≡ true) ↔ ((before ≡ true) ⊎ ((row : List Binding) × Holds row))
IsSunk Holds (into.All old) (into.Any after) = ⊥
IsSunk Holds (into.Any before) (into.All new) = ⊥

-- there is a row, and it is kept of rows only whether there is one
abbrev pub IsFull : Sink → Type 0
IsFull (into.All array) = ⊥
IsFull (into.Any has) = has ≡ true
