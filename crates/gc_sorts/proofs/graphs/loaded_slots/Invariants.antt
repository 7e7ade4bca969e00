use Rattle.std.proofs.Common.{◌≡◌, ◌+◌, false, length, take, slice_index_or}
use Rattle.gc_base.specs.declared.place.Sym.{Sym}
use Rattle.gc_expr.specs.Views.{name_of}
use Rattle.gc_sorts.specs.Graphs.{has_name}
use Rattle.gc_sorts.specs.Orders.{slot}
use Rattle.gc_sorts.proofs.graphs.loaded_slots.Given as goal

-- the slots of the names so far are noted, and no others
abbrev pub invariant-loop-name : goal.invariant-loop-name
invariant-loop-name l = record {
  room : length l.slots.items ≡ length l.names + 1;
  noted : (sym : Sym) → slice_index_or l.slots.items (slot (length l.names) sym) false ≡ has_name (take l.name-index l.name-items) (name_of l.names sym);
}
