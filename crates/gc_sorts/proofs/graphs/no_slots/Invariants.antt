use Rattle.std.proofs.Common.{◌≡◌, ℕ, false, length, slice_index_or}
use Rattle.gc_sorts.proofs.graphs.no_slots.Given as goal

-- no slot so far is noted
abbrev pub invariant-loop : goal.invariant-loop
invariant-loop l = record { so_far : length l.slots.items ≡ l.counter; empty : (k : ℕ) → slice_index_or l.slots.items k false ≡ false }
