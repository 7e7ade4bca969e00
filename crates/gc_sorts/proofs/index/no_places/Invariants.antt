use Rattle.std.proofs.Common.{◌≡◌, ℕ, None, length, slice_index_or}
use Rattle.gc_sorts.proofs.index.no_places.Given as goal

-- no name of the places so far came
abbrev pub invariant-loop : goal.invariant-loop
invariant-loop l = record { so_far : length l.first.items ≡ l.counter; empty : (k : ℕ) → slice_index_or l.first.items k None ≡ None }
