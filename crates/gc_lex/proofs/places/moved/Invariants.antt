use Rattle.std.proofs.Common.{◌≡◌}
use Rattle.gc_lex.specs.Places.{place_at}
use Rattle.gc_lex.proofs.places.moved.Given as goal

-- the place so far is that of the offset
abbrev pub invariant-loop-i : goal.invariant-loop-i
invariant-loop-i l = l.place ≡ place_at l.text l.i
