use Rattle.std.proofs.Common.{◌≡◌, ◌-◌, ◌≤◌, length}
use Rattle.gc_lex.specs.Places.{place_at}
use Rattle.gc_lex.proofs.Progress.{LexedTo}
use Rattle.gc_lex.proofs.lexer.tokens_of.Given as goal

abbrev pub invariant-items : goal.invariant-items
invariant-items l = record {
  within : l.at ≤ length l.text;
  here : l.place ≡ place_at l.text l.at;
  paired : length l.tokens ≡ length l.places;
  so_far : LexedTo l.text l.tokens l.places l.at;
}

abbrev pub decreases-items : goal.decreases-items
decreases-items l = length l.text - l.at
