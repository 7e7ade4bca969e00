use Rattle.std.proofs.Common.{◌≡◌, take}
use Rattle.gc_parse.proofs.parsing.places_of.Given as goal

-- the places so far are those of the tokens so far
abbrev pub invariant-loop-number : goal.invariant-loop-number
invariant-loop-number l = l.places ≡ take l.number l.tokens.places
