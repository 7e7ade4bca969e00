-- Pairs of values in turn.
use Rattle.std.specs.Prelude.{List, ◌++◌}
use Rattle.gc_grammar.specs.Patterns.{in_turn}
use Rattle.gc_parse_readers.specs.Readers.{Reading, Got, then_read}

-- values before those of a reading of pairs, in turn
abbrev pub in_front_in_turn : {A : Type 0} → List A → Reading (List (A × A)) → Reading (List A)
in_front_in_turn front reading = then_read reading λ pairs. λ end rest. Got (front ++ in_turn pairs) end rest
