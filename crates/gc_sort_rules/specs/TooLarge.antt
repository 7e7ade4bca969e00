-- S15. The automaton of a regular path expression has more than 1,024 states; or a pattern is the 101st of its block, or an
-- OPTIONAL the 101st of its query.
-- `CONSTRUCT (n) MATCH (n), (n), ..` with 101 times `(n)` breaks it at the last of them.
use Rattle.std.specs.Prelude.{Bool, false, nat_lt, nat_eq}
use Rattle.gc_automata.specs.Automata.{automaton_of}
use Rattle.gc_sort_rules.specs.Places.{Occurrence, At, Regex, Pattern, Optional}

abbrev pub breaks : Occurrence → Bool
breaks (At token (Regex expression) seen) = nat_lt 1024 (automaton_of expression).states
breaks (At token (Pattern before) seen) = nat_eq before 100
breaks (At token (Optional before) seen) = nat_eq before 100
breaks occurrence = false
