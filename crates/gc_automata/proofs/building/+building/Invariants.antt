use Rattle.std.proofs.Common.{◌≡◌, ◌+◌, ◌++◌, map, drop}
use Rattle.gc_regx.specs.Views.{regex_tree}
use Rattle.gc_automata.specs.Automata.{automaton_of, states_in, transitions_in_turn, transitions_of_branches}
use Rattle.gc_automata.proofs.Turns.{turn_from}
use Rattle.gc_automata.proofs.building.+building.Given as goal

-- what is built and what is to come make the whole
abbrev pub invariant-build_in_turn-loop-i : goal.invariant-build_in_turn-loop-i
invariant-build_in_turn-loop-i l = record {
  states : l.next + states_in (map (λ part. automaton_of (regex_tree part)) (drop l.i l.parts.items))
      ≡ l.from + states_in (map (λ part. automaton_of (regex_tree part)) l.parts.items);
  whole : l.transitions.items ++ turn_from l.i (map (λ part. automaton_of (regex_tree part)) (drop l.i l.parts.items)) l.next
      ≡ l.fn.transitions.items ++ transitions_in_turn (map (λ part. automaton_of (regex_tree part)) l.parts.items) l.from;
}

abbrev pub invariant-build_branches-loop-part : goal.invariant-build_branches-loop-part
invariant-build_branches-loop-part l = record {
  states : l.next + states_in (map (λ part. automaton_of (regex_tree part)) (drop l.part-index l.parts.items))
      ≡ l.from + 1 + states_in (map (λ part. automaton_of (regex_tree part)) l.parts.items);
  whole : l.transitions.items ++ transitions_of_branches l.from l.last (map (λ part. automaton_of (regex_tree part)) (drop l.part-index l.parts.items)) l.next
      ≡ l.fn.transitions.items ++ transitions_of_branches l.from l.last (map (λ part. automaton_of (regex_tree part)) l.parts.items) (l.from + 1);
}
