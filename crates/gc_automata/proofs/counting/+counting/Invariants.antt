use Rattle.std.proofs.Common.{◌≡◌, ◌≤◌, ◌+◌, ◌-◌, ◌^◌, min, map, drop}
use Rattle.gc_regx.specs.Views.{regex_tree}
use Rattle.gc_automata.specs.Automata.{automaton_of, states_in}
use Rattle.gc_automata.proofs.counting.+counting.Given as goal

-- those counted and those to come are all
abbrev pub invariant-count_all-loop-part : goal.invariant-count_all-loop-part
invariant-count_all-loop-part l = record {
  most : l.all ≤ 2 ^ 64 - 1;
  whole : min (l.all + states_in (map (λ part. automaton_of (regex_tree part)) (drop l.part-index l.parts.items))) (2 ^ 64 - 1)
      ≡ min (states_in (map (λ part. automaton_of (regex_tree part)) l.parts.items)) (2 ^ 64 - 1);
}
