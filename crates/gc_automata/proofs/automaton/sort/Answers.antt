use Rattle.std.proofs.Common.{rules}
use Rattle.std.specs.Ordering.{is_lt}
use Rattle.std.proofs.lemmas.Fn.{always_returns_same}
use Rattle.std.proofs.lemmas.List.Sorted.{ranks_by}
use Rattle.gc_automata.specs.Machines.{transition_order}
use Rattle.gc_automata.proofs.Orders.{transition_order_total}
use Rattle.gc_automata.proofs.automaton.sort.Goals as goal

pub returns-clause-ascend : goal.returns-clause-ascend
returns-clause-ascend c =
    c.in_ok-sort_by.ensures.sorted (λ x y. is_lt (transition_order x y)) (ranks_by transition_order_total (λ x. x)) (always_returns_same _ _ _ (λ a r f called. search rules))
