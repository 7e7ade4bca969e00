-- The order of transitions is total.
use Rattle.std.specs.Cmp.{IsTotalOrder, nat_cmp_total, on_total, then_total}
use Rattle.gc_automata.specs.declared.transition.Transition.{Transition}
use Rattle.gc_automata.specs.Machines.{transition_order}

pub transition_order_total : IsTotalOrder transition_order
transition_order_total = then_total (on_total (λ (t : Transition). t.from) nat_cmp_total) (on_total (λ (t : Transition). t.to) nat_cmp_total)
