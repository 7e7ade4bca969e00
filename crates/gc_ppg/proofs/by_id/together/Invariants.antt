use Rattle.std.proofs.Common.{◌≡◌}
use Rattle.std.specs.Ordering.{nat_cmp, on}
use Rattle.gc_base.specs.Ascending.{Ascends}
use Rattle.gc_ppg.specs.Collected.{KeysAreIds, in_order}
use Rattle.gc_ppg.proofs.by_id.together.Given as goal

-- the elements that are left ascend, and with the others they are all
abbrev pub invariant-loop-element : goal.invariant-loop-element
invariant-loop-element g l =
    KeysAreIds g.T.Element.id_of l.all.entries × Ascends (on g.T.Element.id_of nat_cmp) l.element-iterator.rest.items
    × (in_order g.T.Element.id_of l.element-iterator.rest.items l.all.entries ≡ in_order g.T.Element.id_of l.fn.ascending.items l.fn.others.entries)
