use Rattle.std.proofs.Common.{◌≡◌, ◌++◌}
use Rattle.gc_build_numbers.specs.Numbers.{numbered_from}
use Rattle.gc_build_numbers.proofs.elements.numbered.Given as goal

-- with the elements of the rest of the groups they are all elements
abbrev pub invariant-loop-group : goal.invariant-loop-group
invariant-loop-group l = l.elements.items ++ numbered_from l.number l.group-iterator.rest.items ≡ numbered_from l.fn.next l.fn.groups.items
