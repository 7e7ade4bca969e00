use Rattle.std.proofs.Common.{◌≡◌, ◌++◌, map}
use Rattle.gc_build_numbers.specs.Numbers.{bound_number}
use Rattle.gc_build_numbers.proofs.elements.bound.Given as goal

-- with the elements of the rest of the groups they are all elements
abbrev pub invariant-loop-group : goal.invariant-loop-group
invariant-loop-group l =
    l.elements.items ++ map (λ g. record { number = bound_number g.key; group = g }) l.group-iterator.rest.items
    ≡ map (λ g. record { number = bound_number g.key; group = g }) l.fn.groups.items
