use Rattle.std.proofs.Common.{◌≡◌, ◌++◌, take}
use Rattle.gc_group.proofs.listed.list.Given as goal

-- with the literals so far
abbrev pub invariant-loop-literal : goal.invariant-loop-literal
invariant-loop-literal l = l.listed.items ≡ l.initial.listed.items ++ take l.literal-index l.literals
