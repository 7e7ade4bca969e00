use Rattle.std.proofs.Common.{◌≡◌, ◌++◌, take}
use Rattle.gc_rules.proofs.occurring.push_all.Given as goal

-- those so far
abbrev pub invariant-loop-var : goal.invariant-loop-var
invariant-loop-var l = l.vars.items ≡ l.initial.vars.items ++ take l.var-index l.more
