use Rattle.std.proofs.Common.{◌≡◌, ◌++◌, drop, filter}
use Rattle.gc_alg.specs.Mentions.{in_conjunct}
use Rattle.gc_alg.specs.Views.{conjunct_tree}
use Rattle.gc_explain.proofs.needing.occurring.Given as goal

-- those so far and those of the rest are all
abbrev pub invariant-loop-var : goal.invariant-loop-var
invariant-loop-var l =
    l.found.items ++ filter (λ x. in_conjunct x (conjunct_tree l.conjunct)) (drop l.var-index l.vars) ≡ filter (λ x. in_conjunct x (conjunct_tree l.conjunct)) l.vars
