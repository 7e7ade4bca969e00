use Rattle.std.proofs.Common.{◌≡◌, ◌+◌, ◌++◌, drop, map}
use Rattle.gc_alg.specs.Views.{part_tree}
use Rattle.gc_explain_query.specs.QueryLines.{optional_lines}
use Rattle.gc_explain_query.proofs.queries.push_optionals.Given as goal

-- the lines so far and those of the rest are all
abbrev pub invariant-loop-index : goal.invariant-loop-index
invariant-loop-index l =
    l.text.items ++ optional_lines l.graphs (l.index + 1) (map part_tree (drop l.index l.parts))
    ≡ l.initial.text.items ++ optional_lines l.graphs 1 (map part_tree l.parts)
