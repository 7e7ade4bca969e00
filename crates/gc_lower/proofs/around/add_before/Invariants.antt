use Rattle.std.proofs.Common.{◌≡◌, ◌++◌}
use Rattle.gc_ast.specs.QueryViews.{basic_tree}
use Rattle.gc_lower.specs.Namings.{names_of, scope}
use Rattle.gc_lower.specs.Sights.{reads_before}
use Rattle.gc_lower.proofs.around.add_before.Given as goal

-- what the parts so far read is put behind
abbrev pub invariant-loop-number : goal.invariant-loop-number
invariant-loop-number l = l.reads.items ≡ l.initial.reads.items ++ reads_before (scope l.naming) (basic_tree (names_of l.naming) l.basic) l.number
