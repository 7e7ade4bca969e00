use Rattle.std.proofs.Common.{◌≡◌, ◌++◌, map, drop}
use Rattle.gc_ast.specs.QueryViews.{file_trees, head_tree, statement_tree}
use Rattle.gc_ast.specs.Trees.{row}
use Rattle.gc_lower.specs.PathHeads.{path_heads}
use Rattle.gc_query.proofs.path_heads.path_heads.Given as goal

-- what is pushed, and what is left, make the whole
abbrev pub invariant-loop-statement : goal.invariant-loop-statement
invariant-loop-statement l =
    map (λ h. head_tree l.file.names h.now) l.heads.items ++ path_heads (row (map (statement_tree l.file.names) (drop l.statement-index l.file.statements.items)))
    ≡ path_heads (row (file_trees l.file))
