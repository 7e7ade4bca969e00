use Rattle.std.proofs.Common.{ap, ◌∙◌}
use Rattle.gc_ast.specs.QueryViews.{file_trees}
use Rattle.gc_ast.specs.Trees.{row}
use Rattle.gc_sorts.specs.Ways.{Walk, statement_ways, with_ways}
use Rattle.gc_sorts.proofs.blocking.ways_in.Goals as goal

pub returns : goal.returns
returns c =
    c.ways.ensures ∙ c.in_ok-statements.ensures c.args.file.now.names
    ∙ ap (λ (w : Walk). with_ways w.ways (statement_ways 0 (row (file_trees c.args.file.now)))) c.new-walk.ensures
