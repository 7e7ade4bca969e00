use Rattle.std.proofs.Common.{Err, subst}
use Rattle.gc_ast.specs.QueryViews.{file_trees}
use Rattle.gc_ast.specs.Trees.{row}
use Rattle.gc_sorts.specs.Checks.{IsChecked}
use Rattle.gc_sorts.specs.SortRules.{first_breach}
use Rattle.gcore.proofs.SortedFiles.{broken_is}
use Rattle.gcore.proofs.query_file.sorted.Goals as goal

pub returns-in-Err-Broken : goal.returns-in-Err-Broken
returns-in-Err-Broken c =
    let found = first_breach c.args.graphs.now (row (file_trees c.args.file)) in
    broken_is c.args.file c.args.graphs.now found c.in-Err-Broken.rule c.in-Err-Broken.at (subst (λ r. IsChecked c.args.file c.args.graphs.now found (Err r)) c.in-Err-Broken.field-0-is c.in-Err-Broken.ensures)
