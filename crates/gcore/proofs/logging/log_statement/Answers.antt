use Rattle.std.proofs.Common.{◌≡◌, List, Option, None, Some, Ok, subst}
use Rattle.gc_ast.specs.QueryViews.{file_trees}
use Rattle.gc_ast.specs.Trees.{Tree, AStatement}
use Rattle.gc_lower.specs.Namings.{scope_of}
use Rattle.gc_lower.specs.Scopes.{Scope}
use Rattle.gcore.proofs.LogLaws.{told_by}
use Rattle.gcore.proofs.logging.log_statement.Goals as goal

pub returns-in-Ok : goal.returns-in-Ok
returns-in-Ok g c = λ statement there.
    told_by (scope_of c.args.checked.now 0) c.args.catalog.now c.step.new.catalog c.args.log.now c.step.new.log statement c.in-Ok.field-0 (c.in-Ok.ensures.step statement there) (c.in-Ok.ensures.log statement there)
