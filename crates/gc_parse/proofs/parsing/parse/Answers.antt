use Rattle.std.proofs.Common.{◌∙◌}
use Rattle.std.proofs.lemmas.Result.{err_from_is_err_and}
use Rattle.gc_ast.specs.QueryViews.{file_trees}
use Rattle.gc_parse.proofs.DepthFaults.{depth_fault_is, depth_fault_is_none}
use Rattle.gc_parse.proofs.WholeFile.{deep_is_due, reading_is_due, refusal_is_due}
use Rattle.gc_parse.proofs.parsing.parse.Goals as goal

pub returns-in-Some-clause-due : goal.returns-in-Some-clause-due
returns-in-Some-clause-due c = deep_is_due c.args.tokens.now.tokens c.in-Some.number (depth_fault_is c.args.tokens.now.tokens c.in-Some.number c.in-Some.ensures)

pub returns-in_err-whole_file-clause-due : goal.returns-in_err-whole_file-clause-due
returns-in_err-whole_file-clause-due c =
    refusal_is_due file_trees c.args.tokens.now.tokens c.in_err-whole_file.field-0.0 c.from_residual.result (err_from_is_err_and c.from_residual.result c.from_residual.ensures.1)
    (depth_fault_is_none c.args.tokens.now.tokens c.in_default.ensures) c.in_err-whole_file.ensures.due

pub returns-clause-due : goal.returns-clause-due
returns-clause-due c =
    reading_is_due c.args.tokens.now.tokens (depth_fault_is_none c.args.tokens.now.tokens c.in_default.ensures) ∙ c.in_ok-whole_file.ensures.due
