use Rattle.std.proofs.Common.{◌∙◌}
use Rattle.std.proofs.lemmas.Result.{err_from_is_err_and}
use Rattle.gc_regx.specs.Views.{regex_tree}
use Rattle.gc_parse.proofs.DepthFaults.{depth_fault_is, depth_fault_is_none}
use Rattle.gc_parse.proofs.ParsedExpressions.{deep_expression_is_due, expression_is_due, expression_refusal_is_due}
use Rattle.gc_parse.proofs.parsing.parse_regex.Goals as goal

pub returns-in-Some-clause-due : goal.returns-in-Some-clause-due
returns-in-Some-clause-due c = deep_expression_is_due c.args.tokens.now.tokens c.in-Some.token (depth_fault_is c.args.tokens.now.tokens c.in-Some.token c.in-Some.ensures)

pub returns-in_err-whole_regex-clause-due : goal.returns-in_err-whole_regex-clause-due
returns-in_err-whole_regex-clause-due c =
    expression_refusal_is_due regex_tree c.args.tokens.now.tokens c.in_err-whole_regex.field-0.0 c.from_residual.result (err_from_is_err_and c.from_residual.result c.from_residual.ensures.1)
    (depth_fault_is_none c.args.tokens.now.tokens c.in_default.ensures) c.in_err-whole_regex.ensures.due

pub returns-clause-due : goal.returns-clause-due
returns-clause-due c =
    expression_is_due c.args.tokens.now.tokens (depth_fault_is_none c.args.tokens.now.tokens c.in_default.ensures) ∙ c.in_ok-whole_regex.ensures.due
