use Rattle.std.proofs.Common.{◌+◌, map}
use Rattle.std.proofs.lemmas.Result.{err_from_is_err_and}
use Rattle.gc_ast.specs.QueryViews.{statement_tree}
use Rattle.gc_parse.proofs.WholeFile.{file_found, file_exits}
use Rattle.gc_parse.proofs.parsing.statements_of.Goals as goal
use native.Mathlib.Omega.{arith}

pub returns-in_err-statements-clause-right : goal.returns-in_err-statements-clause-right
returns-in_err-statements-clause-right c =
    (file_exits (λ statements. map (statement_tree c.args.source.now.names) statements.items) c.args.source.now.tokens (c.from-room.result + 1) c.in_err-statements.field-0.0 c.from_residual.result
    (omega (arith, c.from-room.ensures, c.len.ensures)) (err_from_is_err_and c.from_residual.result c.from_residual.ensures.1) c.in_err-statements.ensures).0

pub returns-clause-right : goal.returns-clause-right
returns-clause-right c =
    file_found c.args.source.now.tokens (c.from-room.result + 1) c.in_ok-statements.field-0-1 (map (statement_tree c.args.source.now.names) c.in_ok-statements.statements.items)
    (omega (arith, c.from-room.ensures, c.len.ensures)) c.in_ok-statements.ensures
