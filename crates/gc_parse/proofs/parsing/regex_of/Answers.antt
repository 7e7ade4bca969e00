use Rattle.std.proofs.Common.{◌+◌}
use Rattle.std.proofs.lemmas.Result.{err_from_is_err_and}
use Rattle.gc_parse_patterns.specs.RegexViews.{part_view}
use Rattle.gc_parse_readers.proofs.WholeRegex.{regex_found, regex_left}
use Rattle.gc_parse.proofs.WholeRegex.{regex_due, regex_exits, regex_left_due}
use Rattle.gc_parse.proofs.parsing.regex_of.Goals as goal
use native.Mathlib.Omega.{arith}

pub returns-clause-right : goal.returns-clause-right
returns-clause-right c =
    regex_found c.args.source.now.tokens (c.from-room.result + 1) c.in_ok-part.end (part_view c.args.source.now.names c.in_ok-part.part)
    (omega (arith, c.from-room.ensures, c.len.ensures)) (omega (arith, c.if-end-len.false, c.len-2.ensures)) c.in_ok-part.ensures

pub returns-clause-due : goal.returns-clause-due
returns-clause-due c =
    regex_due c.args.source.now.tokens (c.from-room.result + 1) c.in_ok-part.end (part_view c.args.source.now.names c.in_ok-part.part)
    (omega (arith, c.from-room.ensures, c.len.ensures)) (omega (arith, c.if-end-len.false, c.len-2.ensures)) c.in_ok-part.ensures

pub returns-in_err-part-clause-right : goal.returns-in_err-part-clause-right
returns-in_err-part-clause-right c =
    (regex_exits c.args.source.now.names c.args.source.now.tokens (c.from-room.result + 1) c.in_err-part.field-0.0 c.from_residual.result
    (omega (arith, c.from-room.ensures, c.len.ensures)) (err_from_is_err_and c.from_residual.result c.from_residual.ensures.1) c.in_err-part.ensures).0

pub returns-in_err-part-clause-due : goal.returns-in_err-part-clause-due
returns-in_err-part-clause-due c =
    (regex_exits c.args.source.now.names c.args.source.now.tokens (c.from-room.result + 1) c.in_err-part.field-0.0 c.from_residual.result
    (omega (arith, c.from-room.ensures, c.len.ensures)) (err_from_is_err_and c.from_residual.result c.from_residual.ensures.1) c.in_err-part.ensures).1

pub returns-then-end-len-clause-right : goal.returns-then-end-len-clause-right
returns-then-end-len-clause-right c =
    regex_left c.args.source.now.tokens (c.from-room.result + 1) c.in_ok-part.end (part_view c.args.source.now.names c.in_ok-part.part)
    (omega (arith, c.from-room.ensures, c.len.ensures)) (omega (arith, c.if-end-len.true, c.len-2.ensures)) c.in_ok-part.ensures

pub returns-then-end-len-clause-due : goal.returns-then-end-len-clause-due
returns-then-end-len-clause-due c =
    regex_left_due c.args.source.now.tokens (c.from-room.result + 1) c.in_ok-part.end (part_view c.args.source.now.names c.in_ok-part.part)
    (omega (arith, c.from-room.ensures, c.len.ensures)) (omega (arith, c.if-end-len.true, c.len-2.ensures)) c.in_ok-part.ensures
