use Rattle.std.proofs.Common.{◌-◌, drop, map}
use Rattle.std.specs.Option.{option_map}
use Rattle.std.proofs.lemmas.Result.{err_from_is_err_and}
use Rattle.gc_ast.specs.QueryViews.{statement_tree}
use Rattle.gc_parse_readers.specs.QueryReaders.{nested, read_statement}
use Rattle.gc_parse_readers.specs.Points.{bare}
use Rattle.gc_parse.proofs.LaterLoops.{later_stops, later_goes_on, later_exits, later_ends}
use Rattle.gc_parse.proofs.files.later_statements.Goals as goal
use native.Mathlib.Omega.{arith}

pub returns-in_err-found : goal.returns-in_err-found
returns-in_err-found c =
    later_exits (λ items. map (statement_tree c.args.source.now.names) items.items) (λ found. option_map (statement_tree c.args.source.now.names) found) c.args.source.now.tokens (read_statement c.args.room (nested (c.args.room - 1))) c.args.room c.loop.counter (map (statement_tree c.args.source.now.names) c.loop.statements.items)
    (bare c.loop.at) (drop c.loop.at c.args.source.now.tokens) _ c.in_err-found.field-0.0 c.from_residual-in_err-found.result
    (err_from_is_err_and c.from_residual-in_err-found.result c.from_residual-in_err-found.ensures.1)
    c.loop.invariant c.loop-test.true c.in_err-found.ensures

pub returns-in_default : goal.returns-in_default
returns-in_default c =
    later_stops (statement_tree c.args.source.now.names) (read_statement c.args.room (nested (c.args.room - 1))) c.args.room c.loop.counter c.loop.statements.items c.in_ok-found.found
    (bare c.loop.at) (bare c.in_ok-found.next) (drop c.loop.at c.args.source.now.tokens) (drop c.in_ok-found.next c.args.source.now.tokens) _
    c.loop.invariant c.loop-test.true c.in_ok-found.ensures c.in_default.is

pub loop-preserved : goal.loop-preserved
loop-preserved c =
    later_goes_on (statement_tree c.args.source.now.names) (read_statement c.args.room (nested (c.args.room - 1))) c.args.room c.loop.counter c.loop.statements.items c.push.new.self.items c.in_ok-found.found c.in-Some.statement
    (bare c.loop.at) (bare c.in_ok-found.next) (drop c.loop.at c.args.source.now.tokens) (drop c.in_ok-found.next c.args.source.now.tokens) _
    c.loop.invariant c.loop-test.true c.in_ok-found.ensures c.in-Some.is c.in_ok-push.ensures.items

pub returns : goal.returns
returns c =
    later_ends (read_statement c.args.room (nested (c.args.room - 1))) (c.args.room - c.loop.counter) (map (statement_tree c.args.source.now.names) c.loop.statements.items) (bare c.loop.at) (drop c.loop.at c.args.source.now.tokens) _
    c.loop.invariant (omega (arith, c.loop-test.false))
