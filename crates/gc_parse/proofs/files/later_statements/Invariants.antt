use Rattle.std.proofs.Common.{◌≡◌, ◌-◌, [], ◌∷◌, drop, map}
use Rattle.gc_ast.specs.QueryViews.{statement_tree}
use Rattle.gc_parse_readers.specs.Readers.{in_front}
use Rattle.gc_parse_readers.specs.QueryReaders.{nested, read_later, read_statement}
use Rattle.gc_parse_readers.specs.Points.{bare}
use Rattle.gc_parse.proofs.files.later_statements.Given as goal

-- what was read and what is still to be read are all that the reader gives
abbrev pub invariant-loop : goal.invariant-loop
invariant-loop l =
    in_front (map (statement_tree l.source.names) l.statements.items) (read_later (read_statement l.room (nested (l.room - 1))) (l.room - l.counter) (bare l.at) (drop l.at l.source.tokens))
    ≡ in_front (statement_tree l.source.names l.fn.first ∷ []) (read_later (read_statement l.room (nested (l.room - 1))) l.room (bare l.from) (drop l.from l.source.tokens))
