use Rattle.gc_ast.specs.QueryViews.{assign_tree}
use Rattle.gc_parse_readers.specs.Kinds.{mark_kind}
use Rattle.gc_parse_readers.specs.Readers.{in_front, read_many, read_behind, read_mark}
use Rattle.gc_parse_readers.specs.ConstructReaders.{read_assign}
use Rattle.gc_parse_readers.specs.QueryReaders.{nested}
use Rattle.gc_parse_readers.specs.Points.{bare}
use Rattle.std.proofs.Common.{◌≡◌, ◌-◌, [], ◌∷◌, drop, map}
use Rattle.gc_lex.specs.declared.token.Mark.TheVariants as mark
use Rattle.gc_parse_constructs.proofs.assigns.later_assigns.Given as goal

abbrev pub invariant-loop : goal.invariant-loop
invariant-loop g l =
    in_front (map (assign_tree l.source.names) l.assigns.items) (read_many (mark_kind mark.Comma ∷ []) (read_behind (read_mark mark.Comma) (read_assign l.room (nested (l.room - 1)))) (l.room - l.counter) (bare l.at) (drop l.at l.source.tokens))
    ≡ in_front (assign_tree l.source.names l.fn.first ∷ []) (read_many (mark_kind mark.Comma ∷ []) (read_behind (read_mark mark.Comma) (read_assign l.room (nested (l.room - 1)))) l.room (bare l.from) (drop l.from l.source.tokens))
