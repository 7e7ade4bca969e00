use Rattle.gc_ast.specs.QueryViews.{part_tree}
use Rattle.gc_parse_readers.specs.Readers.{read_many, read_both}
use Rattle.gc_parse_readers.specs.ConstructReaders.{read_clink, read_cnode}
use Rattle.gc_parse_source.specs.Turns.{in_front_in_turn}
use Rattle.gc_parse_readers.specs.PatternReaders.{link_kinds}
use Rattle.gc_parse_readers.specs.QueryReaders.{nested}
use Rattle.gc_parse_readers.specs.Points.{bare}
use Rattle.std.proofs.Common.{◌≡◌, ◌-◌, [], ◌∷◌, drop, map}
use Rattle.gc_parse_constructs.proofs.constructs.linked_parts.Given as goal

abbrev pub invariant-loop : goal.invariant-loop
invariant-loop g l =
    in_front_in_turn (map (part_tree l.source.names) l.parts.items) (read_many link_kinds (read_both (read_clink l.room (nested (l.room - 1))) (read_cnode l.room (nested (l.room - 1)))) (l.room - l.counter) (bare l.at) (drop l.at l.source.tokens))
    ≡ in_front_in_turn (part_tree l.source.names l.fn.first ∷ []) (read_many link_kinds (read_both (read_clink l.room (nested (l.room - 1))) (read_cnode l.room (nested (l.room - 1)))) l.room (bare l.from) (drop l.from l.source.tokens))
