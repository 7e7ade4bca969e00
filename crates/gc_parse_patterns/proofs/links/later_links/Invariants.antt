use Rattle.std.proofs.Common.{◌≡◌, ◌-◌, [], ◌∷◌, drop, map}
use Rattle.gc_ast.specs.PatternViews.{pattern_tree}
use Rattle.gc_parse_readers.specs.Readers.{read_both, read_many}
use Rattle.gc_parse_source.specs.Turns.{in_front_in_turn}
use Rattle.gc_parse_readers.specs.PatternReaders.{link_kinds, read_link, read_node}
use Rattle.gc_parse_readers.specs.Points.{bare}
use Rattle.gc_parse_patterns.proofs.links.later_links.Given as goal

-- what was read and what is still to be read are all that the reader gives
abbrev pub invariant-loop : goal.invariant-loop
invariant-loop l =
    in_front_in_turn (map (pattern_tree l.source.names) l.parts) (read_many link_kinds (read_both (read_link l.room) (read_node l.room)) (l.room - l.counter) (bare l.at) (drop l.at l.source.tokens))
    ≡ in_front_in_turn (pattern_tree l.source.names l.fn.first ∷ []) (read_many link_kinds (read_both (read_link l.room) (read_node l.room)) l.room (bare l.from) (drop l.from l.source.tokens))
