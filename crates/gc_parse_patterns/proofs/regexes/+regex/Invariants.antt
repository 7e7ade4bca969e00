use Rattle.std.proofs.Common.{◌≡◌, ◌+◌, ◌*◌, ◌-◌, [], ◌∷◌, drop}
use Rattle.gc_lex.specs.declared.token.Mark.TheVariants as mark
use Rattle.gc_parse_readers.specs.Kinds.{mark_kind}
use Rattle.gc_parse_readers.specs.Readers.{in_front, read_many, read_behind, read_mark}
use Rattle.gc_parse_readers.specs.RegexReaders.{part_kinds, read_star, read_cat, read_regex}
use Rattle.gc_parse_patterns.specs.RegexViews.{part_view, parts_view}
use Rattle.gc_parse_readers.specs.Points.{bare}
use Rattle.gc_parse_patterns.proofs.regexes.+regex.Given as goal

-- brackets take one from the room
abbrev pub decreases-regex : goal.decreases-regex
decreases-regex l = 9 * l.room + 8

abbrev pub decreases-alternatives : goal.decreases-alternatives
decreases-alternatives l = 9 * l.room + 7

abbrev pub decreases-later_branches : goal.decreases-later_branches
decreases-later_branches l = 9 * l.room + 6

abbrev pub decreases-later_branch : goal.decreases-later_branch
decreases-later_branch l = 9 * l.room + 5

abbrev pub decreases-juxtaposed : goal.decreases-juxtaposed
decreases-juxtaposed l = 9 * l.room + 4

abbrev pub decreases-later_parts : goal.decreases-later_parts
decreases-later_parts l = 9 * l.room + 3

abbrev pub decreases-repeated : goal.decreases-repeated
decreases-repeated l = 9 * l.room + 2

abbrev pub decreases-atom : goal.decreases-atom
decreases-atom l = 9 * l.room + 1

abbrev pub decreases-group : goal.decreases-group
decreases-group l = 9 * l.room

-- what was read and what is still to be read are all that the reader gives
abbrev pub invariant-later_parts-loop : goal.invariant-later_parts-loop
invariant-later_parts-loop l =
    in_front (parts_view l.source.names l.parts.items) (read_many part_kinds (read_star (read_regex (l.room - 1))) (l.room - l.counter) (bare l.at) (drop l.at l.source.tokens))
    ≡ in_front (part_view l.source.names l.fn.first ∷ []) (read_many part_kinds (read_star (read_regex (l.room - 1))) l.room (bare l.from) (drop l.from l.source.tokens))

abbrev pub invariant-later_branches-loop : goal.invariant-later_branches-loop
invariant-later_branches-loop l =
    in_front (parts_view l.source.names l.parts.items) (read_many (mark_kind mark.Bar ∷ []) (read_behind (read_mark mark.Bar) (read_cat l.room (read_regex (l.room - 1)))) (l.room - l.counter) (bare l.at) (drop l.at l.source.tokens))
    ≡ in_front (part_view l.source.names l.fn.first ∷ []) (read_many (mark_kind mark.Bar ∷ []) (read_behind (read_mark mark.Bar) (read_cat l.room (read_regex (l.room - 1)))) l.room (bare l.from) (drop l.from l.source.tokens))
