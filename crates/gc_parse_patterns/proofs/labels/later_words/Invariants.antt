use Rattle.std.proofs.Common.{◌≡◌, ◌-◌, [], ◌∷◌, drop, map}
use Rattle.gc_parse_readers.specs.Readers.{in_front, read_many}
use Rattle.gc_lex.specs.declared.token.Mark.TheVariants as mark
use Rattle.gc_parse_readers.specs.Kinds.{mark_kind}
use Rattle.gc_parse_readers.specs.Readers.{read_behind, read_mark, read_word}
use Rattle.gc_parse_readers.specs.Points.{bare}
use Rattle.gc_parse_patterns.proofs.labels.later_words.Given as goal

-- what was read and what is still to be read are all that the reader gives
abbrev pub invariant-loop : goal.invariant-loop
invariant-loop l =
    in_front (map (λ w. w) l.words) (read_many (mark_kind mark.Bar ∷ []) (read_behind (read_mark mark.Bar) read_word) (l.room - l.counter) (bare l.at) (drop l.at l.source.tokens))
    ≡ in_front (l.fn.first ∷ []) (read_many (mark_kind mark.Bar ∷ []) (read_behind (read_mark mark.Bar) read_word) l.room (bare l.from) (drop l.from l.source.tokens))
