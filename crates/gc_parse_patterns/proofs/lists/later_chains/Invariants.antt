use Rattle.std.proofs.Common.{◌≡◌, ◌-◌, [], ◌∷◌, drop, map}
use Rattle.gc_lex.specs.declared.token.Mark.TheVariants as mark
use Rattle.gc_ast.specs.declared.pattern.Chain.{Chain}
use Rattle.gc_ast.specs.PatternViews.{pattern_tree}
use Rattle.gc_parse_readers.specs.Kinds.{mark_kind}
use Rattle.gc_parse_readers.specs.Readers.{in_front, read_many, read_behind, read_mark}
use Rattle.gc_parse_readers.specs.PatternReaders.{read_vchain}
use Rattle.gc_parse_readers.specs.Points.{bare}
use Rattle.gc_parse_patterns.proofs.lists.later_chains.Given as goal

-- what was read and what is still to be read are all that the reader gives
abbrev pub invariant-loop : goal.invariant-loop
invariant-loop l =
    in_front (map (λ (chain : Chain). map (pattern_tree l.source.names) chain.parts) l.chains) (read_many (mark_kind mark.Comma ∷ []) (read_behind (read_mark mark.Comma) (read_vchain l.room)) (l.room - l.counter) (bare l.at) (drop l.at l.source.tokens))
    ≡ in_front (map (pattern_tree l.source.names) l.fn.first.parts ∷ []) (read_many (mark_kind mark.Comma ∷ []) (read_behind (read_mark mark.Comma) (read_vchain l.room)) l.room (bare l.from) (drop l.from l.source.tokens))
