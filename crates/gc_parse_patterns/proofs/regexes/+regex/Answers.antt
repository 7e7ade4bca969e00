use Rattle.std.proofs.Common.{sym, ◌∙◌, ◌-◌, ◌∷◌, [], drop}
use Rattle.std.proofs.lemmas.Result.{err_from_is_err_and}
use Rattle.gc_lex.specs.declared.token.Mark.TheVariants as mark
use Rattle.gc_parse_readers.specs.Kinds.{mark_kind}
use Rattle.gc_parse_readers.specs.Readers.{read_behind, read_mark}
use Rattle.gc_parse_readers.specs.RegexReaders.{part_kinds, read_star, read_cat, read_regex}
use Rattle.gc_parse_patterns.specs.RegexViews.{part_view, parts_view}
use Rattle.gc_parse_readers.specs.Points.{bare}
use Rattle.gc_parse_source.proofs.Loops.{loop_stops, loop_goes_on, loop_exits}
use Rattle.gc_parse_patterns.proofs.regexes.+regex.Goals as goal

pub later_parts-returns-then-not-is_part_at : goal.later_parts-returns-then-not-is_part_at
later_parts-returns-then-not-is_part_at c d =
    loop_stops (part_view d.args.source.now.names) part_kinds (read_star (read_regex (d.args.room - 1))) (d.args.room - d.loop.counter) d.loop.parts.items
    (bare d.loop.at) (drop d.loop.at d.args.source.now.tokens) _ d.loop.invariant (sym d.is_part_at.ensures ∙ d.if-not-is_part_at.true)

pub later_parts-returns-in_err-part : goal.later_parts-returns-in_err-part
later_parts-returns-in_err-part c d =
    let p = err_from_is_err_and d.from_residual-in_err-part.result d.from_residual-in_err-part.ensures.1 in
    loop_exits (λ parts. parts_view d.args.source.now.names parts.items) (part_view d.args.source.now.names) d.args.source.now.tokens part_kinds (read_star (read_regex (d.args.room - 1))) d.args.room d.loop.counter (parts_view d.args.source.now.names d.loop.parts.items)
    (bare d.loop.at) (drop d.loop.at d.args.source.now.tokens) _ d.in_err-part.field-0.0 d.from_residual-in_err-part.result
    p d.loop.invariant d.loop-test.true (sym d.is_part_at.ensures ∙ d.if-not-is_part_at.false) d.in_err-part.ensures

pub later_parts-loop-preserved : goal.later_parts-loop-preserved
later_parts-loop-preserved c d =
    loop_goes_on (part_view d.args.source.now.names) part_kinds (read_star (read_regex (d.args.room - 1))) d.args.room d.loop.counter d.loop.parts.items d.push.new.self.items d.in_ok-part.part
    (bare d.loop.at) (bare d.in_ok-part.next) (drop d.loop.at d.args.source.now.tokens) (drop d.in_ok-part.next d.args.source.now.tokens) _
    d.loop.invariant d.loop-test.true (sym d.is_part_at.ensures ∙ d.if-not-is_part_at.false) d.in_ok-part.ensures d.in_ok-push.ensures.items

pub later_branches-returns-then-not-is_at : goal.later_branches-returns-then-not-is_at
later_branches-returns-then-not-is_at c d =
    loop_stops (part_view d.args.source.now.names) (mark_kind mark.Bar ∷ []) (read_behind (read_mark mark.Bar) (read_cat d.args.room (read_regex (d.args.room - 1)))) (d.args.room - d.loop.counter) d.loop.parts.items
    (bare d.loop.at) (drop d.loop.at d.args.source.now.tokens) _ d.loop.invariant (sym d.is_at.ensures.stands ∙ d.if-not-is_at.true)

pub later_branches-returns-in_err-part : goal.later_branches-returns-in_err-part
later_branches-returns-in_err-part c d =
    let p = err_from_is_err_and d.from_residual-in_err-part.result d.from_residual-in_err-part.ensures.1 in
    loop_exits (λ parts. parts_view d.args.source.now.names parts.items) (part_view d.args.source.now.names) d.args.source.now.tokens (mark_kind mark.Bar ∷ []) (read_behind (read_mark mark.Bar) (read_cat d.args.room (read_regex (d.args.room - 1)))) d.args.room d.loop.counter (parts_view d.args.source.now.names d.loop.parts.items)
    (bare d.loop.at) (drop d.loop.at d.args.source.now.tokens) _ d.in_err-part.field-0.0 d.from_residual-in_err-part.result
    p d.loop.invariant d.loop-test.true (sym d.is_at.ensures.stands ∙ d.if-not-is_at.false) d.in_err-part.ensures

pub later_branches-loop-preserved : goal.later_branches-loop-preserved
later_branches-loop-preserved c d =
    loop_goes_on (part_view d.args.source.now.names) (mark_kind mark.Bar ∷ []) (read_behind (read_mark mark.Bar) (read_cat d.args.room (read_regex (d.args.room - 1)))) d.args.room d.loop.counter d.loop.parts.items d.push.new.self.items d.in_ok-part.part
    (bare d.loop.at) (bare d.in_ok-part.next) (drop d.loop.at d.args.source.now.tokens) (drop d.in_ok-part.next d.args.source.now.tokens) _
    d.loop.invariant d.loop-test.true (sym d.is_at.ensures.stands ∙ d.if-not-is_at.false) d.in_ok-part.ensures d.in_ok-push.ensures.items
