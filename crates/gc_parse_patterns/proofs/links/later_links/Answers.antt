use Rattle.std.proofs.Common.{sym, ◌∙◌, ◌-◌, drop, map}
use Rattle.std.proofs.lemmas.Result.{err_from_is_err_and}
use Rattle.gc_ast.specs.PatternViews.{pattern_tree}
use Rattle.gc_parse_readers.specs.Readers.{read_both}
use Rattle.gc_parse_patterns.specs.PatternViews.{pair_tree}
use Rattle.gc_parse_readers.specs.PatternReaders.{link_kinds, read_link, read_node}
use Rattle.gc_parse_readers.specs.Points.{bare}
use Rattle.gc_parse_source.proofs.LinkLoops.{links_stop, links_go_on, links_exit}
use Rattle.gc_parse_patterns.proofs.links.later_links.Goals as goal

pub returns-then-not-is_link_at : goal.returns-then-not-is_link_at
returns-then-not-is_link_at c =
    links_stop (pattern_tree c.args.source.now.names) link_kinds (read_both (read_link c.args.room) (read_node c.args.room)) (c.args.room - c.loop.counter) c.loop.parts
    (bare c.loop.at) (drop c.loop.at c.args.source.now.tokens) _ c.loop.invariant (sym c.is_link_at.ensures ∙ c.if-not-is_link_at.true)

pub returns-in_err-link : goal.returns-in_err-link
returns-in_err-link c =
    links_exit (λ parts. map (pattern_tree c.args.source.now.names) parts) (pair_tree c.args.source.now.names) c.args.source.now.tokens link_kinds (read_both (read_link c.args.room) (read_node c.args.room)) c.args.room c.loop.counter (map (pattern_tree c.args.source.now.names) c.loop.parts)
    (bare c.loop.at) (drop c.loop.at c.args.source.now.tokens) _ c.in_err-link.field-0.0 c.from_residual-in_err-link.result
    (err_from_is_err_and c.from_residual-in_err-link.result c.from_residual-in_err-link.ensures.1)
    c.loop.invariant c.loop-test.true (sym c.is_link_at.ensures ∙ c.if-not-is_link_at.false) c.in_err-link.ensures

pub loop-preserved : goal.loop-preserved
loop-preserved c =
    links_go_on (pattern_tree c.args.source.now.names) link_kinds (read_both (read_link c.args.room) (read_node c.args.room)) c.args.room c.loop.counter c.loop.parts c.push.new.self c.push-in-loop.new.self c.in_ok-link.link c.in_ok-link.node
    (bare c.loop.at) (bare c.in_ok-link.next) (drop c.loop.at c.args.source.now.tokens) (drop c.in_ok-link.next c.args.source.now.tokens) _
    c.loop.invariant c.loop-test.true (sym c.is_link_at.ensures ∙ c.if-not-is_link_at.false) c.in_ok-link.ensures c.in_ok-push.ensures.ok c.in_ok-push-2.ensures.ok
