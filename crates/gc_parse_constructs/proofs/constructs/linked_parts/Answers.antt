use Rattle.gc_ast.specs.QueryViews.{part_tree}
use Rattle.gc_ast.specs.declared.construct.ConstructPart.{ConstructPart}
use Rattle.gc_parse_readers.specs.Readers.{read_both}
use Rattle.gc_parse_source.proofs.LinkLoops.{links_stop, links_go_on, links_exit}
use Rattle.gc_parse_readers.specs.ConstructReaders.{read_clink, read_cnode}
use Rattle.gc_parse_readers.specs.PatternReaders.{link_kinds}
use Rattle.gc_parse_readers.specs.QueryReaders.{nested}
use Rattle.gc_parse_readers.specs.Points.{bare}
use Rattle.std.proofs.Common.{sym, ◌∙◌, ◌-◌, drop, map}
use Rattle.std.proofs.lemmas.Result.{err_from_is_err_and}
use Rattle.gc_parse_constructs.proofs.constructs.linked_parts.Goals as goal

pub returns-then-not-is_link_at : goal.returns-then-not-is_link_at
returns-then-not-is_link_at g c =
    links_stop (part_tree c.args.source.now.names) link_kinds (read_both (read_clink c.args.room (nested (c.args.room - 1))) (read_cnode c.args.room (nested (c.args.room - 1)))) (c.args.room - c.loop.counter) c.loop.parts.items
    (bare c.loop.at) (drop c.loop.at c.args.source.now.tokens) _ c.loop.invariant (sym c.is_link_at.ensures ∙ c.if-not-is_link_at.true)

pub returns-in_err-link : goal.returns-in_err-link
returns-in_err-link g c =
    links_exit (λ items. map (part_tree c.args.source.now.names) items.items) (λ (linked : ConstructPart × ConstructPart). (part_tree c.args.source.now.names linked.0, part_tree c.args.source.now.names linked.1)) c.args.source.now.tokens link_kinds (read_both (read_clink c.args.room (nested (c.args.room - 1))) (read_cnode c.args.room (nested (c.args.room - 1)))) c.args.room c.loop.counter (map (part_tree c.args.source.now.names) c.loop.parts.items)
    (bare c.loop.at) (drop c.loop.at c.args.source.now.tokens) _ c.in_err-link.field-0.0 c.from_residual-in_err-link.result
    (err_from_is_err_and c.from_residual-in_err-link.result c.from_residual-in_err-link.ensures.1)
    c.loop.invariant c.loop-test.true (sym c.is_link_at.ensures ∙ c.if-not-is_link_at.false) c.in_err-link.ensures

pub loop-preserved : goal.loop-preserved
loop-preserved g c =
    links_go_on (part_tree c.args.source.now.names) link_kinds (read_both (read_clink c.args.room (nested (c.args.room - 1))) (read_cnode c.args.room (nested (c.args.room - 1)))) c.args.room c.loop.counter c.loop.parts.items c.push.new.self.items c.push-in-loop.new.self.items c.in_ok-link.link c.in_ok-link.node
    (bare c.loop.at) (bare c.in_ok-link.next) (drop c.loop.at c.args.source.now.tokens) (drop c.in_ok-link.next c.args.source.now.tokens) _
    c.loop.invariant c.loop-test.true (sym c.is_link_at.ensures ∙ c.if-not-is_link_at.false) c.in_ok-link.ensures c.in_ok-push.ensures.items c.in_ok-push-2.ensures.items
