use Rattle.gc_ast.specs.QueryViews.{optional_tree, head_tree, next_term_tree}
use Rattle.gc_parse_readers.specs.Kinds.{word_kind}
use Rattle.gc_parse_source.proofs.Loops.{loop_stops, loop_goes_on, loop_exits, loop_begins}
use Rattle.gc_parse_readers.specs.QueryReaders.{nested, read_optional_block, read_head, read_next_term, set_op_kinds}
use Rattle.gc_parse_readers.specs.Points.{bare}
use Rattle.std.proofs.Common.{sym, ◌∙◌, ◌-◌, ◌∷◌, [], codes, drop, map}
use Rattle.std.proofs.lemmas.Result.{err_from_is_err_and}
use Rattle.gc_parse.proofs.+query.Goals as goal

pub blocks::optional_blocks-returns-then-not-is_word_at : goal.blocks::optional_blocks-returns-then-not-is_word_at
blocks::optional_blocks-returns-then-not-is_word_at t c =
    loop_stops (optional_tree c.args.source.now.names) (word_kind (codes "OPTIONAL") ∷ []) (read_optional_block c.args.room (nested (c.args.room - 1))) (c.args.room - c.loop.counter) c.loop.blocks.items
    (bare c.loop.at) (drop c.loop.at c.args.source.now.tokens) _ c.loop.invariant (sym c.is_word_at.ensures.stands ∙ c.if-not-is_word_at.true)

pub blocks::optional_blocks-returns-in_err-block : goal.blocks::optional_blocks-returns-in_err-block
blocks::optional_blocks-returns-in_err-block t c =
    loop_exits (λ items. map (optional_tree c.args.source.now.names) items.items) (optional_tree c.args.source.now.names) c.args.source.now.tokens (word_kind (codes "OPTIONAL") ∷ []) (read_optional_block c.args.room (nested (c.args.room - 1))) c.args.room c.loop.counter (map (optional_tree c.args.source.now.names) c.loop.blocks.items)
    (bare c.loop.at) (drop c.loop.at c.args.source.now.tokens) _ c.in_err-block.field-0.0 c.from_residual.result
    (err_from_is_err_and c.from_residual.result c.from_residual.ensures.1)
    c.loop.invariant c.loop-test.true (sym c.is_word_at.ensures.stands ∙ c.if-not-is_word_at.false) c.in_err-block.ensures

pub blocks::optional_blocks-loop-preserved : goal.blocks::optional_blocks-loop-preserved
blocks::optional_blocks-loop-preserved t c =
    loop_goes_on (optional_tree c.args.source.now.names) (word_kind (codes "OPTIONAL") ∷ []) (read_optional_block c.args.room (nested (c.args.room - 1))) c.args.room c.loop.counter c.loop.blocks.items c.push.new.self.items c.in_ok-block.block
    (bare c.loop.at) (bare c.in_ok-block.next) (drop c.loop.at c.args.source.now.tokens) (drop c.in_ok-block.next c.args.source.now.tokens) _
    c.loop.invariant c.loop-test.true (sym c.is_word_at.ensures.stands ∙ c.if-not-is_word_at.false) c.in_ok-block.ensures c.in_ok-push.ensures.items

pub blocks::optional_blocks-loop-init : goal.blocks::optional_blocks-loop-init
blocks::optional_blocks-loop-init t c = loop_begins (optional_tree c.args.source.now.names) (word_kind (codes "OPTIONAL") ∷ []) (read_optional_block c.args.room (nested (c.args.room - 1))) c.args.room c.new-blocks.result.items (bare c.args.from) (drop c.args.from c.args.source.now.tokens) c.new-blocks.ensures.items

pub queries::heads-returns-then-not-is_head_at : goal.queries::heads-returns-then-not-is_head_at
queries::heads-returns-then-not-is_head_at c d =
    loop_stops (head_tree d.args.source.now.names) (word_kind (codes "PATH") ∷ word_kind (codes "GRAPH") ∷ []) (read_head d.args.room (nested (d.args.room - 1))) (d.args.room - d.loop.counter) d.loop.heads.items
    (bare d.loop.at) (drop d.loop.at d.args.source.now.tokens) _ d.loop.invariant (sym d.is_head_at.ensures ∙ d.if-not-is_head_at.true)

pub queries::heads-returns-in_err-head : goal.queries::heads-returns-in_err-head
queries::heads-returns-in_err-head c d =
    let p = err_from_is_err_and d.from_residual.result d.from_residual.ensures.1 in
    loop_exits (λ items. map (head_tree d.args.source.now.names) items.items) (head_tree d.args.source.now.names) d.args.source.now.tokens (word_kind (codes "PATH") ∷ word_kind (codes "GRAPH") ∷ []) (read_head d.args.room (nested (d.args.room - 1))) d.args.room d.loop.counter (map (head_tree d.args.source.now.names) d.loop.heads.items)
    (bare d.loop.at) (drop d.loop.at d.args.source.now.tokens) _ d.in_err-head.field-0.0 d.from_residual.result
    p d.loop.invariant d.loop-test.true (sym d.is_head_at.ensures ∙ d.if-not-is_head_at.false) d.in_err-head.ensures

pub queries::heads-loop-preserved : goal.queries::heads-loop-preserved
queries::heads-loop-preserved c d =
    loop_goes_on (head_tree d.args.source.now.names) (word_kind (codes "PATH") ∷ word_kind (codes "GRAPH") ∷ []) (read_head d.args.room (nested (d.args.room - 1))) d.args.room d.loop.counter d.loop.heads.items d.push.new.self.items d.in_ok-head.head
    (bare d.loop.at) (bare d.in_ok-head.next) (drop d.loop.at d.args.source.now.tokens) (drop d.in_ok-head.next d.args.source.now.tokens) _
    d.loop.invariant d.loop-test.true (sym d.is_head_at.ensures ∙ d.if-not-is_head_at.false) d.in_ok-head.ensures d.in_ok-push.ensures.items

pub queries::heads-loop-init : goal.queries::heads-loop-init
queries::heads-loop-init c d = loop_begins (head_tree d.args.source.now.names) (word_kind (codes "PATH") ∷ word_kind (codes "GRAPH") ∷ []) (read_head d.args.room (nested (d.args.room - 1))) d.args.room d.new-heads.result.items (bare d.args.from) (drop d.args.from d.args.source.now.tokens) d.new-heads.ensures.items

pub queries::next_terms-returns-then-not-is_set_op_at : goal.queries::next_terms-returns-then-not-is_set_op_at
queries::next_terms-returns-then-not-is_set_op_at c d =
    loop_stops (next_term_tree d.args.source.now.names) set_op_kinds (read_next_term d.args.room (nested (d.args.room - 1))) (d.args.room - d.loop.counter) d.loop.terms.items
    (bare d.loop.at) (drop d.loop.at d.args.source.now.tokens) _ d.loop.invariant (sym d.is_set_op_at.ensures ∙ d.if-not-is_set_op_at.true)

pub queries::next_terms-returns-in_err-term : goal.queries::next_terms-returns-in_err-term
queries::next_terms-returns-in_err-term c d =
    let p = err_from_is_err_and d.from_residual.result d.from_residual.ensures.1 in
    loop_exits (λ items. map (next_term_tree d.args.source.now.names) items.items) (next_term_tree d.args.source.now.names) d.args.source.now.tokens set_op_kinds (read_next_term d.args.room (nested (d.args.room - 1))) d.args.room d.loop.counter (map (next_term_tree d.args.source.now.names) d.loop.terms.items)
    (bare d.loop.at) (drop d.loop.at d.args.source.now.tokens) _ d.in_err-term.field-0.0 d.from_residual.result
    p d.loop.invariant d.loop-test.true (sym d.is_set_op_at.ensures ∙ d.if-not-is_set_op_at.false) d.in_err-term.ensures

pub queries::next_terms-loop-preserved : goal.queries::next_terms-loop-preserved
queries::next_terms-loop-preserved c d =
    loop_goes_on (next_term_tree d.args.source.now.names) set_op_kinds (read_next_term d.args.room (nested (d.args.room - 1))) d.args.room d.loop.counter d.loop.terms.items d.push.new.self.items d.in_ok-term.term
    (bare d.loop.at) (bare d.in_ok-term.next) (drop d.loop.at d.args.source.now.tokens) (drop d.in_ok-term.next d.args.source.now.tokens) _
    d.loop.invariant d.loop-test.true (sym d.is_set_op_at.ensures ∙ d.if-not-is_set_op_at.false) d.in_ok-term.ensures d.in_ok-push.ensures.items

pub queries::next_terms-loop-init : goal.queries::next_terms-loop-init
queries::next_terms-loop-init c d = loop_begins (next_term_tree d.args.source.now.names) set_op_kinds (read_next_term d.args.room (nested (d.args.room - 1))) d.args.room d.new-terms.result.items (bare d.args.from) (drop d.args.from d.args.source.now.tokens) d.new-terms.ensures.items
