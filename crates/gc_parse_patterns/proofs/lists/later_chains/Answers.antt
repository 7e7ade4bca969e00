use Rattle.std.proofs.Common.{sym, ◌∙◌, ◌-◌, ◌∷◌, [], drop, map}
use Rattle.std.proofs.lemmas.Result.{err_from_is_err_and}
use Rattle.gc_lex.specs.declared.token.Mark.TheVariants as mark
use Rattle.gc_ast.specs.declared.pattern.Chain.{Chain}
use Rattle.gc_ast.specs.PatternViews.{pattern_tree}
use Rattle.gc_parse_readers.specs.Kinds.{mark_kind}
use Rattle.gc_parse_readers.specs.Readers.{read_behind, read_mark}
use Rattle.gc_parse_readers.specs.PatternReaders.{read_vchain}
use Rattle.gc_parse_readers.specs.Points.{bare}
use Rattle.gc_parse_source.proofs.Loops.{loop_stops, loop_goes_on, loop_exits}
use Rattle.gc_parse_patterns.proofs.lists.later_chains.Goals as goal

pub returns-then-not-is_at : goal.returns-then-not-is_at
returns-then-not-is_at c =
    loop_stops (λ (chain : Chain). map (pattern_tree c.args.source.now.names) chain.parts) (mark_kind mark.Comma ∷ []) (read_behind (read_mark mark.Comma) (read_vchain c.args.room)) (c.args.room - c.loop.counter) c.loop.chains
    (bare c.loop.at) (drop c.loop.at c.args.source.now.tokens) _ c.loop.invariant (sym c.is_at.ensures.stands ∙ c.if-not-is_at.true)

pub returns-in_err-chain : goal.returns-in_err-chain
returns-in_err-chain c =
    loop_exits (λ items. map (λ (chain : Chain). map (pattern_tree c.args.source.now.names) chain.parts) items) (λ (chain : Chain). map (pattern_tree c.args.source.now.names) chain.parts) c.args.source.now.tokens (mark_kind mark.Comma ∷ []) (read_behind (read_mark mark.Comma) (read_vchain c.args.room)) c.args.room c.loop.counter (map (λ (chain : Chain). map (pattern_tree c.args.source.now.names) chain.parts) c.loop.chains)
    (bare c.loop.at) (drop c.loop.at c.args.source.now.tokens) _ c.in_err-chain.field-0.0 c.from_residual-in_err-chain.result
    (err_from_is_err_and c.from_residual-in_err-chain.result c.from_residual-in_err-chain.ensures.1)
    c.loop.invariant c.loop-test.true (sym c.is_at.ensures.stands ∙ c.if-not-is_at.false) c.in_err-chain.ensures

pub loop-preserved : goal.loop-preserved
loop-preserved c =
    loop_goes_on (λ (chain : Chain). map (pattern_tree c.args.source.now.names) chain.parts) (mark_kind mark.Comma ∷ []) (read_behind (read_mark mark.Comma) (read_vchain c.args.room)) c.args.room c.loop.counter c.loop.chains c.push.new.self c.in_ok-chain.chain
    (bare c.loop.at) (bare c.in_ok-chain.next) (drop c.loop.at c.args.source.now.tokens) (drop c.in_ok-chain.next c.args.source.now.tokens) _
    c.loop.invariant c.loop-test.true (sym c.is_at.ensures.stands ∙ c.if-not-is_at.false) c.in_ok-chain.ensures c.in_ok-push.ensures.ok
