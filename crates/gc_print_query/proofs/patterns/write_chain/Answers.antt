use Rattle.std.proofs.Common.{ap, ◌∙◌, arith, get_or, length}
use Rattle.gc_ast.specs.PatternViews.{pattern_tree}
use Rattle.gc_print_query.specs.QueryPieces.{pieces_of}
use Rattle.gc_print_query.proofs.WrittenPieces.{flat_turn}
use Rattle.gc_print_query.proofs.patterns.write_chain.Goals as goal

pub loop-pattern-preserved : goal.loop-pattern-preserved
loop-pattern-preserved c =
    let l = c.loop-pattern in
    let slice = c.as_slice-pattern-items.ensures in
    flat_turn (λ p. pieces_of 0 (pattern_tree c.args.names.now p)) c.args.chain.now.parts l.pattern-index c.pattern-item.result l.text.items _ (omega (arith, ap length slice))
    (c.pattern-item.is ∙ ap (λ ps. get_or ps l.pattern-index c.pattern-item.result) slice) c.in_ok-write_pattern.ensures
    ∙ l.invariant
