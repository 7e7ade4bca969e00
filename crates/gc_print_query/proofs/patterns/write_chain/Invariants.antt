use Rattle.std.proofs.Common.{◌≡◌, drop}
use Rattle.std.specs.List.{flat_map}
use Rattle.gc_ast.specs.PatternViews.{pattern_tree}
use Rattle.gc_print_query.specs.Pieces.{written}
use Rattle.gc_print_query.specs.QueryPieces.{pieces_of}
use Rattle.gc_print_query.proofs.patterns.write_chain.Given as goal

-- what is written and what is left make the whole
abbrev pub invariant-loop-pattern : goal.invariant-loop-pattern
invariant-loop-pattern l =
    written l.text.items (flat_map (λ p. pieces_of 0 (pattern_tree l.names p)) (drop l.pattern-index l.chain.parts)) ≡ written l.fn.text.items (flat_map (λ p. pieces_of 0 (pattern_tree l.names p)) l.chain.parts)
