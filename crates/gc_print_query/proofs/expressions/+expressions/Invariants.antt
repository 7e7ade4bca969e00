use Rattle.std.proofs.Common.{◌≡◌, map, drop}
use Rattle.std.specs.List.{flat_map}
use Rattle.gc_expr.specs.Trees.{renamed}
use Rattle.gc_expr.specs.Views.{name_of, numbered_expr, numbered_sum_part, numbered_product_part}
use Rattle.gc_print_query.specs.AskedQueries.{asked_pieces}
use Rattle.gc_print_query.specs.Pieces.{joined, written}
use Rattle.gc_print_query.specs.ExpressionPieces.{between, closed, parts_of}
use Rattle.gc_print_query.proofs.WrittenPieces.{joined_from}
use Rattle.gc_print_query.proofs.expressions.+expressions.Given as goal

-- what is written and what is left make the whole
abbrev pub invariant-write_parts-loop-i : goal.invariant-write_parts-loop-i
invariant-write_parts-loop-i l =
    written l.text.items (joined_from l.i (between l.bytes) (map (λ part. closed l.most (parts_of (asked_pieces l.asked) (renamed (name_of l.asked.names.now) (numbered_expr part)))) (drop l.i l.parts.items)))
    ≡ written l.fn.text.items (joined (between l.bytes) (map (λ part. closed l.most (parts_of (asked_pieces l.asked) (renamed (name_of l.asked.names.now) (numbered_expr part)))) l.parts.items))

abbrev pub invariant-write_sum_parts-loop-part : goal.invariant-write_sum_parts-loop-part
invariant-write_sum_parts-loop-part l =
    written l.text.items (flat_map (λ part. parts_of (asked_pieces l.asked) (renamed (name_of l.asked.names.now) (numbered_sum_part part))) (drop l.part-index l.rest.items))
    ≡ written l.fn.text.items (flat_map (λ part. parts_of (asked_pieces l.asked) (renamed (name_of l.asked.names.now) (numbered_sum_part part))) l.rest.items)

abbrev pub invariant-write_product_parts-loop-part : goal.invariant-write_product_parts-loop-part
invariant-write_product_parts-loop-part l =
    written l.text.items (flat_map (λ part. parts_of (asked_pieces l.asked) (renamed (name_of l.asked.names.now) (numbered_product_part part))) (drop l.part-index l.rest.items))
    ≡ written l.fn.text.items (flat_map (λ part. parts_of (asked_pieces l.asked) (renamed (name_of l.asked.names.now) (numbered_product_part part))) l.rest.items)
