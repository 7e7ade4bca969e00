use Rattle.std.proofs.Common.{◌∙◌, ap, map}
use Rattle.gc_ast.specs.PatternViews.{pattern_tree}
use Rattle.gc_ast.specs.Trees.{row}
use Rattle.gc_sorts.specs.Patterns.{has_edge}
use Rattle.gc_sorts.proofs.Chains.{no_edge_step, edge_found, no_edge_end}
use Rattle.gc_sorts.proofs.patterns.has_edge.Goals as goal

pub returns-then-is_edge : goal.returns-then-is_edge
returns-then-is_edge c names =
    edge_found (pattern_tree names) c.as_slice-part-items.result.now c.loop-part.part-index c.part-item.result c.loop-part-test.true c.part-item.is
    c.is_edge.result _ (c.is_edge.ensures names) c.if-is_edge.true (c.loop-part.invariant names)
    ∙ ap (λ parts. has_edge (row (map (pattern_tree names) parts))) c.as_slice-part-items.ensures

pub loop-part-preserved : goal.loop-part-preserved
loop-part-preserved c names =
    no_edge_step (pattern_tree names) c.as_slice-part-items.result.now c.loop-part.part-index c.part-item.result c.loop-part-test.true c.part-item.is
    c.is_edge.result _ (c.is_edge.ensures names) c.if-is_edge.false (c.loop-part.invariant names)

pub returns : goal.returns
returns c names =
    no_edge_end (pattern_tree names) c.as_slice-part-items.result.now c.loop-part.part-index c.loop-part-test.false _ (c.loop-part.invariant names)
    ∙ ap (λ parts. has_edge (row (map (pattern_tree names) parts))) c.as_slice-part-items.ensures
