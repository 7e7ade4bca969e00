use Rattle.std.proofs.Common.{map, ap, ◌∙◌, arith}
use Rattle.gc_expr.specs.Views.{name_of}
use Rattle.gc_ast.specs.PatternViews.{pattern_tree}
use Rattle.gc_ast.specs.Trees.{row}
use Rattle.gc_sorts.specs.Uses.{all_of, pattern_uses}
use Rattle.gc_sorts.specs.Variables.{first_sort}
use Rattle.gc_sorts.proofs.FirstSorts.{item_found, item_passed}
use Rattle.gc_sorts.proofs.first_sorts.in_chain.Goals as goal

pub returns-in-Some : goal.returns-in-Some
returns-in-Some c =
    item_found (pattern_tree c.args.sought.names.now) pattern_uses (name_of c.args.sought.names.now c.args.sought.name) c.as_slice-part-items.result.now c.loop-part.part-index c.part-item.result (omega (arith, c.loop-part-test.true)) c.part-item.is c.in-Some.sort _
    c.in-Some.ensures (c.loop-part.invariant ∙ ap (λ xs. first_sort (all_of pattern_uses (row (map (pattern_tree c.args.sought.names.now) xs))) (name_of c.args.sought.names.now c.args.sought.name)) c.as_slice-part-items.ensures)

pub loop-part-preserved : goal.loop-part-preserved
loop-part-preserved c =
    item_passed (pattern_tree c.args.sought.names.now) pattern_uses (name_of c.args.sought.names.now c.args.sought.name) c.as_slice-part-items.result.now c.loop-part.part-index c.part-item.result (omega (arith, c.loop-part-test.true)) c.part-item.is _
    c.in_default.ensures c.loop-part.invariant
