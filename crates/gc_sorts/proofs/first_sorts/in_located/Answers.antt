use Rattle.std.proofs.Common.{map, ap, ◌∙◌, arith}
use Rattle.gc_expr.specs.Views.{name_of}
use Rattle.gc_ast.specs.PatternViews.{located_tree}
use Rattle.gc_ast.specs.Trees.{row}
use Rattle.gc_sorts.specs.Uses.{all_of, located_uses}
use Rattle.gc_sorts.specs.Variables.{first_sort}
use Rattle.gc_sorts.proofs.FirstSorts.{item_found, item_passed}
use Rattle.gc_sorts.proofs.first_sorts.in_located.Goals as goal

pub returns-in-Some : goal.returns-in-Some
returns-in-Some c =
    item_found (located_tree c.args.sought.names.now) located_uses (name_of c.args.sought.names.now c.args.sought.name) c.as_slice-located-items.result.now c.loop-located.located-index c.located-item.result (omega (arith, c.loop-located-test.true)) c.located-item.is c.in-Some.sort _
    c.in-Some.ensures (c.loop-located.invariant ∙ ap (λ xs. first_sort (all_of located_uses (row (map (located_tree c.args.sought.names.now) xs))) (name_of c.args.sought.names.now c.args.sought.name)) c.as_slice-located-items.ensures)

pub loop-located-preserved : goal.loop-located-preserved
loop-located-preserved c =
    item_passed (located_tree c.args.sought.names.now) located_uses (name_of c.args.sought.names.now c.args.sought.name) c.as_slice-located-items.result.now c.loop-located.located-index c.located-item.result (omega (arith, c.loop-located-test.true)) c.located-item.is _
    c.in_default.ensures c.loop-located.invariant
