use Rattle.std.proofs.Common.{map, ap, ◌∙◌, arith}
use Rattle.gc_expr.specs.Views.{name_of}
use Rattle.gc_ast.specs.QueryViews.{optional_tree}
use Rattle.gc_ast.specs.Trees.{row}
use Rattle.gc_sorts.specs.Uses.{all_of, optional_uses}
use Rattle.gc_sorts.proofs.PartSorts.{optional_is}
use Rattle.gc_sorts.specs.Variables.{first_sort}
use Rattle.gc_sorts.proofs.FirstSorts.{item_found, item_passed}
use Rattle.gc_sorts.proofs.first_sorts.in_optionals.Goals as goal

pub returns-in-Some : goal.returns-in-Some
returns-in-Some c =
    item_found (optional_tree c.args.sought.names.now) optional_uses (name_of c.args.sought.names.now c.args.sought.name) c.deref-optional-items.result.now c.loop-optional.optional-index c.optional-item.result (omega (arith, c.loop-optional-test.true)) c.optional-item.is c.in-Some.sort _
    (c.in-Some.ensures ∙ optional_is c.args.sought.names.now c.optional-item.result (name_of c.args.sought.names.now c.args.sought.name)) (c.loop-optional.invariant ∙ ap (λ xs. first_sort (all_of optional_uses (row (map (optional_tree c.args.sought.names.now) xs))) (name_of c.args.sought.names.now c.args.sought.name)) c.deref-optional-items.ensures.value)

pub loop-optional-preserved : goal.loop-optional-preserved
loop-optional-preserved c =
    item_passed (optional_tree c.args.sought.names.now) optional_uses (name_of c.args.sought.names.now c.args.sought.name) c.deref-optional-items.result.now c.loop-optional.optional-index c.optional-item.result (omega (arith, c.loop-optional-test.true)) c.optional-item.is _
    (c.in_default.ensures ∙ optional_is c.args.sought.names.now c.optional-item.result (name_of c.args.sought.names.now c.args.sought.name)) c.loop-optional.invariant
