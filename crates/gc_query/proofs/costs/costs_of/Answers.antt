use Rattle.std.proofs.Common.{◌≡◌, Some, slice_get, arith, sym, ap, ◌∙◌}
use Rattle.gc_ast.specs.declared.query.Basic.{out-Basic}
use Rattle.gc_lower.specs.Namings.{scope_of}
use Rattle.gc_query.proofs.AllOf.{got}
use Rattle.gc_query.proofs.CostLaws.{main_first, one_more}
use Rattle.gc_query.proofs.costs.costs_of.Goals as goal

pub loop-optional-init : goal.loop-optional-init
loop-optional-init c =
    main_first (scope_of c.args.checked.now 0) c.args.checked.now.file.names c.args.basic.now c.as_slice.result.now c.deref-optional-items.result.now c.new-costs.result.items c.push_located.new.costs.items
    c.as_slice.ensures c.deref-optional-items.ensures.value c.new-costs.ensures.items c.in_ok-push_located.ensures

pub loop-optional-preserved : goal.loop-optional-preserved
loop-optional-preserved c =
    let blocks = c.deref-optional-items.result.now in
    let i = c.loop-optional.optional-index in
    let at : slice_get blocks i ≡ Some c.optional-item.result = got blocks i c.optional-item.result (omega arith) c.optional-item.is in
    one_more (scope_of c.args.checked.now 0) c.args.checked.now.file.names (out-Basic c.args.basic.now).optionals.items i c.optional-item.result c.as_slice-in-loop-optional.result.now c.loop-optional.costs.items
    c.push_located-in-loop-optional.new.costs.items _ (ap (λ xs. slice_get xs i) (sym c.deref-optional-items.ensures.value) ∙ at) c.as_slice-in-loop-optional.ensures c.in_ok-push_located-2.ensures c.loop-optional.invariant
