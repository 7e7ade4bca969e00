use Rattle.std.proofs.Common.{◌≡◌, Some, length, slice_get, arith, List, [], sym, subst}
use Rattle.gc_ast.specs.declared.file.File.{File}
use Rattle.gc_ast.specs.QueryViews.{head_tree}
use Rattle.gc_ast.specs.Trees.{Tree, AHead}
use Rattle.gc_lower.specs.Namings.{scope_in}
use Rattle.gc_lower.specs.Scopes.{Scope}
use Rattle.gc_prod.specs.Segments.{Segments}
use Rattle.gc_walks.specs.Databases.{AreOnGraphs}
use Rattle.gc_query.specs.Answered.{names_in}
use Rattle.gc_query.specs.Answered as answered
use Rattle.gc_query.specs.Segments.{OfUses}
use Rattle.gc_query.specs.UsedViews.{in_turn, uses_of}
use Rattle.gc_query.specs.Uses.{Fails, Gains}
use Rattle.gc_query.proofs.AllOf.{got}
use Rattle.gc_query.proofs.BlocksFound.{head_numbered}
use Rattle.gc_query.proofs.Outcomes.{refused}
use Rattle.gc_query.proofs.PathHeads.{head_at, head_count}
use Rattle.gc_query.proofs.UsesLaws.{all_gained, gains_none, head_fails, head_gains, no_head, none_used, one_failed}
use Rattle.gc_query.proofs.segments.segments_by.Goals as goal

pub returns-then-is_empty-clause-due : goal.returns-then-is_empty-clause-due
returns-then-is_empty-clause-due g c =
    none_used (answered.scope_in c.args.session.now) c.args.graphs.now c.args.uses.now c.empty-table.result (sym c.if-is_empty.ensures) c.empty-table.ensures

pub loop-number-init : goal.loop-number-init
loop-number-init g c =
    let s : Scope = answered.scope_in c.args.session.now in (
      subst (λ (after : List Segments). Gains s c.args.graphs.now [] [] after) (sym c.empty-table.ensures) (gains_none s c.args.graphs.now []),
      subst (AreOnGraphs c.args.graphs.now) (sym c.empty-table.ensures) tt,
    )

pub returns-in_err-add_uses-clause-due : goal.returns-in_err-add_uses-clause-due
unfolding scope_in
returns-in_err-add_uses-clause-due g c =
    let s : Scope = answered.scope_in c.args.session.now in
    let file : File = c.args.session.now.checked.now.file in
    let items = c.deref-head-items.result.now in
    let at : slice_get items c.loop-number.number ≡ Some c.head-item.result = got items c.loop-number.number c.head-item.result (omega arith) c.head-item.is in
    let one : Tree AHead = head_tree file.names c.head-item.result.now in
    refused (Fails s c.args.graphs.now (uses_of one c.loop-number.number c.args.uses.now)) c.in_err-add_uses.field-0.0 c.in_err-add_uses.ensures.fails
    (OfUses s c.args.graphs.now (in_turn 0 s.views c.args.uses.now)) c.from_residual-in_err-add_uses.result c.from_residual-in_err-add_uses.ensures.0 c.from_residual-in_err-add_uses.ensures.1
    (λ fault f. one_failed s c.args.graphs.now (in_turn 0 s.views c.args.uses.now) fault
    (head_fails s c.args.graphs.now s.views c.args.uses.now c.loop-number.number [] c.loop-number.table c.loop-number.invariant.0 one fault
    (head_at file c.file.result.now c.file.ensures.file c.in_ok-heads.heads.items items c.in_ok-heads.ensures c.deref-head-items.ensures.value c.loop-number.number c.head-item.result at) f))

pub loop-number-preserved : goal.loop-number-preserved
unfolding scope_in
loop-number-preserved g c =
    let s : Scope = answered.scope_in c.args.session.now in
    let file : File = c.args.session.now.checked.now.file in
    let items = c.deref-head-items.result.now in
    let at : slice_get items c.loop-number.number ≡ Some c.head-item.result = got items c.loop-number.number c.head-item.result (omega arith) c.head-item.is in
    let one : Tree AHead = head_tree file.names c.head-item.result.now in (
      head_gains s c.args.graphs.now s.views c.args.uses.now c.loop-number.number [] c.loop-number.table c.loop-number.invariant.0 one c.add_uses.new.table
          (head_at file c.file.result.now c.file.ensures.file c.in_ok-heads.heads.items items c.in_ok-heads.ensures c.deref-head-items.ensures.value c.loop-number.number c.head-item.result at) c.in_ok-add_uses.ensures.gains,
      c.in_ok-add_uses.ensures.there c.loop-number.invariant.1,
    )

pub returns-clause-due : goal.returns-clause-due
unfolding scope_in
returns-clause-due g c =
    let s : Scope = answered.scope_in c.args.session.now in
    let file : File = c.args.session.now.checked.now.file in
    let items = c.deref-head-items.result.now in
    let many : length s.views ≡ length items = head_count file c.file.result.now c.file.ensures.file c.in_ok-heads.heads.items items c.in_ok-heads.ensures c.deref-head-items.ensures.value in
    all_gained s c.args.graphs.now (in_turn 0 s.views c.args.uses.now) c.loop-number.table
    (no_head s c.args.graphs.now s.views c.args.uses.now c.loop-number.number [] c.loop-number.table c.loop-number.invariant.0 (omega (arith, many, c.loop-number-test.false)))

pub add_uses-requires : goal.add_uses-requires
unfolding scope_in
add_uses-requires g c =
    let s : Scope = answered.scope_in c.args.session.now in
    let file : File = c.args.session.now.checked.now.file in
    let items = c.deref-head-items.result.now in
    let at : slice_get items c.loop-number.number ≡ Some c.head-item.result = got items c.loop-number.number c.head-item.result (omega arith) c.head-item.is in
    head_numbered s s.views c.loop-number.number (head_tree file.names c.head-item.result.now) c.requires
    (head_at file c.file.result.now c.file.ensures.file c.in_ok-heads.heads.items items c.in_ok-heads.ensures c.deref-head-items.ensures.value c.loop-number.number c.head-item.result at)
