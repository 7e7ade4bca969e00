use Rattle.std.proofs.Common.{◌≡◌, Some, length, map, slice_get, sym, ap, ◌∙◌, arith}
use Rattle.gc_ast.specs.declared.file.File.{File}
use Rattle.gc_ast.specs.QueryViews.{head_tree}
use Rattle.gc_explain_query.specs.QueryLines.{view_of}
use Rattle.gc_lower.specs.Namings.{scope_in}
use Rattle.gc_lower.specs.Scopes.{Scope}
use Rattle.gc_query.specs.Answered as answered
use Rattle.gc_query.proofs.AllOf.{got}
use Rattle.gc_query.proofs.BlocksFound.{head_numbered}
use Rattle.gc_query.proofs.ExplainedViews.{head_more, head_over, none_shown}
use Rattle.gc_query.proofs.PathHeads.{head_at, head_count}
use Rattle.gc_query.proofs.UsesLaws.{empty_list}
use Rattle.gc_query.proofs.explaining.views_of.Goals as goal

pub returns-then-is_empty : goal.returns-then-is_empty
returns-then-is_empty c =
    ap (map view_of) c.new-views.ensures.items
    ∙ none_shown (answered.scope_in c.args.session.now) c.args.named.now.names (answered.scope_in c.args.session.now).views c.args.uses.now (empty_list c.args.uses.now (sym c.if-is_empty.ensures))

pub loop-number-preserved : goal.loop-number-preserved
unfolding scope_in
loop-number-preserved c =
    let s : Scope = answered.scope_in c.args.session.now in
    let file : File = c.args.session.now.checked.now.file in
    let items = c.deref-head-items.result.now in
    let at : slice_get items c.loop-number.number ≡ Some c.head-item.result = got items c.loop-number.number c.head-item.result (omega arith) c.head-item.is in
    head_more s c.args.named.now.names s.views c.args.uses.now c.loop-number.number (map view_of c.loop-number.views.items) (map view_of c.push_uses.new.views.items) (head_tree file.names c.head-item.result.now)
    (head_at file c.file.result.now c.file.ensures.file c.in_ok-heads.heads.items items c.in_ok-heads.ensures c.deref-head-items.ensures.value c.loop-number.number c.head-item.result at)
    c.loop-number.invariant c.in_ok-push_uses.ensures

pub returns : goal.returns
unfolding scope_in
returns c =
    let s : Scope = answered.scope_in c.args.session.now in
    let file : File = c.args.session.now.checked.now.file in
    let items = c.deref-head-items.result.now in
    let many : length s.views ≡ length items = head_count file c.file.result.now c.file.ensures.file c.in_ok-heads.heads.items items c.in_ok-heads.ensures c.deref-head-items.ensures.value in
    head_over s c.args.named.now.names s.views c.args.uses.now c.loop-number.number (map view_of c.loop-number.views.items) (omega (arith, many, c.loop-number-test.false)) c.loop-number.invariant

pub push_uses-requires : goal.push_uses-requires
unfolding scope_in
push_uses-requires c =
    let s : Scope = answered.scope_in c.args.session.now in
    let file : File = c.args.session.now.checked.now.file in
    let items = c.deref-head-items.result.now in
    let at : slice_get items c.loop-number.number ≡ Some c.head-item.result = got items c.loop-number.number c.head-item.result (omega arith) c.head-item.is in
    head_numbered s s.views c.loop-number.number (head_tree file.names c.head-item.result.now) c.requires
    (head_at file c.file.result.now c.file.ensures.file c.in_ok-heads.heads.items items c.in_ok-heads.ensures c.deref-head-items.ensures.value c.loop-number.number c.head-item.result at)
