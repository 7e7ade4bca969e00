use Rattle.std.proofs.Common.{◌≡◌, refl, true, sym, ap, ◌∙◌}
use Rattle.gc_lower.specs.Namings.{scope_in}
use Rattle.gc_query.specs.Answered.{declared_in, names_in}
use Rattle.gc_query.specs.Answered as answered
use Rattle.gc_query.specs.Built.{are_searched}
use Rattle.gc_query.specs.Segments.{Declared, is_view}
use Rattle.gc_query.proofs.PlainViews.{view_searched}
use Rattle.gc_query.proofs.ViewsMade.{as_view}
use Rattle.gc_query.proofs.path_views.view_segments.Goals as goal

pub block_segments-requires-clause-block : goal.block_segments-requires-clause-block
unfolding scope_in
block_segments-requires-clause-block g c = (c.in_ok-lowered.ensures _ c.requires refl).is_block

pub block_segments-requires-clause-searched : goal.block_segments-requires-clause-searched
unfolding scope_in
block_segments-requires-clause-searched g c =
    let d : Declared = declared_in (names_in c.args.session.now) c.args.view.now in
    let plain : is_view d ≡ true = sym (c.is_plain_view.ensures (names_in c.args.session.now)) ∙ c.if-not-is_plain_view.false in
    ap are_searched (c.in_ok-lowered.ensures _ c.requires refl).is_block ∙ view_searched (answered.scope_in c.args.session.now) c.args.graph d plain

pub returns-clause-due : goal.returns-clause-due
returns-clause-due g c =
    let d : Declared = declared_in (names_in c.args.session.now) c.args.view.now in
    let plain : is_view d ≡ true = sym (c.is_plain_view.ensures (names_in c.args.session.now)) ∙ c.if-not-is_plain_view.false in
    as_view (answered.scope_in c.args.session.now) c.args.graphs.now c.args.graph d plain c.block_segments.result c.block_segments.ensures.due
