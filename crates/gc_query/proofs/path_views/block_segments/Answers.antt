use Rattle.gc_lower.specs.Namings.{scope_in}
use Rattle.gc_query.specs.Answered.{declared_in, names_in, told_of}
use Rattle.gc_query.specs.Answered as answered
use Rattle.gc_query.specs.Segments.{Declared}
use Rattle.gc_query.proofs.ViewsMade.{still_there, table_there, view_comes}
use Rattle.gc_query.proofs.path_views.block_segments.Goals as goal

pub returns-clause-due : goal.returns-clause-due
unfolding scope_in
returns-clause-due g c =
    let d : Declared = declared_in (names_in c.args.session.now) c.args.view.now in
    view_comes (answered.scope_in c.args.session.now) c.args.graphs.now c.args.graph d c.args.block.now c.requires.block c.empty-none.result c.empty-none.ensures c.in_ok-table.table c.in_ok-table.ensures
    c.segments-found.result c.segments-found.ensures.good c.segments-found.ensures.bad c.told.result c.told.ensures

pub returns-clause-there : goal.returns-clause-there
unfolding scope_in
returns-clause-there g c =
    let d : Declared = declared_in (names_in c.args.session.now) c.args.view.now in
    still_there _ _ c.segments-found.result c.told.result c.told.ensures
    (λ one there. c.segments-found.ensures.of_graph one (table_there (answered.scope_in c.args.session.now) c.args.graphs.now c.args.graph d c.args.block.now c.requires.block c.empty-none.result c.empty-none.ensures
    c.in_ok-table.table c.in_ok-table.ensures one there))
