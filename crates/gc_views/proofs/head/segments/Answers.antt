use Rattle.std.proofs.Common.{◌∙◌, ap, refl}
use Rattle.gc_lower.specs.Namings.{scope_of, scope_in}
use Rattle.gc_views.specs.Namings.{chain_trees, view_of}
use Rattle.gc_views.specs.Segments.{View}
use Rattle.gc_views.proofs.GraphSegments.{of_view}
use Rattle.gc_views.proofs.head.segments.Goals as goal

pub returns-clause-of_graph : goal.returns-clause-of_graph
unfolding scope_in
returns-clause-of_graph g c = λ graph is_table.
    of_view (scope_of c.args.checked.now c.args.on)
    (chain_trees c.args.checked.now c.args.chains.now) c.args.on graph c.args.table.now is_table refl
    (view_of c.in_ok-view.view) (ap (λ (v : View). v.trail) c.in_ok-view.ensures) c.args.table.now.rows refl
    c.segments_of.result c.segments_of.ensures.good
