use Rattle.std.proofs.Common.{◌≡◌, drop}
use Rattle.gc_expr.specs.Views.{name_of}
use Rattle.gc_ast.specs.PatternViews.{all_named_by}
use Rattle.gc_sorts.specs.Breaches.{first_among}
use Rattle.gc_sorts.specs.Graphs.{unknown_views}
use Rattle.gc_sorts.proofs.patterns.unknown_views.Given as goal

abbrev pub invariant-loop-view : goal.invariant-loop-view
invariant-loop-view l =
    first_among l.found (unknown_views l.views.order (all_named_by (name_of l.views.names) (drop l.view-index l.view-items)))
    ≡ first_among l.initial.found (unknown_views l.views.order (all_named_by (name_of l.views.names) l.view-items))
