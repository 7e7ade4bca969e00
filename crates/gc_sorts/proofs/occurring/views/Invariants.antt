use Rattle.std.proofs.Common.{◌≡◌, drop}
use Rattle.gc_expr.specs.Views.{name_of}
use Rattle.gc_ast.specs.PatternViews.{all_named_by}
use Rattle.gc_sorts.specs.Collected.{collect}
use Rattle.gc_sorts.specs.Occurrences.{view_names}
use Rattle.gc_sorts.proofs.occurring.views.Given as goal

abbrev pub invariant-loop-view : goal.invariant-loop-view
invariant-loop-view l =
    collect l.found (view_names l.sight.at (all_named_by (name_of l.sight.names) (drop l.view-index l.view-items)))
    ≡ collect l.initial.found (view_names l.sight.at (all_named_by (name_of l.sight.names) l.view-items))
