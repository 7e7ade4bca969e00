use Rattle.std.proofs.Common.{◌≡◌, ◌++◌, map, take}
use Rattle.std.specs.List.{flat_map}
use Rattle.gc_explain_query.specs.QueryLines.{view_lines, view_of}
use Rattle.gc_explain_query.proofs.queries.push_views.Given as goal

-- the lines of the views so far
abbrev pub invariant-loop-view : goal.invariant-loop-view
invariant-loop-view l = l.text.items ≡ l.initial.text.items ++ flat_map (view_lines l.graphs) (map view_of (take l.view-index l.views))
