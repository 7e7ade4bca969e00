use Rattle.std.proofs.Common.{◌≡◌, map, take}
use Rattle.std.specs.List.{flat_map}
use Rattle.gc_explain_query.specs.QueryLines.{view_of}
use Rattle.gc_query.specs.Answered.{scope_in}
use Rattle.gc_query.specs.Logs.{explained_view}
use Rattle.gc_query.specs.UsedViews.{in_turn}
use Rattle.gc_query.proofs.explaining.views_of.Given as goal

-- the uses of the heads so far are added
abbrev pub invariant-loop-number : goal.invariant-loop-number
invariant-loop-number l =
    map view_of l.views.items ≡ flat_map (explained_view (scope_in l.session) l.named.names) (in_turn 0 (take l.number (scope_in l.session).views) l.uses)
