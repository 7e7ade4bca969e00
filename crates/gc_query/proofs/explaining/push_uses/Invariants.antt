use Rattle.std.proofs.Common.{◌≡◌, ◌++◌, map, take}
use Rattle.std.specs.List.{flat_map}
use Rattle.gc_ast.specs.QueryViews.{head_tree}
use Rattle.gc_explain_query.specs.QueryLines.{view_of}
use Rattle.gc_query.specs.Answered.{names_in, scope_in}
use Rattle.gc_query.specs.Logs.{explained_view}
use Rattle.gc_query.specs.UsedViews.{uses_of}
use Rattle.gc_query.proofs.explaining.push_uses.Given as goal

-- the uses so far are added
abbrev pub invariant-loop-used : goal.invariant-loop-used
invariant-loop-used l =
    map view_of l.views.items ≡ map view_of l.initial.views.items
    ++ flat_map (explained_view (scope_in l.session) l.named.names) (uses_of (head_tree (names_in l.session) l.head) l.number (take l.used-index l.uses))
