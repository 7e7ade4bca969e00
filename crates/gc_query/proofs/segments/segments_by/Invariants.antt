use Rattle.std.proofs.Common.{[], take}
use Rattle.gc_walks.specs.Databases.{AreOnGraphs}
use Rattle.gc_query.specs.Answered.{scope_in}
use Rattle.gc_query.specs.UsedViews.{in_turn}
use Rattle.gc_query.specs.Uses.{Gains}
use Rattle.gc_query.proofs.segments.segments_by.Given as goal

-- the heads so far have gained the entries of their uses
abbrev pub invariant-loop-number : goal.invariant-loop-number
invariant-loop-number g l =
    Gains (scope_in l.session) l.graphs (in_turn 0 (take l.number (scope_in l.session).views) l.uses) [] l.table × AreOnGraphs l.graphs l.table
