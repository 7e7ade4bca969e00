use Rattle.std.proofs.Common.{take}
use Rattle.gc_ast.specs.QueryViews.{head_tree}
use Rattle.gc_walks.specs.Databases.{AreOnGraphs}
use Rattle.gc_query.specs.Answered.{names_in, scope_in}
use Rattle.gc_query.specs.UsedViews.{uses_of}
use Rattle.gc_query.specs.Uses.{Gains}
use Rattle.gc_query.proofs.segments.add_uses.Given as goal

-- the uses so far have gained their entries
abbrev pub invariant-loop-used : goal.invariant-loop-used
invariant-loop-used g l =
    Gains (scope_in l.session) l.graphs (uses_of (head_tree (names_in l.session) l.head) l.number (take l.used-index l.uses)) l.initial.table l.table
    × (AreOnGraphs l.graphs l.initial.table → AreOnGraphs l.graphs l.table)
