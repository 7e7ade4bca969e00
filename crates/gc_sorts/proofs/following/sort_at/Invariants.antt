use Rattle.std.proofs.Common.{◌≡◌, List, Some, None, map, drop}
use Rattle.std.specs.List.{flat_map}
use Rattle.gc_expr.specs.Views.{name_of}
use Rattle.gc_ast.specs.QueryViews.{statement_tree}
use Rattle.gc_ast.specs.Trees.{row}
use Rattle.gc_sorts.specs.Blocks.{Around, around_uses}
use Rattle.gc_sorts.specs.FileBlocks.{node_by}
use Rattle.gc_sorts.specs.Variables.{first_sort}
use Rattle.gc_sorts.specs.Ways.{follow, led}
use Rattle.gc_sorts.proofs.following.sort_at.Given as goal

-- what is reached by the steps so far leads on to the same, and the parts so far do not have the variable
abbrev pub invariant-loop-step : goal.invariant-loop-step
invariant-loop-step l = record {
  around : List Around;
  leads : follow around (Some (node_by l.sought.names.now l.at)) (drop l.step-index l.way) ≡ led (row (map (statement_tree l.sought.names.now) l.statements)) l.way;
  none : first_sort (flat_map around_uses around) (name_of l.sought.names.now l.sought.name) ≡ None;
}
