-- What new elements without their tokens are as plain trees.
use Rattle.std.specs.Prelude.{map}
use Rattle.gc_base.specs.declared.place.Direction.{Direction}
use Rattle.gc_expr.specs.Views.{Names}
use Rattle.gc_ast.specs.PatternViews.{named_if, group_term_tree}
use Rattle.gc_ast.specs.QueryViews.{assign_tree}
use Rattle.gc_grammar.specs.Constructs.{Unplaced}
use Rattle.gc_parse_constructs.specs.declared.unplaced.NewPlainElement.{NewPlainElement}

-- a new element without its token
abbrev pub new_plain_element_view : Names → NewPlainElement → Unplaced
new_plain_element_view names e = record {
  name = named_if names e.name;
  copy = named_if names e.copy;
  group = map (group_term_tree names) e.group;
  labels = e.labels;
  assigns = map (assign_tree names) e.assigns.items;
}

-- a new edge without its token, and its way
abbrev pub new_edge_view : Names → NewPlainElement × Direction → Unplaced × Direction
new_edge_view names edge = (new_plain_element_view names edge.0, edge.1)
