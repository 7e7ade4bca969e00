use Rattle.std.proofs.Common.{◌≡◌, drop, map}
use Rattle.gc_ast.specs.QueryViews.{item_tree}
use Rattle.gc_ast.specs.Trees.{row}
use Rattle.gc_sorts.specs.Constructs.{with_items}
use Rattle.gc_sorts.proofs.makes.Makes.add_items.Given as goal

abbrev pub invariant-loop-item : goal.invariant-loop-item
invariant-loop-item l = record {
  names : l.self.names ≡ l.initial.self.names;
  all : with_items l.self.all (row (map (item_tree l.initial.self.names) (drop l.item-index l.item-items))) ≡ with_items l.initial.self.all (row (map (item_tree l.initial.self.names) l.item-items));
}
