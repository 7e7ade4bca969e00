use Rattle.std.proofs.Common.{◌≡◌, drop, map}
use Rattle.gc_ast.specs.QueryViews.{part_tree}
use Rattle.gc_ast.specs.Trees.{row}
use Rattle.gc_sorts.specs.Constructs.{with_parts}
use Rattle.gc_sorts.proofs.makes.Makes.add_parts.Given as goal

abbrev pub invariant-loop-part : goal.invariant-loop-part
invariant-loop-part l = record {
  names : l.self.names ≡ l.initial.self.names;
  all : with_parts l.self.all (row (map (part_tree l.initial.self.names) (drop l.part-index l.part-items))) ≡ with_parts l.initial.self.all (row (map (part_tree l.initial.self.names) l.part-items));
}
