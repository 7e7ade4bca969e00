use Rattle.std.proofs.Common.{◌≡◌, drop, map, None}
use Rattle.std.specs.Option.{option_map}
use Rattle.gc_expr.specs.Views.{name_of}
use Rattle.gc_ast.specs.QueryViews.{part_tree}
use Rattle.gc_ast.specs.Trees.{row}
use Rattle.gc_sorts.specs.Breaches.{first_among}
use Rattle.gc_sorts.specs.Links as linking
use Rattle.gc_sorts.proofs.loose.loose_parts.Given as goal

abbrev pub invariant-loop-part : goal.invariant-loop-part
invariant-loop-part l = record {
  number : l.number ≡ l.part-index;
  found : first_among l.found (linking.loose_parts l.links.uses l.links.links (option_map (name_of l.links.names) l.left) (row (map (part_tree l.links.names) (drop l.part-index l.part-items)))) ≡ first_among l.initial.found (linking.loose_parts l.links.uses l.links.links None (row (map (part_tree l.links.names) l.part-items)));
}
