use Rattle.std.proofs.Common.{◌≡◌, ◌++◌, drop, map, None}
use Rattle.std.specs.Option.{option_map}
use Rattle.gc_expr.specs.Views.{name_of}
use Rattle.gc_ast.specs.PatternViews.{pattern_tree}
use Rattle.gc_ast.specs.Trees.{row}
use Rattle.gc_sorts.specs.Links.{link_by, chain_links}
use Rattle.gc_sorts.proofs.match_links.add_chain.Given as goal

abbrev pub invariant-loop-part : goal.invariant-loop-part
invariant-loop-part l = record {
  number : l.number ≡ l.part-index;
  links : map (link_by l.before.names) l.links.items ++ chain_links l.before.uses (option_map (name_of l.before.names) l.left) (row (map (pattern_tree l.before.names) (drop l.part-index l.part-items))) ≡ map (link_by l.before.names) l.initial.links.items ++ chain_links l.before.uses None (row (map (pattern_tree l.before.names) l.part-items));
}
