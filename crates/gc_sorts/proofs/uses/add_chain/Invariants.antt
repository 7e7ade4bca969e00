use Rattle.std.proofs.Common.{◌≡◌, ◌++◌, drop, map}
use Rattle.gc_ast.specs.PatternViews.{pattern_tree}
use Rattle.gc_ast.specs.Trees.{row}
use Rattle.gc_sorts.specs.Uses.{all_of, pattern_uses}
use Rattle.gc_sorts.proofs.uses.add_chain.Given as goal

-- the places so far and those of the rest are those of all
abbrev pub invariant-loop-part : goal.invariant-loop-part
invariant-loop-part l = record {
  names : l.variables.names ≡ l.initial.variables.names;
  uses : l.variables.uses ++ all_of pattern_uses (row (map (pattern_tree l.initial.variables.names) (drop l.part-index l.part-items))) ≡ l.initial.variables.uses ++ all_of pattern_uses (row (map (pattern_tree l.initial.variables.names) l.part-items));
}
