use Rattle.std.proofs.Common.{◌≡◌, ◌++◌, drop, map}
use Rattle.gc_ast.specs.PatternViews.{located_tree}
use Rattle.gc_ast.specs.Trees.{row}
use Rattle.gc_sorts.specs.Uses.{all_of, located_uses}
use Rattle.gc_sorts.proofs.uses.add_located.Given as goal

-- the places so far and those of the rest are those of all
abbrev pub invariant-loop-located : goal.invariant-loop-located
invariant-loop-located l = record {
  names : l.variables.names ≡ l.initial.variables.names;
  uses : l.variables.uses ++ all_of located_uses (row (map (located_tree l.initial.variables.names) (drop l.located-index l.located-items))) ≡ l.initial.variables.uses ++ all_of located_uses (row (map (located_tree l.initial.variables.names) l.located-items));
}
