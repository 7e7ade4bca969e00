-- The variables that occur in a conjunct, and in whatever it holds.
use Rattle.std.specs.Prelude.{List, [], ◌++◌}
use Rattle.std.specs.List.{flat_map}
use Rattle.gc_base.specs.declared.place.Sym.{Sym}
use Rattle.gc_alg.specs.Instances.{variables_of}
use Rattle.gc_alg.specs.Trees.{Kind, Tree, BlockOf, PartOf, ConjunctOf, ExistsOf, none, more}
use Rattle.gc_rules.specs.ExpressionVariables.{in_expression}

-- those of conditions and of atoms; EXISTS queries count with all that is in their blocks, at any depth
unfoldable pub occurring : {k : Kind} → Tree k → List Sym
occurring (BlockOf parts reads) = occurring parts
occurring (PartOf atoms conjuncts) = flat_map (λ a. variables_of a.what) atoms ++ occurring conjuncts
occurring (ConjunctOf condition queries) = in_expression condition ++ occurring queries
occurring (ExistsOf outer block text) = outer ++ occurring block
occurring none = []
occurring (more t ts) = occurring t ++ occurring ts
