use Rattle.std.proofs.Common.{take}
use Rattle.gc_automata.specs.Machines.{IsAutomatonOf}
use Rattle.gc_regx.specs.Expressions.{HasParts}
use Rattle.gc_regx.specs.Trees.{RegexTree, ARegex}
use Rattle.gc_build.specs.AllPaths.{LiesBetween}
use Rattle.gc_build.specs.Passed.{ArePassed}
use Rattle.gc_build.proofs.all_paths.passed_between.Given as goal

-- what lies between the nodes of the spans so far
abbrev pub invariant-loop-span : goal.invariant-loop-span
invariant-loop-span g l =
    (tree : RegexTree ARegex) → HasParts tree → IsAutomatonOf tree l.product.machine
    → ArePassed (λ parts_of. LiesBetween parts_of l.product.network tree (take l.span-index l.spans)) l.passed.nodes.items l.passed.edges.items
