-- The plan whose steps are printed.
use Rattle.std.specs.Prelude.{List, []}
use Rattle.gc_spec.specs.PropertyGraph.{PropertyGraph}
use Rattle.gc_alg.specs.Plans.{PlanTree}
use Rattle.gc_alg.specs.Trees.{Tree, ABlock}
use Rattle.gc_explain.specs.WholePlans.{whole_block}
use Rattle.gc_explain_query.specs.QueryLines.{part_estimates}

-- the plan of a block, made of the steps that are printed for its parts and for those of its EXISTS queries
abbrev pub printed_plan : List PropertyGraph → Tree ABlock → PlanTree
printed_plan graphs block = whole_block (part_estimates graphs) [] block
