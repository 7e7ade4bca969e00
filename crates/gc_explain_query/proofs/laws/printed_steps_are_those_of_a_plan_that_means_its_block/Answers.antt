use Rattle.gc_explain_query.proofs.Printing.{planned_as_printed}
use Rattle.gc_explain_query.specs.QueryLines.{part_estimates}
use Rattle.gc_explain_query.proofs.laws.printed_steps_are_those_of_a_plan_that_means_its_block.Goals as goal

pub returns : goal.returns
returns c = record {
  printed = planned_as_printed;
  means = λ graphs block sound db. c.explained_steps_and_those_of_exists_queries_mean_their_block.ensures (part_estimates graphs) block sound db;
}
