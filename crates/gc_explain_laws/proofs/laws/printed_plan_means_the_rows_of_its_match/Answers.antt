use Rattle.std.specs.Prelude.{[]}
use Rattle.gc_lower.specs.Blocks.{block_of, view_block}
use Rattle.gc_explain_laws.proofs.laws.printed_plan_means_the_rows_of_its_match.Goals as goal

pub returns-clause-matched : goal.returns-clause-matched
returns-clause-matched c = λ graphs s basic h db.
    c.printed_steps_are_those_of_a_plan_that_means_its_block.ensures.means graphs (block_of s [] basic)
    (c.blocks_of_query_files_are_sound.ensures.matched s basic h) db

pub returns-clause-viewed : goal.returns-clause-viewed
returns-clause-viewed c = λ graphs s name chains filter cost h db.
    c.printed_steps_are_those_of_a_plan_that_means_its_block.ensures.means graphs (view_block s chains filter)
    (c.blocks_of_query_files_are_sound.ensures.viewed s name chains filter cost h) db
