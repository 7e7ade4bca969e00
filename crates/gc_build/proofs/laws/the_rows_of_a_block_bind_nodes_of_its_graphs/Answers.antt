use Rattle.gc_build.proofs.TableRows.{rows_bind}
use Rattle.gc_build.proofs.laws.the_rows_of_a_block_bind_nodes_of_its_graphs.Goals as goal

pub returns : goal.returns
returns c = λ graphs segments block table are there h. rows_bind graphs segments are there block table h
