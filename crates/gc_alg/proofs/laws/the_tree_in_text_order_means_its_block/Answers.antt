use Rattle.gc_alg.proofs.TextOrder.{text_order}
use Rattle.gc_alg.proofs.laws.the_tree_in_text_order_means_its_block.Goals as goal

pub returns : goal.returns
returns c = λ s up row. text_order s.database s.given up s.block row
