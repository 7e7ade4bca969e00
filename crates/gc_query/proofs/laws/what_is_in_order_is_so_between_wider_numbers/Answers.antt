use Rattle.gc_query.proofs.InOrderLaws.{if_wider, name_wider, order_wider}
use Rattle.gc_query.proofs.laws.what_is_in_order_is_so_between_wider_numbers.Goals as goal

pub returns-clause-tree : goal.returns-clause-tree
returns-clause-tree c = λ names k low from upto high t l h n. order_wider names low from upto high t l h n

pub returns-clause-name : goal.returns-clause-name
returns-clause-name c = name_wider

pub returns-clause-optional : goal.returns-clause-optional
returns-clause-optional c = if_wider
