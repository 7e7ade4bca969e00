use Rattle.std.proofs.Common.{IfOk, IfSome, sym, subst}
use Rattle.gc_walks.proofs.SearchableTrees.{searchable_parts}
use Rattle.gc_exec.specs.Reached.{reached_rows}
use Rattle.gc_exec.specs.States.{AreMade, sought_walks}
use Rattle.gc_exec.specs.Walks.{asked}
use Rattle.gc_exec.proofs.Outcomes.{if_ok}
use Rattle.gc_exec.proofs.reached.reached_by.Goals as goal

pub returns-in-Some-product : goal.returns-in-Some-product
returns-in-Some-product g c =
    let base = c.args.base.now in
    let tree = c.args.expression.now in
    let right = c.in-Some-product.ensures in
    subst (λ network. IfOk c.reached_near.result (λ found. IfSome found (λ r. AreMade base.schema.now base.row.now (sought_walks network (asked c.args.ends tree)) (reached_rows base.row.now r)))) (sym right.network)
    (if_ok _ _ (λ found h. h tree (searchable_parts tree c.requires) right.automaton) c.reached_near.result c.reached_near.ensures)
