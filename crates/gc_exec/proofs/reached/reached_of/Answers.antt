use Rattle.std.proofs.Common.{IfOk, IfSome, sym, ap, ◌∙◌, subst}
use Rattle.std.specs.Option.{option_map}
use Rattle.gc_exec.specs.Reached.{reached_rows}
use Rattle.gc_exec.specs.States.{AreMade}
use Rattle.gc_exec.specs.Walks.{asked}
use Rattle.gc_exec.proofs.Networks.{walks_sought}
use Rattle.gc_exec.proofs.reached.reached_of.Goals as goal

pub returns-in-Some : goal.returns-in-Some
returns-in-Some g c =
    let base = c.args.base.now in
    let some = ap (option_map (λ w. asked w.0 w.1.now)) (sym c.in-Some.is) ∙ c.walks_of.ensures.walks in
    subst (λ sought. IfOk c.reached_by.result (λ found. IfSome found (λ r. AreMade base.schema.now base.row.now sought (reached_rows base.row.now r))))
    (walks_sought c.args.task.now.graphs.now c.args.atom.now _ _ _ some c.in-Some.ensures.views) c.reached_by.ensures
