use Rattle.std.proofs.Common.{◌≡◌, sym, subst}
use Rattle.gc_exec.specs.Sinks.{IsSunk}
use Rattle.gc_exec.specs.declared.sink.Sink.{Sink}
use Rattle.gc_exec.specs.declared.sink.Sink.TheVariants as into
use Rattle.gc_exec.proofs.Outcomes.{on_ok}
use Rattle.gc_exec.proofs.Sinking.{row_gathered}
use Rattle.gc_exec.proofs.sink.Sink.put.Goals as goal

pub returns-in-All : goal.returns-in-All
returns-in-All c =
    let row = c.args.row.now in
    on_ok _ _ (λ e. subst (λ (old : Sink). IsSunk (λ u. row ≡ u) old (into.All c.push.new.self)) (sym c.in-All.is) (row_gathered row c.in-All.array c.push.new.self e)) c.push.result c.push.ensures.ok
