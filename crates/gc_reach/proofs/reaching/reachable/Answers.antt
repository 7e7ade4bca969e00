use Rattle.std.proofs.Common.{◌-◌, sym, subst, List, ℕ}
use Rattle.gc_prod.specs.Leading.{Passed, pair}
use Rattle.gc_reach.specs.Reached.{AreThose, IsReached}
use Rattle.gc_reach.proofs.ReachedLaws.{those_other, passed_conforms, conforms_passed}
use Rattle.gc_reach.proofs.reaching.reachable.Goals as goal

pub returns-clause-runs : goal.returns-clause-runs
returns-clause-runs g c =
    let setting = c.args.p.now in
    subst (λ (ids : List ℕ). AreThose (λ target. Passed setting (pair c.args.source 0) (pair target (setting.machine.states - 1))) ids) (sym c.from_vec.ensures) c.in_ok-found.ensures.runs

pub returns-clause-conform : goal.returns-clause-conform
returns-clause-conform g c = λ tree parts is.
    let setting = c.args.p.now in
    let source = c.args.source in
    let laws = c.runs_pass_the_conforming_walks.ensures in
    subst (λ (ids : List ℕ). AreThose (IsReached setting.network tree source) ids) (sym c.from_vec.ensures)
    (those_other (λ target. Passed setting (pair source 0) (pair target (setting.machine.states - 1))) (IsReached setting.network tree source) c.in_ok-found.found.items
    (λ target. passed_conforms setting c.reached.ensures.network tree is source target laws.conform parts)
    (λ target. conforms_passed setting c.reached.ensures.network tree is source target laws.pass)
    c.in_ok-found.ensures.runs)
