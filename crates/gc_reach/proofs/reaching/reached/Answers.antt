use Rattle.std.proofs.Common.{◌≡◌, ◌-◌, ◌∙◌, ap, sym, subst, List, ℕ}
use Rattle.std.specs.List.{filter}
use Rattle.std.specs.Ordering.{nat_cmp}
use Rattle.gc_base.specs.Ascending.{Ascends}
use Rattle.gc_prod.specs.Leading.{Passed, pair}
use Rattle.gc_reach.specs.Marking.{Marking, has_pair}
use Rattle.gc_reach.specs.Reached.{AreThose}
use Rattle.gc_reach.proofs.ReachedLaws.{those_passed}
use Rattle.gc_reach.proofs.reaching.reached.Goals as goal

pub returns-clause-runs : goal.returns-clause-runs
returns-clause-runs g c =
    let setting = c.args.p.now in
    let source = c.args.source in
    let nodes = c.settle.new.marks.nodes in
    let pairs = c.settle.new.marks.pairs in
    let last = c.saturating_sub-last.result in
    let same : nodes ≡ c.nodes.result.now =
    c.in_ok-settle.ensures.nodes ∙ (ap (λ (m : Marking). m.nodes) c.in_ok-mark.ensures ∙ ap (λ (m : Marking). m.nodes) c.in_ok-marks.ensures) in
    let up : Ascends nat_cmp nodes = subst (λ (ids : List ℕ). Ascends nat_cmp ids) (sym (same ∙ c.nodes.ensures.nodes)) c.nodes.ensures.ascend in
    let is_last : last ≡ setting.machine.states - 1 = c.saturating_sub-last.ensures ∙ ap (λ n. n - 1) c.states.ensures in
    let found : c.in_ok-found.found.items ≡ filter (λ node. has_pair pairs (pair node last)) nodes = c.in_ok-found.ensures in
    let those = those_passed setting c.nodes.ensures.network nodes source pairs c.in_ok-settle.ensures.all last c.requires up in
    subst (λ (ids : List ℕ). AreThose (λ target. Passed setting (pair source 0) (pair target (setting.machine.states - 1))) ids) (sym found)
    (subst (λ n. AreThose (λ target. Passed setting (pair source 0) (pair target n)) (filter (λ node. has_pair pairs (pair node last)) nodes)) is_last those)
