use Rattle.std.proofs.Common.{◌≡◌, ◌-◌, ◌∙◌, refl, ap, subst, map, arith}
use Rattle.std.proofs.lemmas.List.{length-map}
use Rattle.gc_automata.specs.Conformance.{Conforms}
use Rattle.gc_prod.specs.Leading.{pair}
use Rattle.gc_search.specs.Arrivals.{entry_of, arrivals_at}
use Rattle.gc_search.specs.Finding.{costed}
use Rattle.gc_search.specs.FirstWalks.{AreFirst, IsRunTo, IsRun}
use Rattle.gc_search.proofs.ConformLaws.{run_conforms, conforms_run}
use Rattle.gc_search.proofs.FirstLaws.{first_walks, first_other}
use Rattle.gc_search.proofs.WalkFacts.{passage_onward, passage_counted}
use Rattle.gc_search.proofs.searching.search_to.Goals as goal

pub settle-requires : goal.settle-requires
settle-requires g c = record {
  source = c.requires.source;
  costs = passage_onward c.args.p.now c.requires.segments;
  plain = λ plain. passage_counted c.args.p.now (c.is_plain.ensures plain);
}

pub returns-clause-runs : goal.returns-clause-runs
returns-clause-runs g c =
    let target = c.args.target in
    let p = c.args.p.now in
    let source = c.args.source in
    let walks = c.in_ok-walks.walks.walks in
    let last = c.saturating_sub-last.result in
    let is_last : last ≡ p.machine.states - 1 = c.saturating_sub-last.ensures ∙ ap (λ n. n - 1) c.states.ensures in
    subst (λ n. AreFirst (IsRunTo p n) source target c.args.k (map (costed source) (arrivals_at walks (pair target last)))) is_last
    (first_walks p c.nodes-nodes.ensures.graph c.requires.segments c.nodes-nodes.ensures.network source c.requires.source c.args.k walks c.in_ok-walks.ensures.followed target last
    (c.in_ok-walks.ensures.first (pair target last) refl))

pub returns-clause-conform : goal.returns-clause-conform
returns-clause-conform g c = λ tree parts is.
    let target = c.args.target in
    let p = c.args.p.now in
    let source = c.args.source in
    let law = c.nodes-nodes.ensures.network in
    let walks = c.in_ok-walks.walks.walks in
    let last = c.saturating_sub-last.result in
    let laws = c.runs_pass_the_conforming_walks.ensures in
    let is_last : last ≡ p.machine.states - 1 = c.saturating_sub-last.ensures ∙ ap (λ n. n - 1) c.states.ensures in
    let those = map (costed source) (arrivals_at walks (pair target last)) in
    first_other (IsRun p) (Conforms p.network tree) (run_conforms p law tree is laws.conform parts) (conforms_run p law tree is laws.pass) source target c.args.k those
    (subst (λ n. AreFirst (IsRunTo p n) source target c.args.k those) is_last
    (first_walks p c.nodes-nodes.ensures.graph c.requires.segments law source c.requires.source c.args.k walks c.in_ok-walks.ensures.followed target last
    (c.in_ok-walks.ensures.first (pair target last) refl)))

pub invariant_of-result : goal.invariant_of-result
invariant_of-result g c = λ q.
    let walks = c.in_ok-walks.walks.walks in
    omega (arith, c.in_ok-walks.ensures.small q, length-map (arrivals_at walks q) entry_of, c.ranges.k.fits)
