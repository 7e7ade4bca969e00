use Rattle.std.proofs.Common.{sym, ap, map, ◌∙◌}
use Rattle.gc_base.specs.Walks.{edges_of}
use Rattle.gc_base.specs.declared.walk.Step.{Step}
use Rattle.gc_reach.specs.OnWalks.{nodes_of, IsOnRun, IsOnWalk}
use Rattle.gc_reach.proofs.OnLaws.{nodes_on, edges_on}
use Rattle.gc_reach.proofs.ReachedLaws.{those_other, on_run_walk, on_walk_run}
use Rattle.gc_reach.proofs.passing.on_walks.Goals as goal

pub returns-clause-nodes : goal.returns-clause-nodes
returns-clause-nodes g c =
    let found = c.in_ok-found.found in
    nodes_on c.args.p.now c.between.ensures.network c.args.source c.args.target c.requires.source found.some found.steps.items c.in_ok-found.ensures.exact
    c.in_ok-nodes_along.field-0.items c.in_ok-nodes.nodes.items c.from_vec.result c.in_ok-nodes_along.ensures c.in_ok-nodes.ensures (sym c.from_vec.ensures)

pub returns-clause-edges : goal.returns-clause-edges
returns-clause-edges g c =
    let found = c.in_ok-found.found in
    edges_on c.args.p.now c.between.ensures.network c.args.source c.args.target c.requires.source found.some found.steps.items c.in_ok-found.ensures.exact
    c.in_ok-edges_along.field-0.items c.in_ok-edges.edges.items c.from_vec-2.result
    (c.in_ok-edges_along.ensures ∙ ap (map (λ (step : Step). step.edge)) c.deref.ensures.value) c.in_ok-edges.ensures (sym c.from_vec-2.ensures)

pub returns-clause-conform : goal.returns-clause-conform
returns-clause-conform g c = λ tree parts is.
    let found = c.in_ok-found.found in
    let setting = c.args.p.now in
    let law = c.between.ensures.network in
    let source = c.args.source in
    let target = c.args.target in
    let laws = c.runs_pass_the_conforming_walks.ensures in
    let nodes = nodes_on setting law source target c.requires.source found.some found.steps.items c.in_ok-found.ensures.exact
    c.in_ok-nodes_along.field-0.items c.in_ok-nodes.nodes.items c.from_vec.result c.in_ok-nodes_along.ensures c.in_ok-nodes.ensures (sym c.from_vec.ensures) in
    let edges = edges_on setting law source target c.requires.source found.some found.steps.items c.in_ok-found.ensures.exact
    c.in_ok-edges_along.field-0.items c.in_ok-edges.edges.items c.from_vec-2.result
    (c.in_ok-edges_along.ensures ∙ ap (map (λ (step : Step). step.edge)) c.deref.ensures.value) c.in_ok-edges.ensures (sym c.from_vec-2.ensures) in (
      those_other (IsOnRun nodes_of setting source target) (IsOnWalk nodes_of setting.network tree source target) c.from_vec.result
          (λ id. on_run_walk setting law tree is source target nodes_of id laws.conform parts)
          (λ id. on_walk_run setting law tree is source target nodes_of id laws.pass) nodes,
      those_other (IsOnRun edges_of setting source target) (IsOnWalk edges_of setting.network tree source target) c.from_vec-2.result
          (λ id. on_run_walk setting law tree is source target edges_of id laws.conform parts)
          (λ id. on_walk_run setting law tree is source target edges_of id laws.pass) edges,
    )
