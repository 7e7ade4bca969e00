use Rattle.std.proofs.lemmas.Result.{IfOk-weaker}
use Rattle.gc_sets.specs.Claims.{Claims}
use Rattle.gc_sets.proofs.Outcomes.{outcome}
use Rattle.gc_sets.proofs.uniting.unite.Goals as goal

pub returns : goal.returns
returns c =
    let all : Claims = record { nodes = c.args.nodes.items; edges = c.args.edges.items; paths = c.args.paths.items } in
    IfOk-weaker c.assembled.result _ _
    (outcome c.in_ok-nodes.nodes.items c.in_ok-edges.edges.items c.in_ok-paths.paths.items all c.in_ok-nodes.ensures c.in_ok-edges.ensures c.in_ok-paths.ensures) c.assembled.ensures
