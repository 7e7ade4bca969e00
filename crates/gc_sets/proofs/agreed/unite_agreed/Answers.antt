use Rattle.gc_sets.specs.Claims.{Claims}
use Rattle.gc_sets.proofs.AgreedLaws.{agreed_made, edges_fit, paths_fit}
use Rattle.gc_sets.proofs.agreed.unite_agreed.Goals as goal

pub graph_of-requires : goal.graph_of-requires
graph_of-requires c =
    let claims : Claims = record { nodes = c.args.nodes.items; edges = c.args.edges.items; paths = c.args.paths.items } in
    let ns = c.in_ok-nodes.nodes.items in
    let es = c.in_ok-edges.edges.items in
    let ps = c.in_ok-paths.paths.items in record {
      nodes = c.in_ok-nodes.ensures.ascend;
      edges = c.in_ok-edges.ensures.ascend;
      paths = c.in_ok-paths.ensures.ascend;
      edges_fit = edges_fit claims c.requires ns es ps c.in_ok-nodes.ensures c.in_ok-edges.ensures c.in_ok-paths.ensures;
      paths_fit = paths_fit claims c.requires ns es ps c.in_ok-nodes.ensures c.in_ok-edges.ensures c.in_ok-paths.ensures;
    }

pub returns : goal.returns
returns c =
    let claims : Claims = record { nodes = c.args.nodes.items; edges = c.args.edges.items; paths = c.args.paths.items } in
    agreed_made claims c.requires c.in_ok-nodes.nodes.items c.in_ok-edges.edges.items c.in_ok-paths.paths.items c.in_ok-nodes.ensures c.in_ok-edges.ensures c.in_ok-paths.ensures
    c.in_ok-graph.graph c.in_ok-graph.ensures c.node_count-valid.ensures.valid
