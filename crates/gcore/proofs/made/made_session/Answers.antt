use Rattle.gcore.proofs.MakeLaws.{due_of}
use Rattle.gcore.proofs.made.made_session.Goals as goal

pub returns-clause-due : goal.returns-clause-due
returns-clause-due c =
    due_of c.args.kind c.args.size c.args.start c.in_ok-graph.graph c.in_ok-catalog.catalog.graphs _ c.node_count.result c.edge_count.result c.in_ok-graph.ensures c.in_ok-catalog.ensures.graphs
    c.in_ok-checked.ensures.file c.node_count.ensures.count c.edge_count.ensures.count
