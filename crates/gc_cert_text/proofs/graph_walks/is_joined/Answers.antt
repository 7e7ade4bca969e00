use Rattle.std.proofs.Common.{◌∙◌}
use Rattle.gc_cert_text.proofs.GraphWalks.{joined_found}
use Rattle.gc_cert_text.proofs.graph_walks.is_joined.Goals as goal

pub returns-in-None : goal.returns-in-None
returns-in-None g c = joined_found c.args.graph.now c.args.edge c.args.a c.args.b _ c.edge_count-edges.ensures.valid c.in-None.ensures.edge

pub returns-in-Some : goal.returns-in-Some
returns-in-Some g c = c.has_ends.ensures ∙ joined_found c.args.graph.now c.args.edge c.args.a c.args.b _ c.edge_count-edges.ensures.valid c.in-Some.ensures.edge
