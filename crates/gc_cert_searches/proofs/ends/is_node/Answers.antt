use Rattle.std.proofs.Common.{◌∙◌, ap, is_some}
use Rattle.gc_check.proofs.Nodes.{found_among}
use Rattle.gc_cert_searches.proofs.ends.is_node.Goals as goal

pub returns-in-None : goal.returns-in-None
returns-in-None g c = ap is_some c.in-None.ensures.node ∙ found_among c.args.graph.now.nodes c.args.node

pub returns-in-Some : goal.returns-in-Some
returns-in-Some g c = ap is_some c.in-Some.ensures.node ∙ found_among c.args.graph.now.nodes c.args.node
