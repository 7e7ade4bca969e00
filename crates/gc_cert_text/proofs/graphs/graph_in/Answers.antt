use Rattle.std.proofs.Common.{arith, sym, codes}
use Rattle.serde_json.specs.View.{view}
use Rattle.gc_cert_text.proofs.Depths.{get_shallower}
use Rattle.gc_cert_text.proofs.graphs.graph_in.Goals as goal

pub graph_of-requires : goal.graph_of-requires
graph_of-requires c = omega (arith, c.requires, get_shallower (codes "graph") (view c.args.value.now) (view c.in-Some.graph.now) (sym c.in-Some.ensures))
