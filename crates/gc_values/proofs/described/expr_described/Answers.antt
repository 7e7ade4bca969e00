use Rattle.std.proofs.Common.{ap, ◌∙◌}
use Rattle.gc_values.specs.Descriptions.{node_description, edge_description, value_described}
use Rattle.gc_values.specs.References.{value_seen}
use Rattle.gc_values.proofs.PathEnds.{node_at_described, edge_at_described}
use Rattle.gc_values.proofs.described.expr_described.Goals as goal

pub returns-in-NodeAt : goal.returns-in-NodeAt
returns-in-NodeAt g c =
    c.node_value_described.ensures
    ∙ (ap (λ graph. value_described (node_description graph) (value_seen c.args.value.now)) c.walk_graph.ensures
    ∙ node_at_described c.args.context.now c.args.expr.now c.in-NodeAt.path c.in-NodeAt.field-1 (value_seen c.args.value.now) c.in-NodeAt.is)

pub returns-in-EdgeAt : goal.returns-in-EdgeAt
returns-in-EdgeAt g c =
    c.edge_value_described.ensures
    ∙ (ap (λ graph. value_described (edge_description graph) (value_seen c.args.value.now)) c.walk_graph-in-EdgeAt.ensures
    ∙ edge_at_described c.args.context.now c.args.expr.now c.in-EdgeAt.path c.in-EdgeAt.field-1 (value_seen c.args.value.now) c.in-EdgeAt.is)
