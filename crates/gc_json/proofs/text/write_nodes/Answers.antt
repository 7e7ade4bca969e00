use Rattle.std.proofs.Common.{◌∙◌, arith}
use Rattle.gc_json.specs.CanonicalText.{node_data}
use Rattle.gc_json.proofs.Turns.{turn}
use Rattle.gc_json.proofs.text.write_nodes.Goals as goal

pub loop-i-preserved : goal.loop-i-preserved
loop-i-preserved g c =
    let added = c.in_ok-write_node.ensures in (
      added.0 ∙ c.loop-i.invariant.0,
      turn node_data c.args.g.now.nodes c.loop-i.i c.node.result.now c.loop-i.writer.tokens c.write_node.new.writer.tokens _ c.node.ensures.node added.1 c.loop-i.invariant.1,
      c.node.ensures.step ∙ (omega (arith, c.loop-i.invariant.2)),
    )
