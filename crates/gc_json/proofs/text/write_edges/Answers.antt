use Rattle.std.proofs.Common.{◌∙◌, arith}
use Rattle.gc_json.specs.CanonicalText.{edge_data}
use Rattle.gc_json.proofs.Turns.{turn}
use Rattle.gc_json.proofs.text.write_edges.Goals as goal

pub loop-i-preserved : goal.loop-i-preserved
loop-i-preserved g c =
    let added = c.in_ok-write_edge.ensures in (
      added.0 ∙ c.loop-i.invariant.0,
      turn edge_data c.args.g.now.edges c.loop-i.i c.edge.result.now c.loop-i.writer.tokens c.write_edge.new.writer.tokens _ c.edge.ensures.edge added.1 c.loop-i.invariant.1,
      c.edge.ensures.step ∙ (omega (arith, c.loop-i.invariant.2)),
    )
