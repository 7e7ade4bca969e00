use Rattle.std.proofs.Common.{◌∙◌, arith}
use Rattle.gc_json.specs.CanonicalText.{path_data}
use Rattle.gc_json.proofs.Turns.{turn}
use Rattle.gc_json.proofs.text.write_paths.Goals as goal

pub loop-i-preserved : goal.loop-i-preserved
loop-i-preserved g c =
    let added = c.in_ok-write_path.ensures in (
      added.0 ∙ c.loop-i.invariant.0,
      turn path_data c.args.g.now.paths c.loop-i.i c.path.result.now c.loop-i.writer.tokens c.write_path.new.writer.tokens _ c.path.ensures.path added.1 c.loop-i.invariant.1,
      c.path.ensures.step ∙ (omega (arith, c.loop-i.invariant.2)),
    )
