use Rattle.std.proofs.Common.{sym, ap, ◌∙◌}
use Rattle.gc_spec.specs.PropertyGraph.{Path}
use Rattle.gc_ppg.specs.Built.{bad_step}
use Rattle.gc_ppg.proofs.WalkTests.{walk_there}
use Rattle.gc_ppg.proofs.builder.GraphBuilder.add_path.Goals as goal

pub put_path-requires-clause-walk : goal.put_path-requires-clause-walk
put_path-requires-clause-walk c =
    let nodes = c.args.self.now.nodes in
    let edges = c.args.self.now.edges in
    walk_there nodes edges c.args.path.walk (ap (λ (x : Path). bad_step nodes edges x.walk) (sym c.path.view_is) ∙ sym c.in_default.ensures)
