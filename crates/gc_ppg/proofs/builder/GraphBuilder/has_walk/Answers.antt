use Rattle.std.proofs.Common.{ap, ◌∙◌}
use Rattle.gc_ppg.proofs.WalkTests.{is_nothing, walk_tested}
use Rattle.gc_ppg.proofs.builder.GraphBuilder.has_walk.Goals as goal

pub returns-in-None : goal.returns-in-None
returns-in-None c = ap is_nothing c.in-None.ensures ∙ walk_tested c.args.self.now.nodes c.args.self.now.edges c.args.walk.now

pub returns-in-Some : goal.returns-in-Some
returns-in-Some c = ap is_nothing c.in-Some.ensures ∙ walk_tested c.args.self.now.nodes c.args.self.now.edges c.args.walk.now
