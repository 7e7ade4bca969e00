use Rattle.std.proofs.Common.{◌∙◌}
use Rattle.gc_build.proofs.standing.has_walk.Goals as goal

pub returns : goal.returns
returns c = c.has_either.ensures ∙ c.requires c.args.place
