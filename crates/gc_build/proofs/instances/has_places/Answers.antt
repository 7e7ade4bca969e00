use Rattle.std.proofs.Common.{◌∙◌, ap}
use Rattle.gc_build.specs.Makers.{has_all}
use Rattle.gc_build.proofs.InstanceLaws.{all_made_at}
use Rattle.gc_build.proofs.instances.has_places.Goals as goal

pub returns : goal.returns
returns c = c.has_all.ensures ∙ ap (has_all c.args.place) c.requires ∙ all_made_at c.args.making.now c.args.place c.args.chain.now.places
