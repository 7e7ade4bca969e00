use Rattle.std.proofs.Common.{◌∙◌, ap, ◌==◌}
use Rattle.std.specs.List.{filter}
use Rattle.gc_build.specs.Kept.{has_instance}
use Rattle.gc_build.specs.Standing.{has_kept}
use Rattle.gc_build.proofs.StandingLaws.{instances_of}
use Rattle.gc_build.proofs.standing.Instances.of_variable.Goals as goal

pub returns : goal.returns
returns c = λ place.
    ap (has_kept place) (c.of_variable.ensures ∙ ap (filter (λ s. s.var.0 == c.args.var.0)) c.self.invariant.0)
    ∙ instances_of place c.args.var c.self.inside.all.now
    ∙ ap (λ kept. has_instance kept c.args.var place) c.self.view_is
