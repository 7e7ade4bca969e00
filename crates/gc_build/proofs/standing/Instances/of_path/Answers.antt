use Rattle.std.proofs.Common.{◌∙◌, ◌||◌, ap, ◌==◌}
use Rattle.std.specs.List.{filter}
use Rattle.gc_build.specs.Standing.{has_kept}
use Rattle.gc_build.specs.Walks.{has_walk}
use Rattle.gc_build.proofs.StandingLaws.{walks_of_path}
use Rattle.gc_build.proofs.standing.Instances.of_path.Goals as goal

pub returns : goal.returns
returns c = λ place.
    (λ i.
    has_kept place ((c.of_variable.ensures ∙ ap (filter (λ s. s.var.0 == c.args.path.0)) c.self.invariant.0) i)
    || has_kept place ((c.of_variable-2.ensures ∙ ap (filter (λ s. s.var.0 == c.args.path.0)) c.self.invariant.1) i))
    ∙ walks_of_path place c.args.path c.self.inside.all.now
    ∙ ap (λ kept. has_walk kept c.args.path place) c.self.view_is
