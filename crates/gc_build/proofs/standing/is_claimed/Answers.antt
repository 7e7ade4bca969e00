use Rattle.std.proofs.Common.{◌∙◌, sym, ap}
use Rattle.std.specs.List.{list_any}
use Rattle.gc_build.specs.Kept.{has_instance}
use Rattle.gc_build.proofs.standing.is_claimed.Goals as goal

pub returns : goal.returns
returns c =
    c.is_kept_on.ensures
    ∙ (λ i. list_any (λ row. c.requires row i) c.as_slice.result.now)
    ∙ ap (list_any (has_instance c.args.kept.now c.args.var)) c.as_slice.ensures
