use Rattle.std.proofs.Common.{Ok, ap, sym, ◌∙◌}
use Rattle.gc_json.proofs.FileAgrees.{loaded_agrees}
use Rattle.gc_json.proofs.loading.load.Goals as goal

pub returns-in_ok-finish-in-Ok-clause-agrees : goal.returns-in_ok-finish-in-Ok-clause-agrees
returns-in_ok-finish-in-Ok-clause-agrees c =
    loaded_agrees c.args.seen.now c.args.bytes.now (Ok c.in_ok-finish-in-Ok.field-0) (c.in-Ok.ensures ∙ ap (λ g. Ok g) (sym c.in_ok-finish-in-Ok.ensures))
