use Rattle.std.proofs.Common.{◌∙◌, sym}
use Rattle.indexmap.specs.IndexSet.{contains}
use Rattle.gc_sorts.specs.LinkKeys.{same_key}
use Rattle.gc_sorts.proofs.LinkKeys.{with_key}
use Rattle.gc_sorts.proofs.links.add_key.Goals as goal

pub returns-in_ok-insert : goal.returns-in_ok-insert
returns-in_ok-insert c = λ k.
    c.in_ok-insert.ensures k ∙ with_key k c.in-Some.key _ (contains same_key c.args.keys.now k) (sym c.in-Some.ensures.key)
