use Rattle.std.proofs.Common.{length}
use Rattle.indexmap.specs.IndexSet.{contains}
use Rattle.gc_sorts.specs.LinkKeys.{same_key}
use Rattle.gc_sorts.proofs.LinkKeys.{more_keys}
use Rattle.gc_sorts.proofs.links.Links.of.Goals as goal

pub loop-link-preserved : goal.loop-link-preserved
loop-link-preserved c = λ k.
    more_keys (length c.args.matched.now.names) k c.args.links.now c.loop-link.link-index _ (contains same_key c.loop-link.keys k) (contains same_key c.add_keys.new.keys k)
    c.loop-link-test.true (c.in_ok-add_keys.ensures k) (c.loop-link.invariant k)
