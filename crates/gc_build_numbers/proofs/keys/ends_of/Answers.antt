use Rattle.std.proofs.Common.{sym, subst}
use Rattle.gc_build_numbers.specs.Ends.{AreEnds}
use Rattle.gc_build_numbers.proofs.keys.ends_of.Goals as goal

pub returns-in-Link : goal.returns-in-Link
returns-in-Link c = subst (λ g. AreEnds c.args.before.now g c.ends_between.result) (sym c.in-Link.is) (c.ends_between.ensures.source, c.ends_between.ensures.target)
