use Rattle.std.proofs.Common.{rules}
use Rattle.gc_alg.proofs.Items.{atoms_are}
use Rattle.gc_build.proofs.patterns.all_in.Goals as goal

pub returns : goal.returns
returns c = rw (atoms_are c.args.part.now) (search rules)
