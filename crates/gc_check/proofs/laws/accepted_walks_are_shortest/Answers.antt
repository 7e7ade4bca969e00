use Rattle.gc_check.proofs.Soundness.{accepted_shortest}
use Rattle.gc_check.proofs.laws.accepted_walks_are_shortest.Goals as goal

pub returns : goal.returns
returns c = accepted_shortest
