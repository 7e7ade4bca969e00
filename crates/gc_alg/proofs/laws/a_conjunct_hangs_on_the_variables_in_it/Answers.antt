use Rattle.gc_alg.proofs.SameRows.{true_alike}
use Rattle.gc_alg.proofs.laws.a_conjunct_hangs_on_the_variables_in_it.Goals as goal

pub returns : goal.returns
returns c = true_alike
