use Rattle.gc_values.proofs.SameRows.{truth_same}
use Rattle.gc_values.proofs.laws.the_truth_of_a_condition_hangs_on_the_variables_in_it.Goals as goal

pub returns : goal.returns
returns c = truth_same
