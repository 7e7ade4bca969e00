use Rattle.gc_automata.proofs.Entering.{conforming_runs}
use Rattle.gc_automata.proofs.Leaving.{runs_conform}
use Rattle.gc_automata.proofs.laws.runs_pass_the_conforming_walks.Goals as goal

pub returns-clause-conform : goal.returns-clause-conform
returns-clause-conform c = runs_conform

pub returns-clause-pass : goal.returns-clause-pass
returns-clause-pass c = conforming_runs
