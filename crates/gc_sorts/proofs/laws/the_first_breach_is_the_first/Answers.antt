use Rattle.gc_sorts.proofs.FirstBreach.{the_first, neither_before}
use Rattle.gc_sorts.proofs.laws.the_first_breach_is_the_first.Goals as goal

pub returns-clause-first : goal.returns-clause-first
returns-clause-first c = the_first

pub returns-clause-one : goal.returns-clause-one
returns-clause-one c = neither_before
