use Rattle.gc_sort_rules.proofs.TreeLaws.{breaches_are_broken}
use Rattle.gc_sort_rules.proofs.laws.breaches_are_those_of_the_fifteen_rules.Goals as goal

pub returns : goal.returns
returns c = breaches_are_broken
