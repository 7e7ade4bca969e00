-- Of the smallest file for each rule the breach of this rule is the first.
use Rattle.std.proofs.Common.{◌≡◌, None, Some, refl}
use Rattle.gc_automata.specs.Automata.{automaton_of}
use Rattle.gc_sorts.specs.Expressions.{expression_breaches}
use Rattle.gc_sorts.specs.SortRules.{breaches, first_breach}
use Rattle.gc_sorts.specs.declared.breach.SortRule.{SortRule}
use Rattle.gc_sorts.specs.declared.breach.SortRule.TheVariants as rule
use Rattle.gc_sort_rules.specs.Examples.{session, smallest, smallest_breach, no_breach}

pub smallest_found : (broken : SortRule) → first_breach session (smallest broken) ≡ Some (smallest_breach broken)
unfolding breaches expression_breaches automaton_of
smallest_found rule.UnknownGraph = refl
smallest_found broken = refl

pub none_found : first_breach session no_breach ≡ None
unfolding breaches expression_breaches
none_found = refl
