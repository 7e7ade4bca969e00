use Rattle.std.proofs.Common.{subst}
use Rattle.gc_sort_rules.specs.Examples.{no_breach, session, smallest}
use Rattle.gc_sort_rules.specs.Verdicts.{IsFirstBreach}
use Rattle.gc_sort_rules.proofs.ExampleLaws.{none_found, smallest_found}
use Rattle.gc_sort_rules.proofs.laws.each_rule_is_broken_by_its_example.Goals as goal

pub returns-clause-broken : goal.returns-clause-broken
returns-clause-broken c = λ rule.
    subst (IsFirstBreach session (smallest rule)) (smallest_found rule)
    (c.the_check_is_by_the_fifteen_rules.ensures.first session (smallest rule))

pub returns-clause-kept : goal.returns-clause-kept
returns-clause-kept c =
    subst (IsFirstBreach session no_breach) none_found (c.the_check_is_by_the_fifteen_rules.ensures.first session no_breach)
