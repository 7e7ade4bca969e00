use Rattle.gc_sorts.specs.SortRules.{file_breaches, first_breach}
use Rattle.gc_sort_rules.proofs.VerdictLaws.{first_is_first, verdict}
use Rattle.gc_sort_rules.proofs.laws.the_check_is_by_the_fifteen_rules.Goals as goal

pub returns-clause-first : goal.returns-clause-first
returns-clause-first c = λ graphs statements.
    first_is_first c.breaches_are_those_of_the_fifteen_rules.ensures graphs statements (first_breach graphs statements)
    (c.the_first_breach_is_the_first.ensures.first (file_breaches graphs statements))

pub returns-clause-told : goal.returns-clause-told
returns-clause-told c = λ file graphs outcome h.
    verdict c.breaches_are_those_of_the_fifteen_rules.ensures c.the_first_breach_is_the_first.ensures.first file graphs outcome h
