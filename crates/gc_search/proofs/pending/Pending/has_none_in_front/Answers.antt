use Rattle.std.proofs.Common.{◌<◌, ap, ◌∙◌, arith, length}
use Rattle.std.proofs.lemmas.Bool.Decides.{nat_tests}
use Rattle.gc_search.specs.Waiting.{Queue}
use Rattle.gc_search.proofs.GroupLaws.{some_waiting}
use Rattle.gc_search.proofs.pending.Pending.has_none_in_front.Goals as goal

pub returns-then-is_empty-clause-some : goal.returns-then-is_empty-clause-some
returns-then-is_empty-clause-some c = λ full none.
    let some : 0 < length c.self.inside.groups.entries = grind (arith, nat_tests) in
    some_waiting c.self.inside.groups.entries c.self.invariant some (ap (λ (v : Queue). v.later) c.self.view_is ∙ none)
