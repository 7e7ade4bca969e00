use Rattle.std.proofs.Common.{◌≡◌, rules, Bool, true, false, List, MatchBool}
use Rattle.std.specs.List.{IsAllAdjacentAnswer}
use Rattle.std.specs.Ordering.{is_lt}
use Rattle.std.proofs.lemmas.Fn.{always_returns_same}
use Rattle.gc_base.specs.Ascending.{Ascends}
use Rattle.gc_cert.specs.declared.document.Potential.{Potential}
use Rattle.gc_cert.specs.Potentials.{potential_order}
use Rattle.gc_check.proofs.Lookups.{ascends_near, near_fails}
use Rattle.gc_check.proofs.listing.ascend.Goals as goal

told : (xs : List Potential) (r : Bool) → IsAllAdjacentAnswer (λ x y b. b ≡ is_lt (potential_order x y)) xs r
    → MatchBool r (Ascends potential_order xs) (Ascends potential_order xs → ⊥)
told xs true h = ascends_near xs h
told xs false h = near_fails xs h.0 h.1 h.2

pub returns : goal.returns
returns c =
    told c.args.potentials.now c.is_sorted_by.result
    (c.is_sorted_by.ensures.cases (λ x y. is_lt (potential_order x y)) (always_returns_same _ _ _ (λ a r f called. search rules)))
