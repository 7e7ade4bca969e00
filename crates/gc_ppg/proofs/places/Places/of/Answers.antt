use Rattle.std.proofs.Common.{rules}
use Rattle.std.proofs.lemmas.Fn.{always_returns_same}
use Rattle.std.proofs.lemmas.List.Sorted.{IsNonDecreasingBy-from_sort_by_key}
use Rattle.gc_ppg.proofs.Runs.{kept_by_sort}
use Rattle.gc_ppg.proofs.places.Places.of.Goals as goal

pub invariant_of-result : goal.invariant_of-result
invariant_of-result c = IsNonDecreasingBy-from_sort_by_key (λ e. e.key) _ c.in_ok-sort_by_key.ensures.sorted (λ a r q k. search rules)

pub returns : goal.returns
returns c =
    kept_by_sort c.args.entries.items c.sort_by_key.new.self.items
    (c.sort_by_key.ensures.stable (λ e. e.key) (always_returns_same _ _ _ (λ a r f called. search rules)))
