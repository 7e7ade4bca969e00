use Rattle.std.proofs.Common.{rules}
use Rattle.std.proofs.lemmas.Fn.{always_returns_same}
use Rattle.std.proofs.lemmas.List.Sorted.{IsNonDecreasingBy-from_sort_by_key}
use Rattle.gc_prod.proofs.KeyRuns.{kept_by_sort}
use Rattle.gc_prod.proofs.keyed.ByKey.of.Goals as goal

pub invariant_of-result : goal.invariant_of-result
invariant_of-result g c = IsNonDecreasingBy-from_sort_by_key g.T.Keyed.key_of _ c.in_ok-sort_by_key.ensures.sorted (λ a r q k. search rules)

pub returns : goal.returns
returns g c = λ key.
    kept_by_sort g.T.Keyed.key_of key c.args.items.items c.sort_by_key.new.self.items
    (c.sort_by_key.ensures.stable g.T.Keyed.key_of (always_returns_same _ _ _ (λ a r f called. search rules)))
