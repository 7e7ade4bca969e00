use Rattle.std.proofs.Common.{◌≡◌, nat_lt, rules, subst, sym, true, false, List, ◌∙◌}
use Rattle.std.specs.List.Sorted.{IsPartitionPoint, IsNonDecreasingBy}
use Rattle.std.proofs.lemmas.List.Sorted.{IsPartitionPoint-from_clause, IsPartitionedBy-ltb}
use Rattle.gc_ppg.specs.declared.places.PlaceAt.{PlaceAt}
use Rattle.gc_ppg.proofs.places.Places.halved_start.Goals as goal

pub returns-clause-point : goal.returns-clause-point
returns-clause-point c =
    let key = c.args.key in
    let d = c.deref.ensures.value in
    subst (λ (xs : List PlaceAt). IsPartitionPoint (λ e. nat_lt e.key key ≡ true) (λ e. nat_lt e.key key ≡ false) xs c.partition_point.result) (d ∙ c.self.view_is)
    (IsPartitionPoint-from_clause (λ e. nat_lt e.key key) c.deref.result.now c.partition_point.result c.partition_point.ensures.partitioned
    (IsPartitionedBy-ltb (λ e. e.key) c.deref.result.now key (subst (λ (xs : List PlaceAt). IsNonDecreasingBy (λ e. e.key) xs) (sym d) c.self.invariant))
    (λ a r q k. search rules))
