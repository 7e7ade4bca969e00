use Rattle.std.proofs.Common.{rules, subst}
use Rattle.std.proofs.lemmas.Fn.{always_returns_same}
use Rattle.std.proofs.lemmas.List.Sorted.{IsNonDecreasingBy-from_sort_by_key}
use Rattle.std.proofs.lemmas.Result.{IfOk-weaker}
use Rattle.std.specs.Ordering.{nat_cmp, on}
use Rattle.gc_base.specs.Ascending.{Ascends}
use Rattle.gc_sets.proofs.Neighbours.{gathered_apart, gathered_sorted}
use Rattle.gc_sets.proofs.gathering.gathered.Goals as goal

pub united-requires : goal.united-requires
united-requires g c = IsNonDecreasingBy-from_sort_by_key g.T.Claim.id_of _ c.in_ok-sort_by_key.ensures.sorted (λ a r q k. search rules)

pub returns : goal.returns
returns g c =
    let stable = c.sort_by_key.ensures.stable g.T.Claim.id_of (always_returns_same _ _ _ (λ a r f called. search rules)) in
    IfOk-weaker c.united.result _ _ (λ all said. gathered_sorted g.T.Claim.united g.T.Claim.id_of c.args.claims.items c.sort_by_key.new.self.items stable all.items said) c.united.ensures

pub returns-then-ascend : goal.returns-then-ascend
returns-then-ascend g c =
    gathered_apart g.T.Claim.united g.T.Claim.id_of c.args.claims.items (subst (Ascends (on g.T.Claim.id_of nat_cmp)) c.deref.ensures.value (c.ascend.ensures c.if-ascend.true))
