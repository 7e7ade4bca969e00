use Rattle.std.proofs.Common.{◌≡◌, [], ◌∷◌, ◌++◌, sym, ap, ◌∙◌, subst, append_assoc}
use Rattle.std.specs.List.Sorted.{IsStrictlySortedBy}
use Rattle.gc_base.specs.Ascending.{with_item}
use Rattle.gc_json.proofs.SortedSets.{with_item-next}
use Rattle.gc_json.proofs.collected.set_of.Goals as goal

pub loop-item-preserved : goal.loop-item-preserved
loop-item-preserved g c =
    let cmp = g.T.Ord.cmp in
    let done = c.loop-item.yielded in
    let item = c.in-Some.item in
    let left = c.next.new.self in
    let all : c.args.items.keys ≡ done ++ item ∷ left = c.loop-item.invariant.1 ∙ ap (λ es. done ++ es) c.in-Some.ensures.steps in
    let next = with_item-next cmp done item left (subst (IsStrictlySortedBy cmp) all c.into_iter-item-iterator.ensures.into_iter_gives.4) in (
      c.in_ok-insert.ensures.ok ∙ (ap (λ xs. with_item cmp xs item) c.loop-item.invariant.0 ∙ next),
      all ∙ sym (append_assoc done (item ∷ []) left),
    )
