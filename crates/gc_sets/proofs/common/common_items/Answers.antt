use Rattle.std.proofs.Common.{◌≡◌, [], fold, drop, sym, ap, ◌∙◌, arith}
use Rattle.std.specs.List.{filter}
use Rattle.std.proofs.lemmas.List.{drop_all}
use Rattle.gc_base.specs.Ascending.{has, with_item}
use Rattle.gc_base.proofs.SetLaws.{Ascends-filter}
use Rattle.gc_sets.proofs.Sets.{fold-ascending}
use Rattle.gc_sets.proofs.common.common_items.Goals as goal

pub returns : goal.returns
returns g c =
    let cmp = g.T.Ord.cmp in
    let test = has cmp c.args.others.now in
    let items = c.as_slice-item-items.result.now in
    let done : drop c.loop-item.item-index items ≡ [] = drop_all c.loop-item.item-index items (omega (arith, c.loop-item-test.false)) in
    ap (λ xs. fold (with_item cmp) c.loop-item.kept (filter test xs)) (sym done)
    ∙ (c.loop-item.invariant ∙ fold-ascending cmp (filter test c.args.set.now) (Ascends-filter cmp g.met.T.Ord.total test c.args.set.now c.as_slice-item-items.ensures.ascends))
