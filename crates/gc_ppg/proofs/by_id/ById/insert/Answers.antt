use Rattle.std.proofs.Common.{ap, ◌∙◌}
use Rattle.std.specs.Ordering.{nat_cmp, on}
use Rattle.gc_base.specs.Ascending.{with_item}
use Rattle.gc_ppg.proofs.Collecting.{grown}
use Rattle.gc_ppg.proofs.by_id.ById.insert.Goals as goal

pub invariant_of-self-2 : goal.invariant_of-self-2
invariant_of-self-2 g c =
    let inside = c.self.inside in
    let up = c.self.invariant.0 in (
      up,
      (grown g.T.Element.id_of inside.ascending.items up inside.others.entries c.insert.new.self.entries c.id.result c.args.element c.self.invariant.1 c.id.ensures c.in_ok-insert.ensures.entries).keys,
    )

pub returns-clause-ok : goal.returns-clause-ok
returns-clause-ok g c =
    let key = g.T.Element.id_of in
    let inside = c.self.inside in
    (grown key inside.ascending.items c.self.invariant.0 inside.others.entries c.insert.new.self.entries c.id.result c.args.element c.self.invariant.1 c.id.ensures c.in_ok-insert.ensures.entries).items
    ∙ ap (λ xs. with_item (on key nat_cmp) xs c.args.element) c.self.view_is
