use Rattle.std.proofs.Common.{◌∙◌, sym, subst, arith}
use Rattle.gc_base.specs.Ascending.{Ascends}
use Rattle.gc_base.specs.Literals.{literal_order}
use Rattle.serde_json.specs.View.{items_view}
use Rattle.gc_json.proofs.Gathered.{values_gathered}
use Rattle.gc_json.proofs.ManyItems.{more_values}
use Rattle.gc_json.proofs.literals.many_values.Goals as goal

pub loop-item-init : goal.loop-item-init
loop-item-init c = (subst (Ascends literal_order) (sym c.new-tree.ensures.empty) tt, values_gathered c.new-tree.result.keys (items_view c.args.items.now) c.new-tree.ensures.empty)

pub loop-item-preserved : goal.loop-item-preserved
loop-item-preserved c =
    let l = c.loop-item in
    let more = more_values c.args.items.now l.item-index _ l.tree.keys c.insert.new.self.keys _ (omega arith) c.item-item.is c.in_ok-literal.ensures l.invariant.0 c.in_ok-insert.ensures.keys in
    (more.0, more.1 ∙ l.invariant.1)
