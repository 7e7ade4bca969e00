use Rattle.std.proofs.Common.{◌∙◌, sym, subst, arith}
use Rattle.gc_base.specs.Ascending.{Ascends}
use Rattle.gc_base.specs.Literals.{text_order}
use Rattle.serde_json.specs.View.{items_view}
use Rattle.gc_json.proofs.Gathered.{labels_gathered}
use Rattle.gc_json.proofs.ManyItems.{more_labels}
use Rattle.gc_json.proofs.labels.many_labels.Goals as goal

pub loop-item-init : goal.loop-item-init
loop-item-init c = (subst (Ascends text_order) (sym c.new-tree.ensures.empty) tt, labels_gathered c.new-tree.result.keys (items_view c.args.items.now) c.new-tree.ensures.empty)

pub loop-item-preserved : goal.loop-item-preserved
loop-item-preserved c =
    let l = c.loop-item in
    let more = more_labels c.args.items.now l.item-index _ l.tree.keys c.insert.new.self.keys _ (omega arith) c.item-item.is c.in_ok-label.ensures l.invariant.0 c.in_ok-insert.ensures.keys in
    (more.0, more.1 ∙ l.invariant.1)
