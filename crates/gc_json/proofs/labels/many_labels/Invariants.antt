use Rattle.std.proofs.Common.{◌≡◌, drop}
use Rattle.gc_base.specs.Ascending.{Ascends}
use Rattle.gc_base.specs.Literals.{text_order}
use Rattle.serde_json.specs.View.{items_view}
use Rattle.gc_json.specs.LabelLists.{labels_of}
use Rattle.gc_json.proofs.Gathered.{labels_with}
use Rattle.gc_json.proofs.labels.many_labels.Given as goal

-- the labels so far with the rest are the labels of all
abbrev pub invariant-loop-item : goal.invariant-loop-item
invariant-loop-item l = Ascends text_order l.tree.keys × (labels_with l.tree.keys (items_view (drop l.item-index l.items)) ≡ labels_of (items_view l.items))
