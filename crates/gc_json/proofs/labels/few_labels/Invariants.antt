use Rattle.std.proofs.Common.{◌≡◌, drop}
use Rattle.serde_json.specs.View.{items_view}
use Rattle.gc_json.specs.LabelLists.{labels_of}
use Rattle.gc_json.proofs.Gathered.{labels_with}
use Rattle.gc_json.proofs.labels.few_labels.Given as goal

-- the labels so far with the rest are the labels of all
abbrev pub invariant-loop-item : goal.invariant-loop-item
invariant-loop-item l = labels_with l.labels (items_view (drop l.item-index l.items)) ≡ labels_of (items_view l.items)
