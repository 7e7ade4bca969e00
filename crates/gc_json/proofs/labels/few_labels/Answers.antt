use Rattle.serde_json.specs.View.{items_view}
use Rattle.gc_json.proofs.Gathered.{labels_gathered}
use Rattle.gc_json.proofs.labels.few_labels.Goals as goal

pub loop-item-init : goal.loop-item-init
loop-item-init c = labels_gathered c.empty-labels.result (items_view c.args.items.now) c.empty-labels.ensures
