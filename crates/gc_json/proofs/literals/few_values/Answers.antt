use Rattle.serde_json.specs.View.{items_view}
use Rattle.gc_json.proofs.Gathered.{values_gathered}
use Rattle.gc_json.proofs.literals.few_values.Goals as goal

pub loop-item-init : goal.loop-item-init
loop-item-init c = values_gathered c.empty-values.result (items_view c.args.items.now) c.empty-values.ensures
