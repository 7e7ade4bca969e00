use Rattle.std.proofs.Common.{◌≡◌, drop}
use Rattle.gc_base.specs.Ascending.{Ascends}
use Rattle.gc_base.specs.Literals.{literal_order}
use Rattle.serde_json.specs.View.{items_view}
use Rattle.gc_json.specs.Gathering.{data_of}
use Rattle.gc_json.specs.LiteralValues.{values_among}
use Rattle.gc_json.proofs.Gathered.{values_with}
use Rattle.gc_json.proofs.literals.many_values.Given as goal

-- the values so far with the rest are the values of all
abbrev pub invariant-loop-item : goal.invariant-loop-item
invariant-loop-item l = Ascends literal_order l.tree.keys × (values_with l.tree.keys (items_view (drop l.item-index l.items)) ≡ values_among (data_of (items_view l.items)))
