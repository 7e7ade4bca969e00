use Rattle.std.proofs.Common.{◌≡◌, drop}
use Rattle.serde_json.specs.View.{items_view}
use Rattle.gc_json.specs.WalkItems.{are_numbers}
use Rattle.gc_json.proofs.walks.are_numbers.Given as goal

-- the rest are numbers just where all are
abbrev pub invariant-loop-item : goal.invariant-loop-item
invariant-loop-item l = are_numbers (items_view (drop l.item-index l.items)) ≡ are_numbers (items_view l.items)
