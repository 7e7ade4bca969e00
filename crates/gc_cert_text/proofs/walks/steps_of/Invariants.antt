use Rattle.std.proofs.Common.{◌≡◌, ◌*◌, drop}
use Rattle.serde_json.specs.View.{items_view}
use Rattle.gc_json.specs.WalkItems.{steps_among}
use Rattle.gc_json.proofs.GatheredSteps.{steps_with}
use Rattle.gc_cert_text.specs.Options.{found}
use Rattle.gc_cert_text.proofs.walks.steps_of.Given as goal

-- the steps so far with the rest are the steps of all
abbrev pub invariant-loop-i : goal.invariant-loop-i
invariant-loop-i l = found (steps_with l.steps (items_view (drop (2 * l.i) l.items))) ≡ found (steps_among (items_view l.items))
