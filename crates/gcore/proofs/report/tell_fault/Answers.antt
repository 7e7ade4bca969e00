use Rattle.std.proofs.Common.{◌≡◌, List, ℕ, sym, subst}
use Rattle.std.specs.Prelude.{codes}
use Rattle.gc_base.specs.declared.place.Place.{Place}
use Rattle.gcore.specs.Endings.{Change, Tells}
use Rattle.gcore.specs.FaultLines.{told_text}
use Rattle.gcore.specs.Lines.{line, placed_line}
use Rattle.gcore.specs.declared.placed_fault.PlacedFault.{PlacedFault}
use Rattle.gcore.specs.declared.placed_fault.PlacedFault.TheVariants.{BadCost, CostPastRange, IdsSpent}
use Rattle.gcore.proofs.report.tell_fault.Goals as goal

-- the line of a fault
told : (change : Change) (fault f : PlacedFault) → fault ≡ f → Tells change (placed_line f) → Tells change (placed_line fault)
told change fault f e h = subst (λ t. Tells change (placed_line t)) (sym e) h

-- the line of a bad cost, by what stands for its walk
of_walk : (change : Change) (place : Place) (text walk : List ℕ) → text ≡ walk → Tells change (line (told_text (codes "F4 BadCost") place (codes " walk ") text))
    → Tells change (line (told_text (codes "F4 BadCost") place (codes " walk ") walk))
of_walk change place text walk e h = subst (λ xs. Tells change (line (told_text (codes "F4 BadCost") place (codes " walk ") xs))) e h

pub returns-in-BadCost : goal.returns-in-BadCost
returns-in-BadCost g c =
    told _ c.args.fault.now (BadCost c.in-BadCost.place c.in-BadCost.walk) c.in-BadCost.is
    (of_walk _ c.in-BadCost.place _ c.in-BadCost.walk c.as_slice.ensures c.tell_behind.ensures)

pub returns-in-CostPastRange : goal.returns-in-CostPastRange
returns-in-CostPastRange g c = told _ c.args.fault.now (CostPastRange c.in-CostPastRange.place c.in-CostPastRange.row) c.in-CostPastRange.is c.tell_number-in-CostPastRange.ensures

pub returns-in-IdsSpent : goal.returns-in-IdsSpent
returns-in-IdsSpent g c = told _ c.args.fault.now (IdsSpent c.in-IdsSpent.place c.in-IdsSpent.needed) c.in-IdsSpent.is c.tell_number-in-IdsSpent.ensures
