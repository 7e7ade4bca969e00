-- What is told of a fault.
use Rattle.std.specs.Prelude.{ℕ, ◌<◌, ◌^◌, List, ◌∷◌, ◌++◌, codes}
use Rattle.std.specs.List.{flat_map}
use Rattle.std.specs.Fmt.{decimal}
use Rattle.gc_base.specs.declared.place.Place.{Place}
use Rattle.gc_base.specs.declared.walk.Step.{Step}
use Rattle.gc_base.specs.declared.walk.Walk.{Walk}
use Rattle.gc_values.specs.declared.val.Why.{Why}
use Rattle.gc_values.specs.declared.val.Why.TheVariants as why
use Rattle.gcore.specs.TextLines.{IsHeldPlace, place_text}
use Rattle.gcore.specs.declared.placed_fault.PlacedFault.{PlacedFault}
use Rattle.gcore.specs.declared.placed_fault.PlacedFault.TheVariants.{Undefined, BadCost, CostPastRange, IdsSpent}

-- why a value is undefined, with its code
abbrev pub why_text : Why → List ℕ
why_text why.Overflow = codes "F1 Overflow"
why_text why.ZeroDivisor = codes "F2 ZeroDivisor"
why_text why.WrongKind = codes "F3 WrongKind"

-- a code at a place, with a word and what stands behind it
abbrev pub told_text : (code : List ℕ) → Place → (word behind : List ℕ) → List ℕ
told_text code place word behind = place_text code place ++ (word ++ behind)

abbrev pub fault_text : PlacedFault → List ℕ
fault_text (Undefined reason place row) = told_text (why_text reason) place (codes " row ") (decimal row)
fault_text (BadCost place walk) = told_text (codes "F4 BadCost") place (codes " walk ") walk
fault_text (CostPastRange place row) = told_text (codes "F5 CostPastRange") place (codes " row ") (decimal row)
fault_text (IdsSpent place needed) = told_text (codes "F6 IdsSpent") place (codes " needed ") (decimal needed)

-- the identities on a walk, its first node first, with commas between them
abbrev pub step_text : Step → List ℕ
step_text s = 44 ∷ (decimal s.edge ++ 44 ∷ decimal s.node)

abbrev pub walk_text : Walk → List ℕ
walk_text walk = decimal walk.start ++ flat_map step_text walk.steps

-- a fault as the machine holds it
abbrev pub IsHeldFault : PlacedFault → Type 0
IsHeldFault (Undefined reason place row) = IsHeldPlace place × (row < 2 ^ 64)
IsHeldFault (BadCost place walk) = IsHeldPlace place
IsHeldFault (CostPastRange place row) = IsHeldPlace place × (row < 2 ^ 64)
IsHeldFault (IdsSpent place needed) = IsHeldPlace place × (needed < 2 ^ 64)
