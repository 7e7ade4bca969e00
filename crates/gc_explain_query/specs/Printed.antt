-- That the steps which are printed are those of a plan.
use Rattle.std.specs.Prelude.{◌≡◌, ℕ, List}
use Rattle.gc_base.specs.declared.place.Sym.{Sym}
use Rattle.gc_spec.specs.PropertyGraph.{PropertyGraph}
use Rattle.gc_alg.specs.Plans.{PlanRow, UnitPlan}
use Rattle.gc_alg.specs.Trees.{Tree, APart, conjuncts_of}
use Rattle.gc_explain.specs.ExplainedTrees.{steps_over}
use Rattle.gc_explain.specs.WholePlans.{condition_plans, plan_at, seen, whole_part}
use Rattle.gc_explain_query.specs.QueryLines.{part_estimates, part_steps}

-- by which plans the conditions of a part are tested: those of their EXISTS queries, which see what the part lets them
abbrev pub plans_in : List PropertyGraph → (around : List Sym) → Tree APart → ℕ → PlanRow
plans_in graphs around part = plan_at (condition_plans (part_estimates graphs) (seen around part) (conjuncts_of part))

-- in the plan of a block, that of a part is made of the steps that are printed for the part
abbrev pub IsPlannedAsPrinted : List PropertyGraph → (around : List Sym) → (number : ℕ) → Tree APart → Type 0
IsPlannedAsPrinted graphs around number part =
    whole_part (part_estimates graphs) around number part ≡ steps_over number (plans_in graphs around part) UnitPlan (part_steps graphs around part)
