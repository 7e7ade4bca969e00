-- The variables that the rows of a plan can bind, one layer at a time.
use Rattle.std.proofs.Common.{◌≡◌, ◌⊎◌, inl, inr, ⊎_elim, true, false, ℕ, List, Box, Global, sym, ap, ◌∙◌}
use Rattle.gc_base.specs.declared.place.Sym.{Sym}
use Rattle.gc_rows.specs.Algebra.{joined_schema}
use Rattle.gc_alg.specs.Blocks.{bound_by}
use Rattle.gc_alg.specs.Matches.{Setting, atom_at, with_atom_if}
use Rattle.gc_alg.specs.Plans.{PlanTree, AtomPlan, FilterPlan, JoinPlan, OuterPlan, PlanRow, UnitPlan, phys_tree, plan_variables}
use Rattle.gc_alg.specs.declared.plan.Phys.{Phys, Unit, Check, Expand, Search, Scan, Join, Outer}
use Rattle.gc_exec.specs.Pipelines.{is_chain}
use Rattle.gc_exec.proofs.Running.{step_tree}
use Rattle.gc_exec.proofs.TreeViews.{unit_tree, join_tree, outer_tree}

module _ (s : Setting) (plan : Phys) where
  pub unit_variables : plan ≡ Unit → bound_by s.given ≡ plan_variables s (phys_tree plan)
  unfolding plan_variables
  unit_variables e = sym (ap (plan_variables s) (ap phys_tree e ∙ unit_tree))

  pub step_variables : (part atom : ℕ) (below : PlanTree) → phys_tree plan ≡ AtomPlan part atom below → with_atom_if (plan_variables s below) (atom_at s.block part atom) ≡ plan_variables s (phys_tree plan)
  unfolding plan_variables
  step_variables part atom below e = sym (ap (plan_variables s) e)

  pub filter_variables : (part conjunct : ℕ) (plans : PlanRow) (below : PlanTree) → phys_tree plan ≡ FilterPlan part conjunct plans below → plan_variables s below ≡ plan_variables s (phys_tree plan)
  unfolding plan_variables
  filter_variables part conjunct plans below e = sym (ap (plan_variables s) e)

  pub both_variables : (left right : Box Phys Global) → (plan ≡ Join left right) ⊎ (plan ≡ Outer left right)
      → joined_schema (plan_variables s (phys_tree left.value)) (plan_variables s (phys_tree right.value)) ≡ plan_variables s (phys_tree plan)
  unfolding plan_variables
  both_variables left right =
      ⊎_elim (λ e. sym (ap (plan_variables s) (ap phys_tree e ∙ join_tree left right))) (λ e. sym (ap (plan_variables s) (ap phys_tree e ∙ outer_tree left right)))

-- whether a plan is made of atoms and filters alone, one layer at a time
module _ (plan : Phys) where
  pub unit_chain : plan ≡ Unit → true ≡ is_chain (phys_tree plan)
  unfolding is_chain
  unit_chain e = sym (ap is_chain (ap phys_tree e ∙ unit_tree))

  one_chain : (box : Box Phys Global) (part atom : ℕ) → phys_tree plan ≡ AtomPlan part atom (phys_tree box.value) → is_chain (phys_tree box.value) ≡ is_chain (phys_tree plan)
  unfolding is_chain
  one_chain box part atom e = sym (ap is_chain e)

  pub step_chain : (box : Box Phys Global)
      → ((part : ℕ) × (atom : ℕ) × (plan ≡ Check part atom box))
      ⊎ (((part : ℕ) × (atom : ℕ) × (plan ≡ Expand part atom box)) ⊎ (((part : ℕ) × (atom : ℕ) × (plan ≡ Search part atom box)) ⊎ ((part : ℕ) × (atom : ℕ) × (plan ≡ Scan part atom box))))
      → is_chain (phys_tree box.value) ≡ is_chain (phys_tree plan)
  step_chain box =
      ⊎_elim (λ m. one_chain box m.0 m.1 (step_tree plan m.0 m.1 box (inl m.2)))
      (⊎_elim (λ m. one_chain box m.0 m.1 (step_tree plan m.0 m.1 box (inr (inl m.2))))
      (⊎_elim (λ m. one_chain box m.0 m.1 (step_tree plan m.0 m.1 box (inr (inr (inl m.2))))) (λ m. one_chain box m.0 m.1 (step_tree plan m.0 m.1 box (inr (inr (inr m.2)))))))

  pub filter_chain : (below : PlanTree) (part conjunct : ℕ) (plans : PlanRow) → phys_tree plan ≡ FilterPlan part conjunct plans below → is_chain below ≡ is_chain (phys_tree plan)
  unfolding is_chain
  filter_chain below part conjunct plans e = sym (ap is_chain e)

  pub join_chain : (left right : Box Phys Global) → plan ≡ Join left right → false ≡ is_chain (phys_tree plan)
  unfolding is_chain
  join_chain left right e = sym (ap is_chain (ap phys_tree e ∙ join_tree left right))

  pub outer_chain : (left right : Box Phys Global) → plan ≡ Outer left right → false ≡ is_chain (phys_tree plan)
  unfolding is_chain
  outer_chain left right e = sym (ap is_chain (ap phys_tree e ∙ outer_tree left right))
