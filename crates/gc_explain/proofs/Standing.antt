-- Chains of atoms and conditions, each of which stands where what it needs is bound by the plan under it or around the part.
use Rattle.std.proofs.Common.{◌≡◌, ℕ, ◌==◌, ◌||◌, true, List, ◌++◌, Option, None, Some, is_some, refl, ap}
use Rattle.std.specs.Prelude.{⊤}
use Rattle.gc_base.specs.declared.place.Sym.{Sym}
use Rattle.gc_rows.specs.Rows.{lists}
use Rattle.gc_alg.specs.Mentions.{in_conjunct}
use Rattle.gc_alg.specs.Plans.{PlanTree, PlanRow, UnitPlan, AtomPlan, FilterPlan, JoinPlan, OuterPlan}
use Rattle.gc_alg.specs.Trees.{Tree, APart, AConjunct}
use Rattle.gc_plan.specs.PartPlans.{Fits, atom_in, bound_in, conjunct_in, meets, part_variables, tests, variables_if}

-- a condition, which has to be there, hangs of the variables of its part on bound ones alone
abbrev pub ReadyOver : Tree APart → (around : List Sym) → PlanTree → Option (Tree AConjunct) → Type 0
ReadyOver part around p None = ⊥
ReadyOver part around p (Some c) = (x : Sym) → in_conjunct x c ≡ true → lists (part_variables part) x ≡ true → lists (around ++ bound_in part p) x ≡ true

module _ (number : ℕ) (part : Tree APart) (around : List Sym) (plans : ℕ → PlanRow) where
  unfoldable pub Stands : PlanTree → Type 0
  Stands UnitPlan = ⊤
  Stands (AtomPlan i n p) = (i ≡ number) × (is_some (atom_in part n) ≡ true) × Stands p
  Stands (FilterPlan i n ps p) = (i ≡ number) × (ps ≡ plans n) × ReadyOver part around p (conjunct_in part n) × Stands p
  Stands (JoinPlan a b) = ⊥
  Stands (OuterPlan a b) = ⊥

-- the atoms of a chain alone
unfoldable pub atoms_alone : PlanTree → PlanTree
atoms_alone UnitPlan = UnitPlan
atoms_alone (AtomPlan i n p) = AtomPlan i n (atoms_alone p)
atoms_alone (FilterPlan i n ps p) = atoms_alone p
atoms_alone (JoinPlan a b) = JoinPlan (atoms_alone a) (atoms_alone b)
atoms_alone (OuterPlan a b) = OuterPlan (atoms_alone a) (atoms_alone b)

module _ (number : ℕ) (part : Tree APart) (around : List Sym) (plans : ℕ → PlanRow) where
  pub alone_fits : (p : PlanTree) → Stands number part around plans p → Fits number part (atoms_alone p)
  unfolding Stands Fits atoms_alone
  alone_fits UnitPlan h = tt
  alone_fits (AtomPlan i n p) h = (h.0, h.1, alone_fits p h.2)
  alone_fits (FilterPlan i n ps p) h = alone_fits p h.3
  alone_fits (JoinPlan a b) h = elim h [ ]
  alone_fits (OuterPlan a b) h = elim h [ ]

  pub alone_binds : (p : PlanTree) → Stands number part around plans p → bound_in part (atoms_alone p) ≡ bound_in part p
  unfolding Stands bound_in atoms_alone
  alone_binds UnitPlan h = refl
  alone_binds (AtomPlan i n p) h = ap (λ vars. vars ++ variables_if (atom_in part n)) (alone_binds p h.2)
  alone_binds (FilterPlan i n ps p) h = alone_binds p h.3
  alone_binds (JoinPlan a b) h = elim h [ ]
  alone_binds (OuterPlan a b) h = elim h [ ]

  pub alone_meets : (p : PlanTree) → Stands number part around plans p → (k : ℕ) → meets (atoms_alone p) k ≡ meets p k
  unfolding Stands meets atoms_alone
  alone_meets UnitPlan h k = refl
  alone_meets (AtomPlan i n p) h k = ap (λ b. n == k || b) (alone_meets p h.2 k)
  alone_meets (FilterPlan i n ps p) h k = alone_meets p h.3 k
  alone_meets (JoinPlan a b) h k = elim h [ ]
  alone_meets (OuterPlan a b) h k = elim h [ ]

-- a chain that meets all atoms of a part and tests all its conditions
pub record IsExplained (number : ℕ) (part : Tree APart) (around : List Sym) (plans : ℕ → PlanRow) (p : PlanTree) : Type 0 where
  pub stands : Stands number part around plans p
  pub atoms : (n : ℕ) → is_some (atom_in part n) ≡ true → meets p n ≡ true
  pub conjuncts : (n : ℕ) → is_some (conjunct_in part n) ≡ true → tests p n ≡ true
