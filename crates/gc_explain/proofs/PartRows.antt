-- The steps of a part have its rows, on given rows that bind what occurs around it.
use Rattle.std.proofs.Common.{◌≡◌, ◌↔◌, ◌⊎◌, ℕ, zero, suc, true, List, [], Option, None, Some, is_some, refl, sym, ap, ◌∙◌, subst, slice_get}
use Rattle.std.specs.Option.{option_and_then, option_map}
use Rattle.gc_base.specs.declared.place.Sym.{Sym}
use Rattle.gc_rows.specs.Algebra.{restricted}
use Rattle.gc_rows.specs.Rows.{IsRow}
use Rattle.gc_rows.specs.Tables.{IsRowOver}
use Rattle.gc_rows.specs.declared.row.Binding.{Binding}
use Rattle.gc_values.specs.declared.reads.ReadUse.{ReadUse}
use Rattle.gc_alg.specs.Blocks.{IsRowOfBlock, IsRowOfPart, IsTrue}
use Rattle.gc_alg.specs.Matches.{MakesTrue, MeetsAtom, Setting, atom_at, part_at, with_atom_if}
use Rattle.gc_alg.specs.Networks.{Database}
use Rattle.gc_alg.specs.Plans.{IsRowOfPlan, PlanTree, PlanRow, UnitPlan, AtomPlan, FilterPlan, JoinPlan, OuterPlan, plan_variables}
use Rattle.gc_alg.specs.Trees.{Tree, ABlock, APart, AConjunct, RowOf, BlockOf, PartOf, none, more, items, atoms_of}
use Rattle.gc_alg.specs.declared.atom.Atom.{Atom}
use Rattle.gc_alg.proofs.TextOrder.{all_true, each_true}
use Rattle.gc_plan.proofs.Bindings.{all_at, one_at}
use Rattle.gc_plan.proofs.PartLaw.{part_means}
use Rattle.gc_plan.specs.PartPlans.{Fits, IsPlanOfPart, atom_in}
use Rattle.gc_explain.specs.ExplainedTrees.{AnswerWhere, BindsAround, IsLinked, explained_part}
use Rattle.gc_explain.proofs.Chains.{all_back, all_into, chain_rows}
use Rattle.gc_explain.proofs.Standing.{IsExplained, Stands, alone_meets, atoms_alone}
use Rattle.gc_explain.proofs.StepsMean.{part_is}

-- parts without their conditions
abbrev without_conditions : Tree APart → Tree APart
without_conditions (PartOf atoms conjuncts) = PartOf atoms none

abbrev all_without : Tree (RowOf APart) → Tree (RowOf APart)
all_without none = none
all_without (more part later) = more (without_conditions part) (all_without later)

without_at : (parts : Tree (RowOf APart)) (n : ℕ) → slice_get (items (all_without parts)) n ≡ option_map without_conditions (slice_get (items parts) n)
unfolding items
without_at none n = refl
without_at (more part later) zero = refl
without_at (more part later) (suc n) = without_at later n

same_atoms : (n : ℕ) (o : Option (Tree APart)) → option_and_then (λ (p : Tree APart). slice_get (atoms_of p) n) (option_map without_conditions o) ≡ option_and_then (λ (p : Tree APart). slice_get (atoms_of p) n) o
same_atoms n None = refl
same_atoms n (Some (PartOf atoms conjuncts)) = refl

meets_moved : (db : Database) (given : List Binding) (b c : Tree ABlock) (row : List Binding) (o : Option Atom)
    → MeetsAtom (record { database = db; block = b; given = given }) row o → MeetsAtom (record { database = db; block = c; given = given }) row o
meets_moved db given b c row None m = m
meets_moved db given b c row (Some a) m = m

module _ (number : ℕ) (part : Tree APart) (around : List Sym) (plans : ℕ → PlanRow) where
  -- a chain of atoms has the same rows in either of two blocks with the same atoms
  module _ (db : Database) (given : List Binding) (b c : Tree ABlock) (same : (i n : ℕ) → atom_at b i n ≡ atom_at c i n) where
    abbrev S : Setting
    S = record { database = db; block = b; given = given }

    abbrev T : Setting
    T = record { database = db; block = c; given = given }

    vars_moved : (p : PlanTree) → Stands number part around plans p → plan_variables S (atoms_alone p) ≡ plan_variables T (atoms_alone p)
    unfolding Stands plan_variables atoms_alone
    vars_moved UnitPlan h = refl
    vars_moved (AtomPlan i n p) h = λ j. with_atom_if (vars_moved p h.2 j) (same i n j)
    vars_moved (FilterPlan i n ps p) h = vars_moved p h.3
    vars_moved (JoinPlan p q) h = elim h [ ]
    vars_moved (OuterPlan p q) h = elim h [ ]

    rows_moved : (p : PlanTree) → Stands number part around plans p → (row : List Binding) → IsRowOfPlan S (atoms_alone p) row → IsRowOfPlan T (atoms_alone p) row
    unfolding Stands plan_variables atoms_alone IsRowOfPlan
    rows_moved UnitPlan h row r = r
    rows_moved (AtomPlan i n p) h row r = (
      subst (λ vars. IsRowOver vars row) (vars_moved (AtomPlan i n p) h) r.0,
      meets_moved db given b c row (atom_at c i n) (subst (MeetsAtom S row) (same i n) r.1),
      rows_moved p h.2 (restricted (plan_variables T (atoms_alone p)) row) (subst (λ vars. IsRowOfPlan S (atoms_alone p) (restricted vars row)) (vars_moved p h.2) r.2),
    )
    rows_moved (FilterPlan i n ps p) h row r = rows_moved p h.3 row r
    rows_moved (JoinPlan p q) h row r = elim h [ ]
    rows_moved (OuterPlan p q) h row r = elim h [ ]

-- a chain that meets all atoms of a part, without its conditions
alone_fits : (number : ℕ) (atoms : List Atom) (cs : Tree (RowOf AConjunct)) (around : List Sym) (plans : ℕ → PlanRow) (p : PlanTree) → Stands number (PartOf atoms cs) around plans p
    → Fits number (PartOf atoms none) (atoms_alone p)
unfolding Stands Fits atoms_alone
alone_fits number atoms cs around plans UnitPlan h = tt
alone_fits number atoms cs around plans (AtomPlan i n p) h = (h.0, h.1, alone_fits number atoms cs around plans p h.2)
alone_fits number atoms cs around plans (FilterPlan i n ps p) h = alone_fits number atoms cs around plans p h.3
alone_fits number atoms cs around plans (JoinPlan p q) h = elim h [ ]
alone_fits number atoms cs around plans (OuterPlan p q) h = elim h [ ]

alone_plan : (number : ℕ) (atoms : List Atom) (cs : Tree (RowOf AConjunct)) (around : List Sym) (plans : ℕ → PlanRow) (p : PlanTree) → IsExplained number (PartOf atoms cs) around plans p
    → IsPlanOfPart number (PartOf atoms none) (atoms_alone p)
unfolding items
alone_plan number atoms cs around plans p is = record {
  fits = alone_fits number atoms cs around plans p is.stands;
  atoms = λ n t. alone_meets number (PartOf atoms cs) around plans p is.stands n ∙ is.atoms n t;
  conjuncts = λ n t. cc;
}

module _ (db : Database) (given : List Binding) (up : IsRow given) (reads : List ReadUse) (parts : Tree (RowOf APart)) (number : ℕ) (atoms : List Atom) (cs : Tree (RowOf AConjunct))
    (at : slice_get (items parts) number ≡ Some (PartOf atoms cs)) (around : List Sym) (plans : ℕ → PlanRow) (binds : BindsAround around (PartOf atoms cs) given)
    (answer : AnswerWhere db around (PartOf atoms cs) plans) where
  abbrev Block : Tree ABlock
  Block = BlockOf parts reads

  abbrev Bare : Tree ABlock
  Bare = BlockOf (all_without parts) reads

  abbrev In : Tree ABlock → Setting
  In b = record { database = db; block = b; given = given }

  same : (i n : ℕ) → atom_at Block i n ≡ atom_at Bare i n
  same i n = sym (ap (option_and_then (λ (p : Tree APart). slice_get (atoms_of p) n)) (without_at parts i) ∙ same_atoms n (slice_get (items parts) i))

  here : part_at Bare number ≡ Some (PartOf atoms none)
  here = without_at parts number ∙ ap (option_map without_conditions) at

  -- a chain that meets all atoms and tests all conditions has the rows of the part
  pub explained_rows : (p : PlanTree) → IsExplained number (PartOf atoms cs) around plans p → (row : List Binding)
      → IsRowOfPlan (In Block) p row ↔ IsRowOfPart db given reads (PartOf atoms cs) row
  unfolding IsRowOfBlock
  explained_rows p is row =
      let part : Tree APart = PartOf atoms cs in
      let chain = chain_rows (In Block) up number part at around plans binds answer p is.stands row in
      let bare = part_means (In Bare) up number (PartOf atoms none) here (atoms_alone p) (alone_plan number atoms cs around plans p is) row in (
        λ r.
            let c = chain.0 r in (
              (bare.0 (rows_moved number part around plans db given Block Bare same p is.stands row c.0)).0,
              all_true db reads row cs
                  (all_at (IsTrue db reads row) (items cs) (λ n c' e.
                  subst (MakesTrue (In Block) row) e (all_into (In Block) up number part at around plans binds answer p is.stands row c.1 n (is.conjuncts n (ap is_some e))))),
            ),
        λ h.
            chain.1 (
              rows_moved number part around plans db given Bare Block (λ i n. sym (same i n)) p is.stands row (bare.1 (h.0, tt)),
              all_back (In Block) up number part at around plans binds answer p is.stands row (λ n c' e. one_at (IsTrue db reads row) (items cs) (each_true db reads row cs h.1) n c' e),
            ),
      )

-- the steps of a part
pub part_rows : (db : Database) (given : List Binding) → IsRow given → (reads : List ReadUse) (parts : Tree (RowOf APart)) (number : ℕ) (part : Tree APart)
    → slice_get (items parts) number ≡ Some part → (around : List Sym) (plans : ℕ → PlanRow) (estimates : List ℕ) → IsLinked part → (around ≡ []) ⊎ (is_some (atom_in part 0) ≡ true)
    → BindsAround around part given → AnswerWhere db around part plans → (row : List Binding)
    → IsRowOfPlan (record { database = db; block = BlockOf parts reads; given = given }) (explained_part number plans estimates around part) row ↔ IsRowOfPart db given reads part row
part_rows db given up reads parts number (PartOf atoms cs) at around plans estimates linked first binds answer row =
    explained_rows db given up reads parts number atoms cs at around plans binds answer (explained_part number plans estimates around (PartOf atoms cs))
    (part_is number (PartOf atoms cs) estimates plans around linked first) row
