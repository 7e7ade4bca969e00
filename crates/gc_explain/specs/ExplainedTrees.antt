-- What steps mean: the plan that they are.
use Rattle.std.specs.Prelude.{⊤, ◌≡◌, ◌↔◌, ◌⊎◌, ◌<◌, ◌||◌, ℕ, suc, Bool, true, List, [], fold, slice_get, is_some, Some}
use Rattle.std.specs.List.{list_any}
use Rattle.gc_base.specs.declared.place.Sym.{Sym}
use Rattle.gc_rows.specs.Rows.{IsRow, datum_at, lists}
use Rattle.gc_rows.specs.declared.row.Binding.{Binding}
use Rattle.gc_alg.specs.Blocks.{AreAnswers, bound_by}
use Rattle.gc_alg.specs.Instances.{variables_of}
use Rattle.gc_alg.specs.Mentions.{in_conjunct}
use Rattle.gc_alg.specs.Networks.{Database}
use Rattle.gc_alg.specs.Plans.{AreAnswersOf, PlanTree, PlanRow, UnitPlan, AtomPlan, FilterPlan, OuterPlan}
use Rattle.gc_alg.specs.Trees.{Tree, ABlock, APart, AConjunct, AnExists, RowOf, BlockOf, ConjunctOf, none, more, items, atoms_of, conjuncts_of}
use Rattle.gc_alg.specs.declared.atom.Atom.{Atom}
use Rattle.gc_alg.specs.declared.atom.AtomWhat.{AtomWhat}
use Rattle.gc_alg.specs.declared.atom.AtomWhat.TheVariants.{Node, Edge, Property, Stored, Reach, Found, All}
use Rattle.gc_plan.specs.PartPlans.{ArePlansFor}
use Rattle.gc_explain.specs.ExplainedPlans.{plan_steps}
use Rattle.gc_explain.specs.Needs.{needs_of, part_variables}
use Rattle.gc_explain.specs.declared.step.Step.{Step}
use Rattle.gc_explain.specs.declared.step.StepWord.{StepWord}
use Rattle.gc_explain.specs.declared.step.StepWord.TheVariants.{Check, Expand, Search, Scan, Filter}

-- a step over a plan: a condition is tested by the plans of its EXISTS queries, which are told by its number; any other step meets
-- an atom
abbrev pub step_by : (number : ℕ) → (plans : ℕ → PlanRow) → PlanTree → StepWord → ℕ → PlanTree
step_by number plans p Check n = AtomPlan number n p
step_by number plans p Expand n = AtomPlan number n p
step_by number plans p Search n = AtomPlan number n p
step_by number plans p Scan n = AtomPlan number n p
step_by number plans p Filter n = FilterPlan number n (plans n) p

abbrev pub steps_over : (number : ℕ) → (plans : ℕ → PlanRow) → PlanTree → List Step → PlanTree
steps_over number plans p steps = fold (λ q s. step_by number plans q s.word s.number) p steps

-- the plan of the steps of a part, where the variables around it are bound from the start
abbrev pub explained_part : (number : ℕ) → (plans : ℕ → PlanRow) → (estimates : List ℕ) → (around : List Sym) → Tree APart → PlanTree
explained_part number plans estimates around part =
    steps_over number plans UnitPlan (plan_steps (atoms_of part) estimates (needs_of part around) around)

-- the plan of a block around which nothing is bound: that of its first part, left outer joined with that of each later part in turn
abbrev pub explained_from : (plans : ℕ → ℕ → PlanRow) → (estimates : ℕ → List ℕ) → ℕ → Tree (RowOf APart) → PlanTree → PlanTree
explained_from plans estimates number none p = p
explained_from plans estimates number (more part later) p =
    explained_from plans estimates (suc number) later (OuterPlan p (explained_part number (plans number) (estimates number) [] part))

abbrev pub explained_parts : (plans : ℕ → ℕ → PlanRow) → (estimates : ℕ → List ℕ) → Tree (RowOf APart) → PlanTree
explained_parts plans estimates none = UnitPlan
explained_parts plans estimates (more part later) = explained_from plans estimates 1 later (explained_part 0 (plans 0) (estimates 0) [] part)

abbrev pub explained_block : (plans : ℕ → ℕ → PlanRow) → (estimates : ℕ → List ℕ) → Tree ABlock → PlanTree
explained_block plans estimates (BlockOf parts reads) = explained_parts plans estimates parts

-- the plans of a condition are those of its EXISTS queries
abbrev pub queries_of : Tree AConjunct → Tree (RowOf AnExists)
queries_of (ConjunctOf condition queries) = queries

abbrev pub AnswerIn : Tree APart → (plans : ℕ → PlanRow) → Type 0
AnswerIn part plans = (n : ℕ) (c : Tree AConjunct) → slice_get (items (conjuncts_of part)) n ≡ Some c → ArePlansFor (queries_of c) (plans n)

-- nodes come first, then what links them, then properties
abbrev pub rank : AtomWhat → ℕ
rank (Node x labels) = 0
rank (Edge x e y way labels) = 1
rank (Property x kind name v) = 2
rank (Stored x p y labels) = 1
rank (Reach x y regex views) = 1
rank (Found x p y k cost regex views) = 1
rank (All x p y regex views) = 1

-- where an atom begins: at its left node, or at the element of a property
abbrev pub begins_at : AtomWhat → Sym
begins_at (Node x labels) = x
begins_at (Edge x e y way labels) = x
begins_at (Property x kind name v) = x
begins_at (Stored x p y labels) = x
begins_at (Reach x y regex views) = x
begins_at (Found x p y k cost regex views) = x
begins_at (All x p y regex views) = x

-- an atom of a part that comes before others has a variable
pub record HasBefore (part : Tree APart) (limit : ℕ) (x : Sym) : Type 0 where
  pub number : ℕ
  pub atom : Atom
  pub there : slice_get (atoms_of part) number ≡ Some atom
  pub before : rank atom.what < limit
  pub binds : lists (variables_of atom.what) x ≡ true

-- each atom of a part is that of a node, or begins at a variable of one that comes before it
abbrev pub IsLinked : Tree APart → Type 0
IsLinked part = (n : ℕ) (a : Atom) → slice_get (atoms_of part) n ≡ Some a → (rank a.what ≡ 0) ⊎ HasBefore part (rank a.what) (begins_at a.what)

-- the parts of a block are linked, and for each condition the plans are those of its EXISTS queries
unfoldable pub ArePlanned : (plans : ℕ → ℕ → PlanRow) → ℕ → Tree (RowOf APart) → Type 0
ArePlanned plans number none = ⊤
ArePlanned plans number (more part later) = IsLinked part × AnswerIn part (plans number) × ArePlanned plans (suc number) later

-- whether a variable occurs in a part: in an atom or in a condition
abbrev pub occurs_in : Tree APart → Sym → Bool
occurs_in part x = lists (part_variables part) x || list_any (in_conjunct x) (items (conjuncts_of part))

-- a given row binds the variables around a part that occur in it
abbrev pub BindsAround : (around : List Sym) → Tree APart → (given : List Binding) → Type 0
BindsAround around part given = (x : Sym) → lists around x ≡ true → occurs_in part x ≡ true → lists (bound_by given) x ≡ true

-- a row binds what occurs in a condition of the variables of its part and of those around
abbrev pub BindsFor : (around : List Sym) → Tree APart → Tree AConjunct → (row : List Binding) → Type 0
BindsFor around part c row = (x : Sym) → in_conjunct x c ≡ true → (lists (part_variables part) x || lists around x) ≡ true → is_some (datum_at row x) ≡ true

-- on such a row the plans of a condition give the answers that its EXISTS queries have
abbrev pub AnswerWhere : Database → (around : List Sym) → Tree APart → (plans : ℕ → PlanRow) → Type 0
AnswerWhere db around part plans =
    (n : ℕ) (c : Tree AConjunct) → slice_get (items (conjuncts_of part)) n ≡ Some c → (row : List Binding) → IsRow row → BindsFor around part c row
    → (answers : List Bool) → AreAnswersOf db (plans n) row (queries_of c) answers ↔ AreAnswers db row (queries_of c) answers
