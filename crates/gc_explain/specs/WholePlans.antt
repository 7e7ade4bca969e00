-- The plan of the steps of a block, with those of its EXISTS queries at any depth.
use Rattle.std.specs.Prelude.{⊤, ◌≡◌, ℕ, suc, Bool, true, List, [], ◌∷◌, ◌++◌, get_or, is_some, slice_get}
use Rattle.std.specs.List.{list_any}
use Rattle.gc_base.specs.declared.place.Sym.{Sym}
use Rattle.gc_rows.specs.Rows.{lists}
use Rattle.gc_alg.specs.Plans.{PlanTree, PlanRow, UnitPlan, OuterPlan, no_plans, plan_then}
use Rattle.gc_alg.specs.Trees.{Tree, ABlock, APart, AConjunct, AnExists, RowOf, BlockOf, PartOf, ConjunctOf, ExistsOf, none, more, items}
use Rattle.gc_explain.specs.ExplainedTrees.{IsLinked, explained_part, occurs_in}
use Rattle.gc_explain.specs.Needs.{part_variables}

-- what the EXISTS queries of a part see: the variables of its atoms, and those around it
abbrev pub seen : (around : List Sym) → Tree APart → List Sym
seen around part = part_variables part ++ around

abbrev pub plan_at : List PlanRow → ℕ → PlanRow
plan_at plans n = get_or plans n no_plans

-- each part is planned by its estimates; its EXISTS queries start with all that they see bound
unfoldable mutual
  pub whole_block : (estimates : Tree APart → List ℕ) → (around : List Sym) → Tree ABlock → PlanTree
  whole_block estimates around (BlockOf parts reads) = whole_parts estimates around parts

  pub whole_parts : (estimates : Tree APart → List ℕ) → (around : List Sym) → Tree (RowOf APart) → PlanTree
  whole_parts estimates around none = UnitPlan
  whole_parts estimates around (more part later) = whole_from estimates around 1 later (whole_part estimates around 0 part)

  pub whole_from : (estimates : Tree APart → List ℕ) → (around : List Sym) → ℕ → Tree (RowOf APart) → PlanTree → PlanTree
  whole_from estimates around number none p = p
  whole_from estimates around number (more part later) p = whole_from estimates around (suc number) later (OuterPlan p (whole_part estimates around number part))

  pub whole_part : (estimates : Tree APart → List ℕ) → (around : List Sym) → ℕ → Tree APart → PlanTree
  whole_part estimates around number (PartOf atoms conjuncts) =
      explained_part number (plan_at (condition_plans estimates (seen around (PartOf atoms conjuncts)) conjuncts)) (estimates (PartOf atoms conjuncts)) around (PartOf atoms conjuncts)

  pub condition_plans : (estimates : Tree APart → List ℕ) → (around : List Sym) → Tree (RowOf AConjunct) → List PlanRow
  condition_plans estimates around none = []
  condition_plans estimates around (more (ConjunctOf condition queries) later) = query_plans estimates around queries ∷ condition_plans estimates around later

  pub query_plans : (estimates : Tree APart → List ℕ) → (around : List Sym) → Tree (RowOf AnExists) → PlanRow
  query_plans estimates around none = no_plans
  query_plans estimates around (more (ExistsOf outer block text) later) = plan_then (whole_block estimates around block) (query_plans estimates around later)

-- whether a variable occurs in a block
abbrev pub occurs_in_block : Tree ABlock → Sym → Bool
occurs_in_block (BlockOf parts reads) x = list_any (λ part. occurs_in part x) (items parts)

-- each part of a block, and of the blocks of its EXISTS queries, has an atom and is linked, and such a query keeps as outer variables
-- those which it sees and which occur in its block
unfoldable mutual
  pub IsSound : (around : List Sym) → Tree ABlock → Type 0
  IsSound around (BlockOf parts reads) = AreSound around parts

  pub AreSound : (around : List Sym) → Tree (RowOf APart) → Type 0
  AreSound around none = ⊤
  AreSound around (more part later) = IsSoundPart around part × AreSound around later

  pub IsSoundPart : (around : List Sym) → Tree APart → Type 0
  IsSoundPart around (PartOf atoms conjuncts) =
      IsLinked (PartOf atoms conjuncts) × (is_some (slice_get atoms 0) ≡ true) × HaveSoundQueries (seen around (PartOf atoms conjuncts)) conjuncts

  pub HaveSoundQueries : (around : List Sym) → Tree (RowOf AConjunct) → Type 0
  HaveSoundQueries around none = ⊤
  HaveSoundQueries around (more (ConjunctOf condition queries) later) = AreSoundQueries around queries × HaveSoundQueries around later

  pub AreSoundQueries : (around : List Sym) → Tree (RowOf AnExists) → Type 0
  AreSoundQueries around none = ⊤
  AreSoundQueries around (more (ExistsOf outer block text) later) =
      ((x : Sym) → lists around x ≡ true → occurs_in_block block x ≡ true → lists outer x ≡ true) × IsSound around block × AreSoundQueries around later
