-- A plan over a block that looks for no walk runs.
use Rattle.std.proofs.Common.{◌≡◌, ◌&&◌, ℕ, zero, suc, Bool, true, false, List, [], ◌∷◌, Option, None, Some, refl, slice_get}
use Rattle.std.specs.Prelude.{⊤}
use Rattle.std.specs.List.{list_all}
use Rattle.gc_alg.specs.Matches.{atom_at, conjunct_at}
use Rattle.gc_alg.specs.Plans.{ArePlansOver, ForQueries, IsPlanOver, PlanTree, PlanRow, UnitPlan, AtomPlan, FilterPlan, JoinPlan, OuterPlan, no_plans, plan_then}
use Rattle.gc_alg.specs.Trees.{Tree, ABlock, APart, AConjunct, AnExists, RowOf, BlockOf, PartOf, ConjunctOf, ExistsOf, none, more, items}
use Rattle.gc_alg.specs.declared.atom.Atom.{Atom}
use Rattle.gc_alg.specs.declared.atom.AtomWhat.{AtomWhat}
use Rattle.gc_alg.specs.declared.atom.AtomWhat.TheVariants as atom
use Rattle.gc_values.specs.declared.reads.ReadUse.{ReadUse}
use Rattle.gc_exec.specs.Runs.{IsSearched, EachRuns, NamesSearched, Runs, queries_of}
use Rattle.gc_query.specs.Built.{is_searched, are_searched}

pub left : (a b : Bool) → (a && b) ≡ true → a ≡ true
left true b h = refl
left false b h = cc

pub right : (a b : Bool) → (a && b) ≡ true → b ≡ true
right true b h = h
right false b h = cc

no_walk : (what : AtomWhat) → is_searched what ≡ true → IsSearched what
no_walk (atom.Node x labels) h = tt
no_walk (atom.Edge x e y way labels) h = tt
no_walk (atom.Property x kind name v) h = tt
no_walk (atom.Stored x p y labels) h = tt
no_walk (atom.Reach x y regex views) h = h
no_walk (atom.Found x p y k cost regex views) h = h
no_walk (atom.All x p y regex views) h = h

-- each atom of a list that binds no walks, if it is there
none_walks : (atoms : List Atom) → list_all (λ a. is_searched a.what) atoms ≡ true → (n : ℕ) → NamesSearched (slice_get atoms n)
none_walks [] h n = tt
none_walks (a ∷ atoms) h zero = no_walk a.what (left (is_searched a.what) (list_all (λ b. is_searched b.what) atoms) h)
none_walks (a ∷ atoms) h (suc n) = none_walks atoms (right (is_searched a.what) (list_all (λ b. is_searched b.what) atoms) h) n

-- the EXISTS queries of a conjunct, if it is there, look for none
abbrev Plain : Option (Tree AConjunct) → Type 0
Plain None = ⊤
Plain (Some (ConjunctOf condition queries)) = are_searched queries ≡ true

plain_at : (cs : Tree (RowOf AConjunct)) → are_searched cs ≡ true → (n : ℕ) → Plain (slice_get (items cs) n)
unfolding are_searched items
plain_at none h n = tt
plain_at (more (ConjunctOf condition queries) later) h zero = left (are_searched queries) (are_searched later) h
plain_at (more (ConjunctOf condition queries) later) h (suc n) = plain_at later (right (are_searched queries) (are_searched later) h) n

-- each atom of a block, and each conjunct
atom_plain : (reads : List ReadUse) (parts : Tree (RowOf APart)) → are_searched parts ≡ true → (part n : ℕ) → NamesSearched (atom_at (BlockOf parts reads) part n)
unfolding are_searched items
atom_plain reads none h part n = tt
atom_plain reads (more (PartOf atoms cs) later) h zero n =
    none_walks atoms (left (list_all (λ a. is_searched a.what) atoms) (are_searched cs) (left (list_all (λ a. is_searched a.what) atoms && are_searched cs) (are_searched later) h)) n
atom_plain reads (more (PartOf atoms cs) later) h (suc part) n =
    atom_plain reads later (right (list_all (λ a. is_searched a.what) atoms && are_searched cs) (are_searched later) h) part n

conjunct_plain : (reads : List ReadUse) (parts : Tree (RowOf APart)) → are_searched parts ≡ true → (part n : ℕ) → Plain (conjunct_at (BlockOf parts reads) part n)
unfolding are_searched items
conjunct_plain reads none h part n = tt
conjunct_plain reads (more (PartOf atoms cs) later) h zero n =
    plain_at cs (right (list_all (λ a. is_searched a.what) atoms) (are_searched cs) (left (list_all (λ a. is_searched a.what) atoms && are_searched cs) (are_searched later) h)) n
conjunct_plain reads (more (PartOf atoms cs) later) h (suc part) n =
    conjunct_plain reads later (right (list_all (λ a. is_searched a.what) atoms && are_searched cs) (are_searched later) h) part n

atom_in_block : (block : Tree ABlock) → are_searched block ≡ true → (part n : ℕ) → NamesSearched (atom_at block part n)
unfolding are_searched
atom_in_block (BlockOf parts reads) h part n = atom_plain reads parts h part n

conjunct_in_block : (block : Tree ABlock) → are_searched block ≡ true → (part n : ℕ) → Plain (conjunct_at block part n)
unfolding are_searched
conjunct_in_block (BlockOf parts reads) h part n = conjunct_plain reads parts h part n

for_queries : (plans : PlanRow) (c : Option (Tree AConjunct)) → ((queries : Tree (RowOf AnExists)) → ArePlansOver queries plans → are_searched queries ≡ true → EachRuns plans queries)
    → ForQueries (λ queries. ArePlansOver queries plans) c → Plain c → EachRuns plans (queries_of c)
for_queries plans None f over plain = elim over [ ]
for_queries plans (Some (ConjunctOf condition queries)) f over plain = f queries over plain

mutual
  unfolding IsPlanOver Runs are_searched

  pub runs : (block : Tree ABlock) (p : PlanTree) → IsPlanOver block p → are_searched block ≡ true → Runs block p
  runs block UnitPlan over h = tt
  runs block (AtomPlan part n p) over h = (atom_in_block block h part n, runs block p over.1 h)
  runs block (FilterPlan part n plans p) over h = (
    for_queries plans (conjunct_at block part n) (λ queries. all_run queries plans) over.0 (conjunct_in_block block h part n),
    runs block p over.1 h,
  )
  runs block (JoinPlan a b) over h = (runs block a over.0 h, runs block b over.1 h)
  runs block (OuterPlan a b) over h = (runs block a over.0 h, runs block b over.1 h)

  all_run : (queries : Tree (RowOf AnExists)) (plans : PlanRow) → ArePlansOver queries plans → are_searched queries ≡ true → EachRuns plans queries
  all_run none no_plans over h = tt
  all_run (more e later) no_plans over h = elim over [ ]
  all_run none (plan_then p plans) over h = elim over [ ]
  all_run (more (ExistsOf outer block tree) later) (plan_then p plans) over h =
      (runs block p over.0 (left (are_searched block) (are_searched later) h), all_run later plans over.1 (right (are_searched block) (are_searched later) h))
