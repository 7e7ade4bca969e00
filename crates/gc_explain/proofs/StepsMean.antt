-- The steps of a part are a plan of it, and so those of a block mean the block.
use Rattle.std.proofs.Common.{◌≡◌, ◌⊎◌, inl, ⊎_elim, ℕ, zero, suc, ◌+◌, ◌<◌, ◌≤◌, ◌==◌, ◌||◌, ◌&&◌, Bool, true, false, not, cond, List, [], ◌∷◌, ◌++◌, append-nil, append_assoc, filter, get_or, length, map, Option, None, Some, is_some, refl, sym, ap, ◌∙◌, subst, arith, slice_get}
use Rattle.std.proofs.lemmas.Grind.{fold-append}
use Rattle.std.proofs.lemmas.List.{length-map}
use Rattle.std.specs.List.{list_all, range_with_len}
use Rattle.gc_base.specs.declared.place.Sym.{Sym}
use Rattle.gc_rows.specs.Rows.{lists}
use Rattle.gc_alg.specs.Mentions.{in_conjunct}
use Rattle.gc_alg.specs.Plans.{PlanTree, PlanRow, UnitPlan, AtomPlan, FilterPlan, JoinPlan, OuterPlan}
use Rattle.gc_alg.specs.Trees.{Tree, ABlock, APart, AConjunct, RowOf, BlockOf, ConjunctOf, none, more, items, atoms_of, conjuncts_of, parts_of}
use Rattle.gc_alg.specs.declared.atom.Atom.{Atom}
use Rattle.gc_alg.proofs.Schemas.{itself, lists_append, or_left, or_right, same_number}
use Rattle.gc_plan.proofs.Bindings.{and_left, and_right, or_elim, whole_bound}
use Rattle.gc_plan.proofs.BlockLaw.{plan_for}
use Rattle.gc_plan.specs.BlockPlans.{Continues, IsPlanOfParts}
use Rattle.gc_plan.specs.Orders.{has_number}
use Rattle.gc_plan.specs.PartPlans as plan
use Rattle.gc_plan.specs.PartPlans.{ArePlansFor, Fits, IsPlanFor, IsPlanOfPart, MayStand, atom_in, bound_in, conjunct_in, meets, needed_by, part_variables, tests}
use Rattle.gc_explain.specs.ExplainedPlans.{goes_on, is_ready, least, not_ready, step_of, steps_from, tests_of, variables_at, variables_if, without}
use Rattle.gc_explain.specs.ExplainedTrees.{AnswerIn, ArePlanned, HasBefore, IsLinked, begins_at, explained_block, explained_from, explained_part, explained_parts, rank, step_by, steps_over}
use Rattle.gc_explain.specs.ExplainedWords.{word_of}
use Rattle.gc_explain.specs.Needs.{asks_queries, needed, needs_of}
use Rattle.gc_explain.specs.declared.choosing.Choice.{Choice}
use Rattle.gc_explain.specs.declared.step.Step.{Step}
use Rattle.gc_explain.specs.declared.step.StepWord.TheVariants.{Filter}
use Rattle.gc_explain.proofs.Standing.{IsExplained, ReadyOver, Stands, atoms_alone, alone_binds, alone_fits, alone_meets}
use Rattle.gc_explain.proofs.Turns.{below, fewer, from_filter, in_range, into_filter, least_among, meets_one, no_word, nodes_come, none_may_come, others_stay, there_below, there_within, waits_for}

-- one answer of two
not_both : {P : Type 0} (t : Bool) → t ≡ true → t ≡ false → P
not_both true h k = cc
not_both false h k = cc

-- the variables of an atom, by either name
same_variables : (o : Option Atom) → variables_if o ≡ plan.variables_if o
same_variables None = refl
same_variables (Some a) = refl

get_map : {X Y : Type 0} (f : X → Y) (xs : List X) (n : ℕ) (y : Y) (x : X) → slice_get xs n ≡ Some x → get_or (map f xs) n y ≡ f x
get_map f [] n y x h = cc
get_map f (z ∷ xs) zero y x h = let same : z ≡ x = cc in ap f same
get_map f (z ∷ xs) (suc n) y x h = get_map f xs n y x h

is_there : {X : Type 0} (o : Option X) → is_some o ≡ true → (x : X) × (o ≡ Some x)
is_there None h = cc
is_there (Some x) h = (x, refl)

all_are : (f : Sym → Bool) (xs : List Sym) → ((x : Sym) → lists xs x ≡ true → f x ≡ true) → list_all f xs ≡ true
all_are f [] h = refl
all_are f (x ∷ xs) h = yes (f x) (h x (or_left (x.0 == x.0) _ (same x))) (all_are f xs (λ y l. h y (or_right (x.0 == y.0) _ l)))
  where
    same : (x : Sym) → (x.0 == x.0) ≡ true
    same x = itself x.0

    yes : (s : Bool) → s ≡ true → list_all f xs ≡ true → (s && list_all f xs) ≡ true
    yes true e r = r
    yes false e r = cc

-- what holds of all variables holds of each that is listed
holds_of : (p : Sym → Bool) (vars : List Sym) (x : Sym) → list_all p vars ≡ true → lists vars x ≡ true → p x ≡ true
holds_of p [] x h l = cc
holds_of p (y ∷ vars) x h l =
    or_elim (y.0 == x.0) (lists vars x) l
    (λ e. subst (λ (k : ℕ). p (record { 0 = k }) ≡ true) (same_number y.0 x.0 e) (and_left (p y) (list_all p vars) h))
    (holds_of p vars x (and_right (p y) (list_all p vars) h))

filter_lists : (f : Sym → Bool) (xs : List Sym) (x : Sym) → lists xs x ≡ true → f x ≡ true → lists (filter f xs) x ≡ true
filter_lists f [] x l t = l
filter_lists f (y ∷ xs) x l t =
    or_elim (y.0 == x.0) (lists xs x) l
    (λ e. kept (f y) (subst (λ (k : ℕ). f (record { 0 = k }) ≡ true) (sym (same_number y.0 x.0 e)) t) e)
    (λ e. behind (f y) (filter_lists f xs x e t))
  where
    kept : (b : Bool) → b ≡ true → (y.0 == x.0) ≡ true → lists (cond b (y ∷ filter f xs) (filter f xs)) x ≡ true
    kept true u e = or_left (y.0 == x.0) _ e
    kept false u e = cc

    behind : (b : Bool) → lists (filter f xs) x ≡ true → lists (cond b (y ∷ filter f xs) (filter f xs)) x ≡ true
    behind true u = or_right (y.0 == x.0) _ u
    behind false u = u

filter_holds : (f : Sym → Bool) (xs : List Sym) (x : Sym) → lists (filter f xs) x ≡ true → f x ≡ true
filter_holds f [] x h = cc
filter_holds f (y ∷ xs) x h =
    elim (f y) as (λ b. f y ≡ b → lists (cond b (y ∷ filter f xs) (filter f xs)) x ≡ true → f x ≡ true) [
      | true ↦ λ t g. or_elim (y.0 == x.0) (lists (filter f xs) x) g (λ e. subst (λ (k : ℕ). f (record { 0 = k }) ≡ true) (same_number y.0 x.0 e) t) (filter_holds f xs x)
      | false ↦ λ t g. filter_holds f xs x g
    ] refl h

-- what passes a test is listed among all
filter_listed : (f : Sym → Bool) (xs : List Sym) (x : Sym) → lists (filter f xs) x ≡ true → lists xs x ≡ true
filter_listed f [] x h = h
filter_listed f (y ∷ xs) x h = at (λ e. filter_listed f xs x e) (f y) h
  where
    at : (lists (filter f xs) x ≡ true → lists xs x ≡ true) → (b : Bool) → lists (cond b (y ∷ filter f xs) (filter f xs)) x ≡ true → lists (y ∷ xs) x ≡ true
    at rest true g = or_elim (y.0 == x.0) (lists (filter f xs) x) g (λ e. or_left (y.0 == x.0) _ e) (λ e. or_right (y.0 == x.0) _ (rest e))
    at rest false g = or_right (y.0 == x.0) _ (rest g)

range_length : (from count : ℕ) → length (range_with_len from count) ≡ count
range_length from zero = refl
range_length from (suc count) = ap suc (range_length (from + 1) count)

module _ (number : ℕ) (part : Tree APart) (estimates : List ℕ) (plans : ℕ → PlanRow) (around : List Sym) (linked : IsLinked part) where
  abbrev Atoms : List Atom
  Atoms = atoms_of part

  abbrev All : List (List Sym)
  All = needs_of part around

  abbrev Stood : PlanTree → Type 0
  Stood = Stands number part around plans

  abbrev Over : PlanTree → List Step → PlanTree
  Over p steps = steps_over number plans p steps

  -- the variables of an atom that a plan meets it binds
  met_bound : (p : PlanTree) → Stood p → (n : ℕ) → meets p n ≡ true → (x : Sym) → lists (plan.variables_if (atom_in part n)) x ≡ true → lists (bound_in part p) x ≡ true
  unfolding Stands meets bound_in
  met_bound UnitPlan h n e x l = cc
  met_bound (AtomPlan i k p) h n e x l =
      lists_append (bound_in part p) (plan.variables_if (atom_in part k)) x
      ∙ or_elim (k == n) (meets p n) e
      (λ q. or_right (lists (bound_in part p) x) _ (subst (λ j. lists (plan.variables_if (atom_in part j)) x ≡ true) (sym (same_number k n q)) l))
      (λ q. or_left (lists (bound_in part p) x) _ (met_bound p h.2 n q x l))
  met_bound (FilterPlan i k ps p) h n e x l = met_bound p h.3 n e x l
  met_bound (JoinPlan a b) h n e x l = elim h [ ]
  met_bound (OuterPlan a b) h n e x l = elim h [ ]

  -- what a condition needs
  abbrev Base : Tree AConjunct → List Sym
  Base c = cond (asks_queries c) (part_variables part) (part_variables part ++ around)

  in_base : (c : Tree AConjunct) (x : Sym) → lists (part_variables part) x ≡ true → lists (Base c) x ≡ true
  in_base c x l = at (asks_queries c)
    where
      at : (b : Bool) → lists (cond b (part_variables part) (part_variables part ++ around)) x ≡ true
      at true = l
      at false = lists_append (part_variables part) around x ∙ or_left (lists (part_variables part) x) _ l

  from_base : (c : Tree AConjunct) (x : Sym) → lists (Base c) x ≡ true → (lists (part_variables part) x || lists around x) ≡ true
  from_base c x l = at (asks_queries c) l
    where
      at : (b : Bool) → lists (cond b (part_variables part) (part_variables part ++ around)) x ≡ true → (lists (part_variables part) x || lists around x) ≡ true
      at true k = or_left (lists (part_variables part) x) _ k
      at false k = sym (lists_append (part_variables part) around x) ∙ k

  needs_at : (n : ℕ) (c : Tree AConjunct) → conjunct_in part n ≡ Some c → get_or All n [] ≡ needed (part_variables part) around c
  needs_at n c e = get_map (needed (part_variables part) around) (items (conjuncts_of part)) n [] c e

  may_stand : (p : PlanTree) (n : ℕ) → is_some (conjunct_in part n) ≡ true → is_ready All (around ++ bound_in part p) n ≡ true → ReadyOver part around p (conjunct_in part n)
  may_stand p n t r =
      let found = is_there (conjunct_in part n) t in
      subst (ReadyOver part around p) (sym found.1) (λ x m v.
      holds_of (lists (around ++ bound_in part p)) (needed (part_variables part) around found.0) x (ap (list_all (lists (around ++ bound_in part p))) (sym (needs_at n found.0 found.1)) ∙ r)
      (filter_lists (λ y. in_conjunct y found.0) (Base found.0) x (in_base found.0 x v) m))

  -- conditions that are ready, over a plan
  record IsTested (p q : PlanTree) (ns : List ℕ) : Type 0 where
    pub stands : Stood q
    pub binds : bound_in part q ≡ bound_in part p
    pub met : (k : ℕ) → meets q k ≡ meets p k
    pub tested : (k : ℕ) → (tests p k || has_number ns k) ≡ true → tests q k ≡ true

  abbrev MayAll : PlanTree → List ℕ → Type 0
  MayAll p ns = (n : ℕ) → has_number ns n ≡ true → (is_some (conjunct_in part n) ≡ true) × (is_ready All (around ++ bound_in part p) n ≡ true)

  all_tested : (ns : List ℕ) (p : PlanTree) → Stood p → MayAll p ns → IsTested p (Over p (map (step_of Filter) ns)) ns
  unfolding Stands meets bound_in tests
  all_tested [] p stands may = record { stands = stands; binds = refl; met = λ k. refl; tested = λ k h. or_elim (tests p k) false h (λ e. e) (λ e. cc) }
  all_tested (n ∷ ns) p stands may =
      let one = may n (or_left (n == n) _ (itself n)) in
      let p' : PlanTree = FilterPlan number n (plans n) p in
      let rest = all_tested ns p' (refl, refl, may_stand p n one.0 one.1, stands) (λ m h. may m (or_right (n == m) _ h)) in
      record {
        stands = rest.stands;
        binds = rest.binds;
        met = rest.met;
        tested = λ k h. rest.tested k (moved (n == k) (tests p k) (has_number ns k) h);
      }
    where
      moved : (s t u : Bool) → (t || (s || u)) ≡ true → ((s || t) || u) ≡ true
      moved true t u h = refl
      moved false true u h = refl
      moved false false u h = h

  -- what is known in a turn
  record Underway (p : PlanTree) (bound : List Sym) (left rest : List ℕ) : Type 0 where
    pub stands : Stood p
    pub binds : bound ≡ around ++ bound_in part p
    pub met : (n : ℕ) → is_some (atom_in part n) ≡ true → (meets p n || has_number left n) ≡ true
    pub tested : (n : ℕ) → is_some (conjunct_in part n) ≡ true → (tests p n || has_number rest n) ≡ true
    pub there : (n : ℕ) → has_number rest n ≡ true → is_some (conjunct_in part n) ≡ true

  -- no condition that is left is ready
  abbrev Waits : List Sym → (rest : List ℕ) → Type 0
  Waits bound rest = (n : ℕ) → has_number rest n ≡ true → is_ready All bound n ≡ false

  not_is : (t : Bool) → not t ≡ true → t ≡ false
  not_is true h = cc
  not_is false h = refl

  -- conditions that have become ready are tested behind a plan
  then_tested : (p : PlanTree) (bound tests_at : List Sym) (left rest : List ℕ) → Stood p → bound ≡ around ++ bound_in part p
      → ((n : ℕ) → is_ready All tests_at n ≡ true → is_ready All bound n ≡ true)
      → ((n : ℕ) → is_some (atom_in part n) ≡ true → (meets p n || has_number left n) ≡ true)
      → ((n : ℕ) → is_some (conjunct_in part n) ≡ true → (tests p n || has_number rest n) ≡ true)
      → ((n : ℕ) → has_number rest n ≡ true → is_some (conjunct_in part n) ≡ true)
      → Underway (Over p (tests_of All tests_at rest)) bound left (filter (not_ready All tests_at) rest)
  then_tested p bound tests_at left rest stands binds rises met tested there =
      let ready : List ℕ = filter (is_ready All tests_at) rest in
      let may : MayAll p ready = λ n h.
      (there n (from_filter (is_ready All tests_at) rest n h).0, ap (λ vars. is_ready All vars n) (sym binds) ∙ rises n (from_filter (is_ready All tests_at) rest n h).1) in
      let is = all_tested ready p stands may in
      record {
        stands = is.stands;
        binds = binds ∙ ap (λ vars. around ++ vars) (sym is.binds);
        met = λ n t. ap (λ b. b || has_number left n) (is.met n) ∙ met n t;
        tested = λ n t. or_elim (tests p n) (has_number rest n) (tested n t)
            (λ e. or_left (tests (Over p (tests_of All tests_at rest)) n) _ (is.tested n (or_left (tests p n) _ e)))
            (λ e. split n e is (is_ready All tests_at n) refl);
        there = λ n h. there n (from_filter (not_ready All tests_at) rest n h).0;
      }
    where
      split : (n : ℕ) → has_number rest n ≡ true → IsTested p (Over p (tests_of All tests_at rest)) (filter (is_ready All tests_at) rest) → (b : Bool) → is_ready All tests_at n ≡ b
          → (tests (Over p (tests_of All tests_at rest)) n || has_number (filter (not_ready All tests_at) rest) n) ≡ true
      split n h is true e = or_left (tests (Over p (tests_of All tests_at rest)) n) _ (is.tested n (or_right (tests p n) _ (into_filter (is_ready All tests_at) rest n h e)))
      split n h is false e = or_right (tests (Over p (tests_of All tests_at rest)) n) _ (into_filter (not_ready All tests_at) rest n h (ap not e))

  -- what is left waits
  then_waits : (tests_at : List Sym) (rest : List ℕ) → Waits tests_at (filter (not_ready All tests_at) rest)
  then_waits tests_at rest n h = not_is (is_ready All tests_at n) (from_filter (not_ready All tests_at) rest n h).1

  -- one more atom
  with_atom : (p : PlanTree) (bound : List Sym) (left rest : List ℕ) (n : ℕ) → Underway p bound left rest → is_some (atom_in part n) ≡ true
      → Underway (Over (AtomPlan number n p) (tests_of All (bound ++ variables_at Atoms n) rest)) (bound ++ variables_at Atoms n) (without n left) (filter (not_ready All (bound ++ variables_at Atoms n)) rest)
  unfolding Stands meets bound_in tests
  with_atom p bound left rest n u t =
      then_tested (AtomPlan number n p) (bound ++ variables_at Atoms n) (bound ++ variables_at Atoms n) (without n left) rest (refl, t, u.stands)
      ((λ j. u.binds j ++ same_variables (slice_get Atoms n) j) ∙ append_assoc around (bound_in part p) _)
      (λ k r. r)
      (λ k h. or_elim (meets p k) (has_number left k) (u.met k h)
      (λ e. or_left (n == k || meets p k) _ (or_right (n == k) _ e))
      (λ e. ⊎_elim (λ f. or_left (n == k || meets p k) _ (or_left (n == k) _ f)) (λ f. or_right (n == k || meets p k) _ f) (others_stay n left k e)))
      u.tested u.there

  -- where no atom may come, none is left
  module _ (p : PlanTree) (bound : List Sym) (left rest : List ℕ) (u : Underway p bound left rest) (stuck : least bound Atoms estimates left ≡ None) where
    waiting : (n : ℕ) (a : Atom) → atom_in part n ≡ Some a → has_number left n ≡ true → word_of bound a.what ≡ None
    waiting n a e h = no_word bound Atoms estimates n a e (none_may_come bound Atoms estimates left stuck n h)

    none_below : (limit n : ℕ) (a : Atom) → atom_in part n ≡ Some a → has_number left n ≡ true → rank a.what < limit → ⊥
    none_below zero n a e h l = omega (arith, l)
    none_below (suc limit) n a e h l =
        ⊎_elim (λ r. nodes_come bound a.what r (waiting n a e h)) (λ b. before b (λ m. none_below limit b.number b.atom b.there m (omega (arith, b.before, l)))) (linked n a e)
      where
        before : (b : HasBefore part (rank a.what) (begins_at a.what)) → (has_number left b.number ≡ true → ⊥) → ⊥
        before b below_none =
            or_elim (meets p b.number) (has_number left b.number) (u.met b.number (ap is_some b.there))
            (λ m. not_both (lists bound (begins_at a.what))
            (subst (λ vars. lists vars (begins_at a.what) ≡ true) (sym u.binds)
            (lists_append around (bound_in part p) (begins_at a.what) ∙ or_right (lists around (begins_at a.what)) _ (met_bound p u.stands b.number m (begins_at a.what) (subst (λ o. lists (plan.variables_if o) (begins_at a.what) ≡ true) (sym b.there) b.binds))))
            (waits_for bound a.what (waiting n a e h)))
            below_none

    none_left : (n : ℕ) → is_some (atom_in part n) ≡ true → has_number left n ≡ true → ⊥
    none_left n t h =
        let found = is_there (atom_in part n) t in
        none_below (rank found.0.what + 1) n found.0 found.1 h (omega arith)

  -- where no atom is left all are met, and so all conditions are tested
  done : (p : PlanTree) (bound : List Sym) (left rest : List ℕ) → Underway p bound left rest → Waits bound rest → ((n : ℕ) → is_some (atom_in part n) ≡ true → has_number left n ≡ true → ⊥)
      → IsExplained number part around plans p
  done p bound left rest u waits none_left = record {
    stands = u.stands;
    atoms = all_met;
    conjuncts = λ n t. or_elim (tests p n) (has_number rest n) (u.tested n t) (λ e. e) (λ e. not_both (is_ready All bound n) (ready n t) (waits n e));
  }
    where
      all_met : (n : ℕ) → is_some (atom_in part n) ≡ true → meets p n ≡ true
      all_met n t = or_elim (meets p n) (has_number left n) (u.met n t) (λ e. e) (λ e. absurd (none_left n t e))

      own : (x : Sym) → lists (part_variables part) x ≡ true → lists (bound_in part p) x ≡ true
      own x l =
          subst (λ vars. lists vars x ≡ true) (alone_binds number part around plans p u.stands)
          (whole_bound number part (atoms_alone p) (alone_fits number part around plans p u.stands) (λ n t. alone_meets number part around plans p u.stands n ∙ all_met n t) x l)

      ready : (n : ℕ) → is_some (conjunct_in part n) ≡ true → is_ready All bound n ≡ true
      ready n t =
          let found = is_there (conjunct_in part n) t in
          (λ j. list_all (lists (u.binds j)) (needs_at n found.0 found.1 j))
          ∙ all_are (lists (around ++ bound_in part p)) (needed (part_variables part) around found.0) (λ x l.
          lists_append around (bound_in part p) x
          ∙ or_elim (lists (part_variables part) x) (lists around x) (from_base found.0 x (filter_listed (λ y. in_conjunct y found.0) (Base found.0) x l))
          (λ e. or_right (lists around x) _ (own x e)) (λ e. or_left (lists around x) _ e))

  -- what comes behind a choice
  abbrev Behind : ℕ → List Sym → (left rest : List ℕ) → Choice → List Step
  Behind k bound left rest c =
      step_of c.word c.number
      ∷ (tests_of All (bound ++ variables_at Atoms c.number) rest
      ++ steps_from k Atoms estimates All (bound ++ variables_at Atoms c.number) (without c.number left) (filter (not_ready All (bound ++ variables_at Atoms c.number)) rest))

  -- the steps from a turn on, where one atom may come
  abbrev Ends : ℕ → Type 0
  Ends k =
      (p : PlanTree) (bound : List Sym) (left rest : List ℕ) → Underway p bound left rest → Waits bound rest → length left ≤ k
      → IsExplained number part around plans (Over p (steps_from k Atoms estimates All bound left rest))

  one_comes : (k : ℕ) → Ends k → (p : PlanTree) (bound : List Sym) (left rest : List ℕ) → Underway p bound left rest → length left ≤ suc k → (c : Choice) → least bound Atoms estimates left ≡ Some c
      → IsExplained number part around plans (Over p (Behind k bound left rest c))
  one_comes k later p bound left rest u l c e =
      let is = least_among bound Atoms estimates left c e in
      let next : Underway (Over (AtomPlan number c.number p) (tests_of All (bound ++ variables_at Atoms c.number) rest)) (bound ++ variables_at Atoms c.number) (without c.number left)
      (filter (not_ready All (bound ++ variables_at Atoms c.number)) rest) = with_atom p bound left rest c.number u (ap is_some is.1.there) in
      let less = fewer c.number left is.0 in
      subst (IsExplained number part around plans)
      (sym (ap (λ q. Over q (tests_of All (bound ++ variables_at Atoms c.number) rest
      ++ steps_from k Atoms estimates All (bound ++ variables_at Atoms c.number) (without c.number left) (filter (not_ready All (bound ++ variables_at Atoms c.number)) rest)))
      (meets_one number plans p c.number bound is.1.atom.what c.word is.1.word)
      ∙ fold-append (λ q s. step_by number plans q s.word s.number) (AtomPlan number c.number p) (tests_of All (bound ++ variables_at Atoms c.number) rest)
      (steps_from k Atoms estimates All (bound ++ variables_at Atoms c.number) (without c.number left) (filter (not_ready All (bound ++ variables_at Atoms c.number)) rest))))
      (later _ _ _ _ next (then_waits (bound ++ variables_at Atoms c.number) rest) (omega (arith, less, l)))

  nothing_left : (ns : List ℕ) → length ns ≤ 0 → (n : ℕ) → has_number ns n ≡ true → ⊥
  nothing_left [] l n h = not_both (has_number [] n) h refl
  nothing_left (m ∷ ns) l n h = omega (arith, l)

  turns : (k : ℕ) → Ends k
  turns zero p bound left rest u w l = done p bound left rest u w (λ n t h. nothing_left left l n h)
  turns (suc k) p bound left rest u w l = at (turns k) (least bound Atoms estimates left) refl
    where
      at : Ends k → (o : Option Choice) → least bound Atoms estimates left ≡ o → IsExplained number part around plans (Over p (goes_on (Behind k bound left rest) o))
      at later None e = done p bound left rest u w (none_left p bound left rest u e)
      at later (Some c) e = one_comes k later p bound left rest u l c e

  -- the same from the start, where conditions may wait that need nothing of the part
  from_start : (k : ℕ) (p : PlanTree) (bound : List Sym) (left rest : List ℕ) → Underway p bound left rest → length left ≤ k → (n : ℕ) → is_some (atom_in part n) ≡ true → has_number left n ≡ true
      → IsExplained number part around plans (Over p (steps_from k Atoms estimates All bound left rest))
  from_start zero p bound left rest u l n t h = absurd (nothing_left left l n h)
  from_start (suc k) p bound left rest u l n t h = at (least bound Atoms estimates left) refl
    where
      at : (o : Option Choice) → least bound Atoms estimates left ≡ o → IsExplained number part around plans (Over p (goes_on (Behind k bound left rest) o))
      at None e = absurd (none_left p bound left rest u e n t h)
      at (Some c) e = one_comes k (turns k) p bound left rest u l c e

  as_many : length All ≡ length (items (conjuncts_of part))
  as_many = length-map (items (conjuncts_of part)) (needed (part_variables part) around)

  none_needed : (f : Sym → Bool) (xs : List Sym) → list_all (lists []) xs ≡ true → list_all f xs ≡ true
  none_needed f [] h = refl
  none_needed f (x ∷ xs) h = cc

  -- all steps of the part, which has an atom if anything is bound around it
  pub part_is : (around ≡ []) ⊎ (is_some (atom_in part 0) ≡ true) → IsExplained number part around plans (explained_part number plans estimates around part)
  unfolding Stands meets bound_in tests
  part_is first =
      let all : List ℕ = range_with_len 0 (length All) in
      let left : List ℕ = range_with_len 0 (length Atoms) in
      let start : Underway (Over UnitPlan (tests_of All [] all)) around left (filter (not_ready All []) all) =
      then_tested UnitPlan around [] left all tt (sym (append-nil around))
      (λ n r. none_needed (lists around) (get_or All n []) r)
      (λ n t. in_range 0 (length Atoms) n (omega arith) (let w = there_within Atoms n t in omega (arith, w)))
      (λ n t. in_range 0 (length All) n (omega arith) (let w = there_within (items (conjuncts_of part)) n t in omega (arith, w, as_many)))
      (λ n h. there_below (items (conjuncts_of part)) n (let b = below 0 (length All) n h in omega (arith, b, as_many))) in
      let most : length left ≤ length Atoms = omega (arith, range_length 0 (length Atoms)) in
      subst (IsExplained number part around plans)
      (sym (fold-append (λ q s. step_by number plans q s.word s.number) UnitPlan (tests_of All [] all) (steps_from (length Atoms) Atoms estimates All around left (filter (not_ready All []) all))))
      (⊎_elim
      (λ e. turns (length Atoms) _ around left _ start (subst (λ vars. Waits vars (filter (not_ready All []) all)) (sym e) (then_waits [] all)) most)
      (λ t. from_start (length Atoms) _ around left _ start most 0 t (in_range 0 (length Atoms) 0 (omega arith) (let w = there_within Atoms 0 t in omega (arith, w)))) first)

-- where nothing is bound around a part, such a chain is a plan of it
module _ (number : ℕ) (part : Tree APart) (plans : ℕ → PlanRow) (answer : AnswerIn part plans) where
  chain_fits : (p : PlanTree) → Stands number part [] plans p → Fits number part p
  unfolding Stands Fits
  chain_fits UnitPlan h = tt
  chain_fits (AtomPlan i n p) h = (h.0, h.1, chain_fits p h.2)
  chain_fits (FilterPlan i n ps p) h = (h.0, may (conjunct_in part n) refl h.2, chain_fits p h.3)
    where
      may : (o : Option (Tree AConjunct)) → conjunct_in part n ≡ o → ReadyOver part [] p o → MayStand part p ps o
      may None e r = r
      may (Some (ConjunctOf condition queries)) e r = (
        all_are (lists (bound_in part p)) (needed_by part (ConjunctOf condition queries)) (λ x l.
            r x (filter_holds (λ y. in_conjunct y (ConjunctOf condition queries)) (part_variables part) x l) (filter_listed (λ y. in_conjunct y (ConjunctOf condition queries)) (part_variables part) x l)),
        subst (ArePlansFor queries) (sym h.1) (answer n (ConjunctOf condition queries) e),
      )
  chain_fits (JoinPlan a b) h = elim h [ ]
  chain_fits (OuterPlan a b) h = elim h [ ]

  pub part_plan : (p : PlanTree) → IsExplained number part [] plans p → IsPlanOfPart number part p
  part_plan p is = record { fits = chain_fits p is.stands; atoms = is.atoms; conjuncts = is.conjuncts }

-- and the steps of the later parts
later_are : (plans : ℕ → ℕ → PlanRow) (estimates : ℕ → List ℕ) (later : Tree (RowOf APart)) (number : ℕ) (p : PlanTree) → ArePlanned plans number later
    → Continues number later p (explained_from plans estimates number later p)
unfolding ArePlanned Continues
later_are plans estimates none number p h = refl
later_are plans estimates (more part later) number p h =
    let q : PlanTree = explained_part number (plans number) (estimates number) [] part in
    (q, part_plan number part (plans number) h.1 q (part_is number part (estimates number) (plans number) [] h.0 (inl refl)), later_are plans estimates later (suc number) (OuterPlan p q) h.2)

parts_are : (plans : ℕ → ℕ → PlanRow) (estimates : ℕ → List ℕ) (parts : Tree (RowOf APart)) → ArePlanned plans 0 parts → IsPlanOfParts parts (explained_parts plans estimates parts)
unfolding ArePlanned IsPlanOfParts
parts_are plans estimates none h = refl
parts_are plans estimates (more part later) h =
    let p : PlanTree = explained_part 0 (plans 0) (estimates 0) [] part in
    (p, part_plan 0 part (plans 0) h.1 p (part_is 0 part (estimates 0) (plans 0) [] h.0 (inl refl)), later_are plans estimates later 1 p h.2)

pub block_means : (block : Tree ABlock) (plans : ℕ → ℕ → PlanRow) (estimates : ℕ → List ℕ) → ArePlanned plans 0 (parts_of block) → IsPlanFor block (explained_block plans estimates block)
block_means (BlockOf parts reads) plans estimates h = plan_for (BlockOf parts reads) (explained_parts plans estimates parts) (parts_are plans estimates parts h)
