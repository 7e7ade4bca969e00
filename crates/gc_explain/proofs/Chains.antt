-- What the chain of a part means on given rows that bind what occurs around it.
use Rattle.std.proofs.Common.{◌≡◌, ◌↔◌, ℕ, zero, suc, ◌==◌, ◌||◌, Bool, true, false, List, [], ◌∷◌, ◌++◌, append-nil, Option, None, Some, is_some, refl, sym, ap, ◌∙◌, subst, slice_get}
use Rattle.std.specs.Prelude.{⊤}
use Rattle.std.specs.List.{flat_map, list_any}
use Rattle.std.specs.Option.{option_and_then}
use Rattle.gc_automata.specs.Moves.{Network}
use Rattle.gc_base.specs.declared.place.Sym.{Sym}
use Rattle.gc_rows.specs.Algebra.{restricted}
use Rattle.gc_rows.specs.Rows.{IsRow, datum_at, lists}
use Rattle.gc_rows.specs.Tables.{IsRowOver}
use Rattle.gc_rows.specs.declared.row.Binding.{Binding}
use Rattle.gc_rows.proofs.RowLaws.{unlisted_unbound}
use Rattle.gc_alg.specs.Blocks.{IsRowOfBlock, IsTrue, bound_by}
use Rattle.gc_alg.specs.Instances.{MeetsIn, variables_of}
use Rattle.gc_alg.specs.Matches.{MakesTrue, MeetsAtom, Setting, atom_at, conjunct_at, part_at, with_atom_if}
use Rattle.gc_alg.specs.Mentions.{in_conjunct}
use Rattle.gc_alg.specs.Networks.{network_of}
use Rattle.gc_alg.specs.Plans.{AreAnswersOf, IsRowOfPlan, IsTrueBy, PlanTree, PlanRow, UnitPlan, AtomPlan, FilterPlan, JoinPlan, OuterPlan, plan_variables}
use Rattle.gc_alg.specs.Trees.{Tree, APart, AConjunct, ConjunctOf, items, atoms_of, conjuncts_of, reads_of}
use Rattle.gc_alg.specs.declared.atom.Atom.{Atom}
use Rattle.gc_alg.specs.declared.atom.AtomWhat.{AtomWhat}
use Rattle.gc_alg.proofs.Own.{has_itself}
use Rattle.gc_alg.proofs.Restrictions.{dropped_at, kept_at, restricted_over}
use Rattle.gc_alg.proofs.SameRows.{true_alike}
use Rattle.gc_alg.proofs.Schemas.{has_bound, instance_binds, lists_append, lists_itself, or_false, or_left, or_regrouped, or_right, same_number, with_atom_listed}
use Rattle.gc_plan.proofs.Bindings.{or_elim}
use Rattle.gc_plan.specs.PartPlans.{atom_in, bound_in, conjunct_in, part_variables, tests, variables_if}
use Rattle.gc_explain.specs.ExplainedTrees.{AnswerWhere, BindsAround}
use Rattle.gc_explain.proofs.Standing.{ReadyOver, Stands, atoms_alone}

-- the variables of an atom that is there are those of its part
atom_within : (atoms : List Atom) (n : ℕ) (x : Sym) → lists (variables_if (slice_get atoms n)) x ≡ true → lists (flat_map (λ a. variables_of a.what) atoms) x ≡ true
atom_within [] n x h = cc
atom_within (a ∷ atoms) zero x h = lists_append (variables_of a.what) _ x ∙ or_left (lists (variables_of a.what) x) _ h
atom_within (a ∷ atoms) (suc n) x h = lists_append (variables_of a.what) _ x ∙ or_right (lists (variables_of a.what) x) _ (atom_within atoms n x h)

-- one of some passes a test
any_at : {X : Type 0} (f : X → Bool) (xs : List X) (n : ℕ) (x : X) → slice_get xs n ≡ Some x → f x ≡ true → list_any f xs ≡ true
any_at f [] n x e t = cc
any_at f (y ∷ ys) zero x e t = let same : y ≡ x = cc in or_left (f y) _ (ap f same ∙ t)
any_at f (y ∷ ys) (suc n) x e t = or_right (f y) _ (any_at f ys n x e t)

-- what is listed with one more atom
with_listed : (vars bound : List Sym) (g : Bool) (x : Sym) → lists vars x ≡ (g || lists bound x) → (o : Option Atom) → lists (with_atom_if vars o) x ≡ (g || lists (bound ++ variables_if o) x)
with_listed vars bound g x e None = e ∙ ap (λ b. g || lists b x) (sym (append-nil bound))
with_listed vars bound g x e (Some a) =
    with_atom_listed vars a x
    ∙ (ap (λ b. b || lists (variables_of a.what) x) e
    ∙ (or_regrouped g (lists bound x) (lists (variables_of a.what) x) ∙ ap (λ b. g || b) (sym (lists_append bound (variables_of a.what) x))))

-- a row that meets an atom binds its variables
met_binds : (row : List Binding) (network : Option Network) (what : AtomWhat) → MeetsIn network what row → (x : Sym) → lists (variables_of what) x ≡ true → is_some (datum_at row x) ≡ true
met_binds row None what m x l = elim m [ ]
met_binds row (Some n) what m x l =
    has_bound row m.instance x m.holds (subst (λ vars. lists vars x ≡ true) (sym (instance_binds n what m.instance m.there)) l)

neither : (s t : Bool) → (s || t) ≡ false → (s ≡ false) × (t ≡ false)
neither true t h = cc
neither false t h = (refl, h)

not_listed : (t : Bool) → (t ≡ true → false ≡ true) → t ≡ false
not_listed true f = let clash = f refl in cc
not_listed false f = refl

module _ (s : Setting) (up : IsRow s.given) (number : ℕ) (part : Tree APart) (at : part_at s.block number ≡ Some part) (around : List Sym) (plans : ℕ → PlanRow)
    (binds : BindsAround around part s.given) (answer : AnswerWhere s.database around part plans) where
  abbrev Stood : PlanTree → Type 0
  Stood = Stands number part around plans

  abbrev Vars : PlanTree → List Sym
  Vars = plan_variables s

  found_atom : (i n : ℕ) → i ≡ number → atom_at s.block i n ≡ atom_in part n
  found_atom i n e = ap (λ j. atom_at s.block j n) e ∙ ap (option_and_then (λ (p : Tree APart). slice_get (atoms_of p) n)) at

  found_conjunct : (i n : ℕ) → i ≡ number → conjunct_at s.block i n ≡ conjunct_in part n
  found_conjunct i n e = ap (λ j. conjunct_at s.block j n) e ∙ ap (option_and_then (λ (p : Tree APart). slice_get (items (conjuncts_of p)) n)) at

  -- the variables of a chain are those of the given row and those of its atoms
  vars_are : (p : PlanTree) → Stood p → (x : Sym) → lists (Vars p) x ≡ (lists (bound_by s.given) x || lists (bound_in part p) x)
  unfolding Stands plan_variables bound_in
  vars_are UnitPlan h x = sym (or_false (lists (bound_by s.given) x))
  vars_are (AtomPlan i n p) h x =
      ap (λ o. lists (with_atom_if (Vars p) o) x) (found_atom i n h.0)
      ∙ with_listed (Vars p) (bound_in part p) (lists (bound_by s.given) x) x (vars_are p h.2 x) (atom_in part n)
  vars_are (FilterPlan i n ps p) h x = vars_are p h.3 x
  vars_are (JoinPlan a b) h x = elim h [ ]
  vars_are (OuterPlan a b) h x = elim h [ ]

  vars_stay : (i n : ℕ) (p : PlanTree) → Stood (AtomPlan i n p) → Stood p → (x : Sym) → lists (Vars p) x ≡ true → lists (Vars (AtomPlan i n p)) x ≡ true
  unfolding bound_in
  vars_stay i n p h below x l =
      vars_are (AtomPlan i n p) h x
      ∙ or_elim (lists (bound_by s.given) x) (lists (bound_in part p) x) (sym (vars_are p below x) ∙ l)
      (λ e. or_left (lists (bound_by s.given) x) _ e)
      (λ e. or_right (lists (bound_by s.given) x) _ (lists_append (bound_in part p) (variables_if (atom_in part n)) x ∙ or_left (lists (bound_in part p) x) _ e))

  -- a row of a chain binds all of them, and nothing else
  rows_over : (p : PlanTree) → Stood p → (row : List Binding) → IsRowOfPlan s p row → IsRowOver (Vars p) row
  unfolding Stands IsRowOfPlan plan_variables
  rows_over UnitPlan h row r = subst (IsRowOver (bound_by s.given)) (sym r) (record { ascends = up; over = lists_itself s.given })
  rows_over (AtomPlan i n p) h row r = r.0
  rows_over (FilterPlan i n ps p) h row r = rows_over p h.3 row r.1
  rows_over (JoinPlan a b) h row r = elim h [ ]
  rows_over (OuterPlan a b) h row r = elim h [ ]

  rows_bind : (p : PlanTree) → Stood p → (row : List Binding) → IsRowOfPlan s p row → (x : Sym) → lists (Vars p) x ≡ true → is_some (datum_at row x) ≡ true
  unfolding Stands IsRowOfPlan plan_variables
  rows_bind UnitPlan h row r x l = subst (λ b. is_some (datum_at b x) ≡ true) (sym r) (has_bound s.given s.given x (has_itself s.given up) l)
  rows_bind (AtomPlan i n p) h row r x l =
      elim (atom_at s.block i n) as (λ o. MeetsAtom s row o → lists (with_atom_if (Vars p) o) x ≡ true → is_some (datum_at row x) ≡ true) [
        | None ↦ λ m k. elim m [ ]
        | Some a ↦ λ m k.
            or_elim (lists (Vars p) x) (lists (variables_of a.what) x) (sym (with_atom_listed (Vars p) a x) ∙ k)
            (λ e. ap is_some (sym (kept_at (Vars p) row x e)) ∙ rows_bind p h.2 (restricted (Vars p) row) r.2 x e)
            (met_binds row (network_of s.database a) a.what m x)
      ] r.1 l
  rows_bind (FilterPlan i n ps p) h row r x l = rows_bind p h.3 row r.1 x l
  rows_bind (JoinPlan a b) h row r x l = elim h [ ]
  rows_bind (OuterPlan a b) h row r x l = elim h [ ]

  -- what a condition hangs on is bound where it stands
  own_bound : (p : PlanTree) → Stood p → (n : ℕ) (c : Tree AConjunct) → conjunct_in part n ≡ Some c → ReadyOver part around p (Some c)
      → (x : Sym) → in_conjunct x c ≡ true → lists (part_variables part) x ≡ true → lists (Vars p) x ≡ true
  own_bound p h n c e ready x m v =
      vars_are p h x
      ∙ or_elim (lists around x) (lists (bound_in part p) x) (sym (lists_append around (bound_in part p) x) ∙ ready x m v)
      (λ a. or_left (lists (bound_by s.given) x) _ (binds x a (or_left (lists (part_variables part) x) _ v)))
      (λ b. or_right (lists (bound_by s.given) x) _ b)

  all_bound : (p : PlanTree) → Stood p → (n : ℕ) (c : Tree AConjunct) → conjunct_in part n ≡ Some c → ReadyOver part around p (Some c)
      → (x : Sym) → in_conjunct x c ≡ true → (lists (part_variables part) x || lists around x) ≡ true → lists (Vars p) x ≡ true
  all_bound p h n c e ready x m v =
      or_elim (lists (part_variables part) x) (lists around x) v (own_bound p h n c e ready x m)
      (λ a. vars_are p h x ∙ or_left (lists (bound_by s.given) x) _
      (binds x a (or_right (lists (part_variables part) x) _ (any_at (in_conjunct x) (items (conjuncts_of part)) n c e m))))

  -- a condition is true by its plans where it is by its EXISTS queries
  true_by : (p : PlanTree) → Stood p → (n : ℕ) → ReadyOver part around p (conjunct_in part n) → (row : List Binding) → IsRowOfPlan s p row
      → IsTrueBy s (λ queries answers. AreAnswersOf s.database (plans n) row queries answers) row (conjunct_in part n) ↔ MakesTrue s row (conjunct_in part n)
  unfolding IsRowOfBlock
  true_by p h n ready row r = by (conjunct_in part n) refl ready
    where
      by : (o : Option (Tree AConjunct)) → conjunct_in part n ≡ o → ReadyOver part around p o
          → IsTrueBy s (λ queries answers. AreAnswersOf s.database (plans n) row queries answers) row o ↔ MakesTrue s row o
      by None e k = elim k [ ]
      by (Some (ConjunctOf condition queries)) e k =
          let c : Tree AConjunct = ConjunctOf condition queries in
          let same = answer n c e row (rows_over p h row r).ascends (λ x m v. rows_bind p h row r x (all_bound p h n c e k x m v)) in
          (λ t. (t.0, (same t.0).0 t.1, t.2), λ t. (t.0, (same t.0).1 t.1, t.2))

  -- the conditions of a chain are true on a row
  unfoldable pub AllTrue : PlanTree → List Binding → Type 0
  AllTrue UnitPlan row = ⊤
  AllTrue (AtomPlan i n p) row = AllTrue p row
  AllTrue (FilterPlan i n ps p) row = MakesTrue s row (conjunct_in part n) × AllTrue p row
  AllTrue (JoinPlan a b) row = ⊥
  AllTrue (OuterPlan a b) row = ⊥

  -- they are so on another row that agrees with it on what they hang on
  carried : (p : PlanTree) → Stood p → (row other : List Binding) → IsRow row → IsRow other → ((x : Sym) → lists (Vars p) x ≡ true → datum_at row x ≡ datum_at other x)
      → ((x : Sym) → lists (part_variables part) x ≡ false → datum_at row x ≡ datum_at other x) → AllTrue p row → AllTrue p other
  unfolding Stands plan_variables AllTrue
  carried UnitPlan h row other u v f g t = tt
  carried (AtomPlan i n p) h row other u v f g t = carried p h.2 row other u v (λ x l. f x (vars_stay i n p h h.2 x l)) g t
  carried (FilterPlan i n ps p) h row other u v f g t = (one (conjunct_in part n) refl h.2 t.0, carried p h.3 row other u v f g t.1)
    where
      one : (o : Option (Tree AConjunct)) → conjunct_in part n ≡ o → ReadyOver part around p o → MakesTrue s row o → MakesTrue s other o
      one None e k m = m
      one (Some c) e k m =
          true_alike s.database (reads_of s.block) row other u v c (λ x i.
          elim (lists (part_variables part) x) as (λ b. lists (part_variables part) x ≡ b → datum_at row x ≡ datum_at other x) [
            | true ↦ λ w. f x (own_bound p h.3 n c e k x i w)
            | false ↦ λ w. g x w
          ] refl) m
  carried (JoinPlan a b) h row other u v f g t = elim h [ ]
  carried (OuterPlan a b) h row other u v f g t = elim h [ ]

  alone_vars : (p : PlanTree) → Stood p → Vars (atoms_alone p) ≡ Vars p
  unfolding Stands plan_variables atoms_alone
  alone_vars UnitPlan h = refl
  alone_vars (AtomPlan i n p) h = ap (λ vars. with_atom_if vars (atom_at s.block i n)) (alone_vars p h.2)
  alone_vars (FilterPlan i n ps p) h = alone_vars p h.3
  alone_vars (JoinPlan a b) h = elim h [ ]
  alone_vars (OuterPlan a b) h = elim h [ ]

  -- what no atom of the part has is as it was before the last atom
  outside : (i n : ℕ) (p : PlanTree) → Stood (AtomPlan i n p) → Stood p → (row : List Binding) → IsRowOver (Vars (AtomPlan i n p)) row
      → (x : Sym) → lists (part_variables part) x ≡ false → datum_at (restricted (Vars p) row) x ≡ datum_at row x
  unfolding bound_in
  outside i n p h below row over x out =
      elim (lists (Vars p) x) as (λ b. lists (Vars p) x ≡ b → datum_at (restricted (Vars p) row) x ≡ datum_at row x) [
        | true ↦ λ e. kept_at (Vars p) row x e
        | false ↦ λ e.
            let none_ = neither (lists (bound_by s.given) x) (lists (bound_in part p) x) (sym (vars_are p below x) ∙ e) in
            let own : lists (variables_if (atom_in part n)) x ≡ false =
            not_listed (lists (variables_if (atom_in part n)) x) (λ l. sym out ∙ atom_within (atoms_of part) n x l) in
            let whole : lists (Vars (AtomPlan i n p)) x ≡ false =
            vars_are (AtomPlan i n p) h x ∙ (λ j. none_.0 j || (lists_append (bound_in part p) (variables_if (atom_in part n)) x ∙ (λ k. none_.1 k || own k)) j) in
            dropped_at (Vars p) row x e ∙ sym (unlisted_unbound (Vars (AtomPlan i n p)) row over.over x whole)
      ] refl

  -- a chain has the rows of its atoms on which its conditions are true
  pub chain_rows : (p : PlanTree) → Stood p → (row : List Binding) → IsRowOfPlan s p row ↔ (IsRowOfPlan s (atoms_alone p) row × AllTrue p row)
  unfolding Stands IsRowOfPlan plan_variables atoms_alone AllTrue
  chain_rows UnitPlan h row = (λ r. (r, tt), λ r. r.0)
  chain_rows (AtomPlan i n p) h row = (
    λ r.
        let below = (chain_rows p h.2 (restricted (Vars p) row)).0 r.2 in
        let inner = restricted_over (Vars p) row r.0.ascends in (
          (
            subst (λ vars. IsRowOver (with_atom_if vars (atom_at s.block i n)) row) (sym (alone_vars p h.2)) r.0,
            r.1,
            subst (λ vars. IsRowOfPlan s (atoms_alone p) (restricted vars row)) (sym (alone_vars p h.2)) below.0,
          ),
          carried p h.2 (restricted (Vars p) row) row inner.ascends r.0.ascends (λ x l. kept_at (Vars p) row x l) (λ x o. outside i n p h h.2 row r.0 x o) below.1,
        ),
    λ r.
        let over : IsRowOver (Vars (AtomPlan i n p)) row = subst (λ vars. IsRowOver (with_atom_if vars (atom_at s.block i n)) row) (alone_vars p h.2) r.0.0 in
        let inner = restricted_over (Vars p) row over.ascends in (
          over,
          r.0.1,
          (chain_rows p h.2 (restricted (Vars p) row)).1 (
            subst (λ vars. IsRowOfPlan s (atoms_alone p) (restricted vars row)) (alone_vars p h.2) r.0.2,
            carried p h.2 row (restricted (Vars p) row) over.ascends inner.ascends (λ x l. sym (kept_at (Vars p) row x l)) (λ x o. sym (outside i n p h h.2 row over x o)) r.1,
          ),
        ),
  )
  chain_rows (FilterPlan i n ps p) h row = (
    λ r.
        let below = (chain_rows p h.3 row).0 r.1 in
        (below.0, ((true_by p h.3 n h.2 row r.1).0 (named r.0), below.1)),
    λ r.
        let rows = (chain_rows p h.3 row).1 (r.0, r.1.1) in
        (unnamed ((true_by p h.3 n h.2 row rows).1 r.1.0), rows),
  )
    where
      named : IsTrueBy s (λ queries answers. AreAnswersOf s.database ps row queries answers) row (conjunct_at s.block i n)
          → IsTrueBy s (λ queries answers. AreAnswersOf s.database (plans n) row queries answers) row (conjunct_in part n)
      named t =
          subst (λ qs. IsTrueBy s (λ queries answers. AreAnswersOf s.database qs row queries answers) row (conjunct_in part n)) h.1
          (subst (IsTrueBy s (λ queries answers. AreAnswersOf s.database ps row queries answers) row) (found_conjunct i n h.0) t)

      unnamed : IsTrueBy s (λ queries answers. AreAnswersOf s.database (plans n) row queries answers) row (conjunct_in part n)
          → IsTrueBy s (λ queries answers. AreAnswersOf s.database ps row queries answers) row (conjunct_at s.block i n)
      unnamed t =
          subst (IsTrueBy s (λ queries answers. AreAnswersOf s.database ps row queries answers) row) (sym (found_conjunct i n h.0))
          (subst (λ qs. IsTrueBy s (λ queries answers. AreAnswersOf s.database qs row queries answers) row (conjunct_in part n)) (sym h.1) t)
  chain_rows (JoinPlan a b) h row = elim h [ ]
  chain_rows (OuterPlan a b) h row = elim h [ ]

  -- each condition that a chain tests
  pub all_into : (p : PlanTree) → Stood p → (row : List Binding) → AllTrue p row → (n : ℕ) → tests p n ≡ true → MakesTrue s row (conjunct_in part n)
  unfolding Stands AllTrue tests
  all_into UnitPlan h row t n e = cc
  all_into (AtomPlan i k p) h row t n e = all_into p h.2 row t n e
  all_into (FilterPlan i k ps p) h row t n e =
      or_elim (k == n) (tests p n) e (λ q. subst (λ j. MakesTrue s row (conjunct_in part j)) (same_number k n q) t.0) (all_into p h.3 row t.1 n)
  all_into (JoinPlan a b) h row t n e = elim h [ ]
  all_into (OuterPlan a b) h row t n e = elim h [ ]

  pub all_back : (p : PlanTree) → Stood p → (row : List Binding) → ((n : ℕ) (c : Tree AConjunct) → conjunct_in part n ≡ Some c → IsTrue s.database (reads_of s.block) row c) → AllTrue p row
  unfolding Stands AllTrue
  all_back UnitPlan h row f = tt
  all_back (AtomPlan i k p) h row f = all_back p h.2 row f
  all_back (FilterPlan i k ps p) h row f = (one (conjunct_in part k) refl h.2, all_back p h.3 row f)
    where
      one : (o : Option (Tree AConjunct)) → conjunct_in part k ≡ o → ReadyOver part around p o → MakesTrue s row o
      one None e r = elim r [ ]
      one (Some c) e r = f k c e
  all_back (JoinPlan a b) h row f = elim h [ ]
  all_back (OuterPlan a b) h row f = elim h [ ]
