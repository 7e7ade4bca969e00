-- The variables of a plan in the order of a table.
use Rattle.std.proofs.Common.{◌≡◌, ◌==◌, ◌||◌, ◌&&◌, true, false, not, cond, Bool, List, [], ◌∷◌, refl, sym, ap, ◌∙◌, subst}
use Rattle.std.specs.List.{AllByRecursion, filter}
use Rattle.gc_base.proofs.Search.{AllByRecursion-weaker}
use Rattle.gc_base.specs.declared.place.Sym.{Sym}
use Rattle.gc_rows.specs.Arrays.{is_distinct}
use Rattle.gc_rows.specs.Rows.{IsOver, IsRow, lists}
use Rattle.gc_rows.specs.Tables.{IsRowOver, Relation}
use Rattle.gc_rows.specs.declared.row.Binding.{Binding}
use Rattle.gc_rows.proofs.Members.{each_member}
use Rattle.gc_alg.specs.Matches.{Setting}
use Rattle.gc_alg.specs.Plans.{PlanTree, IsRowOfPlan, plan_variables}
use Rattle.gc_alg.specs.Tables.{table_schema}
use Rattle.gc_exec.specs.Found.{AreExactly}
use Rattle.gc_exec.specs.Sources.{HasGathered}
use Rattle.gc_exec.proofs.Gathering.{over_gathered}
use Rattle.gc_exec.proofs.Listed.{same_number}
use Rattle.gc_exec.proofs.Starting.{plan_row_over}
use Rattle.gc_exec.proofs.TableSchemas.{plan_listed}

-- what a list lacks, what is kept of it lacks
lacked : (p : Sym → Bool) (xs : List Sym) (x : Sym) → lists xs x ≡ false → lists (filter p xs) x ≡ false
lacked p [] x h = refl
lacked p (y ∷ xs) x h = here (p y) (y.0 == x.0) refl h (λ k. lacked p xs x k)
  where
    here : (t u : Bool) → (y.0 == x.0) ≡ u → (u || lists xs x) ≡ false → (lists xs x ≡ false → lists (filter p xs) x ≡ false) → lists (cond t (y ∷ filter p xs) (filter p xs)) x ≡ false
    here true true e k rest = cc
    here true false e k rest = ap (λ v. v || lists (filter p xs) x) e ∙ rest k
    here false true e k rest = cc
    here false false e k rest = rest k

-- what is kept of distinct variables is distinct
pub kept_distinct : (p : Sym → Bool) (xs : List Sym) → is_distinct xs ≡ true → is_distinct (filter p xs) ≡ true
kept_distinct p [] h = refl
kept_distinct p (x ∷ xs) h = here (p x) (lists xs x) refl h (λ k. kept_distinct p xs k)
  where
    here : (t u : Bool) → lists xs x ≡ u → (not u && is_distinct xs) ≡ true → (is_distinct xs ≡ true → is_distinct (filter p xs) ≡ true) → is_distinct (cond t (x ∷ filter p xs) (filter p xs)) ≡ true
    here t true e k rest = cc
    here true false e k rest = ap (λ v. not v && is_distinct (filter p xs)) (lacked p xs x e) ∙ rest k
    here false false e k rest = rest k

-- a variable of an order that is among others is kept
pub kept_listed : (vars order : List Sym) (x : Sym) → lists vars x ≡ true → lists order x ≡ true → lists (filter (λ y. lists vars y) order) x ≡ true
kept_listed vars [] x v l = cc
kept_listed vars (y ∷ order) x v l = here (y.0 == x.0) (lists vars y) refl refl l (λ k. kept_listed vars order x v k)
  where
    here : (u t : Bool) → (y.0 == x.0) ≡ u → lists vars y ≡ t → (u || lists order x) ≡ true → (lists order x ≡ true → lists (filter (λ z. lists vars z) order) x ≡ true)
        → lists (cond t (y ∷ filter (λ z. lists vars z) order) (filter (λ z. lists vars z) order)) x ≡ true
    here true true e f k rest = ap (λ w. w || lists (filter (λ z. lists vars z) order) x) e
    here true false e f k rest = let there : lists vars y ≡ true = subst (λ n. lists vars (record { 0 = n }) ≡ true) (sym (same_number y.0 x.0 e)) v in cc
    here false true e f k rest = ap (λ w. w || lists (filter (λ z. lists vars z) order) x) e ∙ rest k
    here false false e f k rest = rest k

module _ (s : Setting) where
  -- all rows of a plan, in an array over its variables in the order of the table
  pub all_in_order : IsRow s.given → (p : PlanTree) (schema : List Sym) (old new : Relation) → schema ≡ filter (λ x. lists (plan_variables s p) x) (table_schema s) → old ≡ record { schema = schema; rows = [] }
      → HasGathered (AreExactly (IsRowOfPlan s p)) old new → AreExactly (IsRowOfPlan s p) new.rows
  all_in_order up p schema old new e empty all =
      let over : AllByRecursion (IsOver schema) all.given = each_member (IsOver schema) all.given (λ u m.
      AllByRecursion-weaker _ _ (λ b l. ap (λ (xs : List Sym). lists xs b.var) e ∙ kept_listed (plan_variables s p) (table_schema s) b.var l (plan_listed s p b.var l)) u (plan_row_over s up p u (all.gives.sound u m)).over) in
      subst (λ (r : Relation). AreExactly (IsRowOfPlan s p) r.rows) (sym (over_gathered _ schema old new all empty over)) all.gives
