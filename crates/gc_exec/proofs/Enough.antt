-- Which variables an atom has to know of to extend the rows of a plan: those that a row leaves unbound.
use Rattle.std.proofs.Common.{◌≡◌, ◌↔◌, ◌==◌, ◌||◌, true, false, Bool, List, [], ◌∷◌, Option, None, Some, is_some, cond, refl, sym, ap, ◌∙◌, subst, if◌then◌else◌}
use Rattle.std.specs.Option.{option_and_then}
use Rattle.std.specs.Ordering.{is_eq}
use Rattle.gc_base.specs.declared.place.Sym.{Sym}
use Rattle.gc_rows.specs.Algebra.{restricted}
use Rattle.gc_rows.specs.Data.{datum_order}
use Rattle.gc_rows.specs.Rows.{IsRow, bind, datum_at, lists}
use Rattle.gc_rows.specs.declared.datum.Datum.{Datum}
use Rattle.gc_rows.specs.declared.row.Binding.{Binding}
use Rattle.gc_rows.proofs.UnionLaws.{bound_at}
use Rattle.gc_automata.specs.Moves.{Network}
use Rattle.gc_alg.specs.Blocks.{bound_by, with_atom}
use Rattle.gc_alg.specs.Instances.{MeetsIn, variables_of}
use Rattle.gc_alg.specs.Matches.{Setting, MeetsAtom, atom_at, with_atom_if}
use Rattle.gc_alg.specs.Networks.{network_of}
use Rattle.gc_alg.specs.Plans.{PlanTree, UnitPlan, AtomPlan, FilterPlan, JoinPlan, OuterPlan, IsRowOfPlan, plan_variables}
use Rattle.gc_alg.specs.declared.atom.Atom.{Atom}
use Rattle.gc_alg.specs.declared.atom.AtomWhat.{AtomWhat}
use Rattle.gc_alg.proofs.Own.{has_itself}
use Rattle.gc_alg.proofs.Restrictions.{kept_at}
use Rattle.gc_alg.proofs.Schemas.{has_bound, instance_binds, with_atom_listed}
use Rattle.gc_exec.specs.Extensions.{IsMadeBy, bound_beside, with_bindings}
use Rattle.gc_exec.specs.Pipelines.{IsEnough, is_chain}

-- what a row with one more binding leaves unbound, the row does
unbound_before : (row : List Binding) (b : Binding) (x : Sym) → datum_at (bind row b) x ≡ None → datum_at row x ≡ None
unbound_before row b x h = here (b.var.0 == x.0) (sym (bound_at row b x) ∙ h)
  where
    here : (t : Bool) → cond t (Some b.datum) (datum_at row x) ≡ None → datum_at row x ≡ None
    here true e = cc
    here false e = e

-- the other bindings beside what the first made
abbrev then_with : List Sym → List Binding → Option (List Binding) → Option (List Binding)
then_with schema more o = option_and_then (λ r. with_bindings schema r more) o

module _ (a b : List Sym) where
  kept_alike : (row more : List Binding) → with_bindings a row more ≡ with_bindings b row more → (t : Bool) → then_with a more (if t then Some row else None) ≡ then_with b more (if t then Some row else None)
  kept_alike row more e true = e
  kept_alike row more e false = refl

  added_alike : (row more : List Binding) → with_bindings a row more ≡ with_bindings b row more → (t : Bool) → then_with a more (if t then None else Some row) ≡ then_with b more (if t then None else Some row)
  added_alike row more e true = refl
  added_alike row more e false = e

  one_alike : (row more : List Binding) (one : Binding) → with_bindings a row more ≡ with_bindings b row more → with_bindings a (bind row one) more ≡ with_bindings b (bind row one) more
      → (o : Option Datum) → (o ≡ None → lists a one.var ≡ lists b one.var) → then_with a more (bound_beside a o row one) ≡ then_with b more (bound_beside b o row one)
  one_alike row more one kept added None listed = added_alike (bind row one) more added (lists a one.var) ∙ ap (λ t. then_with b more (if t then None else Some (bind row one))) (listed refl)
  one_alike row more one kept added (Some d) listed = kept_alike row more kept (is_eq (datum_order d one.datum))

  -- schemas that list the same of what a row leaves unbound let it have the same bindings
  same_with : (row bindings : List Binding) → ((x : Sym) → datum_at row x ≡ None → lists a x ≡ lists b x) → with_bindings a row bindings ≡ with_bindings b row bindings
  same_with row [] h = refl
  same_with row (one ∷ more) h =
      one_alike row more one (same_with row more h) (same_with (bind row one) more (λ x n. h x (unbound_before row one x n))) (datum_at row one.var) (h one.var)

  pub made_alike : (row : List Binding) (Instance : List Binding → Type 0) (u : List Binding) → ((x : Sym) → datum_at row x ≡ None → lists a x ≡ lists b x) → IsMadeBy a row Instance u ↔ IsMadeBy b row Instance u
  made_alike row Instance u h = (λ m. (m.0, m.1, sym (same_with row m.0 h) ∙ m.2), λ m. (m.0, m.1, same_with row m.0 h ∙ m.2))

-- a row that meets an atom binds its variables
met_binds : (network : Option Network) (what : AtomWhat) (row : List Binding) → MeetsIn network what row → (x : Sym) → lists (variables_of what) x ≡ true → is_some (datum_at row x) ≡ true
met_binds None what row m x l = absurd m
met_binds (Some network) what row m x l = has_bound row m.instance x m.holds (ap (λ vars. lists vars x) (instance_binds network what m.instance m.there) ∙ l)

module _ (s : Setting) where
  -- variables of a plan, and of an atom over it that a row meets
  either_binds : (vars : List Sym) (a : Atom) (row : List Binding) (x : Sym) → (lists vars x ≡ true → is_some (datum_at row x) ≡ true) → MeetsAtom s row (Some a)
      → (t : Bool) → lists vars x ≡ t → (t || lists (variables_of a.what) x) ≡ true → is_some (datum_at row x) ≡ true
  either_binds vars a row x below m true e k = below e
  either_binds vars a row x below m false e k = met_binds (network_of s.database a) a.what row m x k

  atom_binds : (vars : List Sym) (o : Option Atom) (row : List Binding) (x : Sym) → (lists vars x ≡ true → is_some (datum_at row x) ≡ true) → MeetsAtom s row o → lists (with_atom_if vars o) x ≡ true → is_some (datum_at row x) ≡ true
  atom_binds vars None row x below m k = absurd m
  atom_binds vars (Some a) row x below m k = either_binds vars a row x below m (lists vars x) refl (sym (with_atom_listed vars a x) ∙ k)

  -- a row of a plan of atoms and filters alone binds all variables of the plan
  chain_binds : IsRow s.given → (p : PlanTree) → is_chain p ≡ true → (row : List Binding) → IsRowOfPlan s p row → (x : Sym) → lists (plan_variables s p) x ≡ true → is_some (datum_at row x) ≡ true
  unfolding is_chain IsRowOfPlan plan_variables
  chain_binds up UnitPlan c row h x l = subst (λ (r : List Binding). is_some (datum_at r x) ≡ true) (sym h) (has_bound s.given s.given x (has_itself s.given up) l)
  chain_binds up (AtomPlan part atom p) c row h x l =
      let vars = plan_variables s p in
      atom_binds vars (atom_at s.block part atom) row x (λ e. ap is_some (sym (kept_at vars row x e)) ∙ chain_binds up p c (restricted vars row) h.2 x e) h.1 l
  chain_binds up (FilterPlan part conjunct plans p) c row h x l = chain_binds up p c row h.1 x l
  chain_binds up (JoinPlan p q) c row h x l = cc
  chain_binds up (OuterPlan p q) c row h x l = cc

  -- so an atom over it has to know of none, and over another plan all of them are enough
  pub chain_enough : IsRow s.given → (p : PlanTree) → is_chain p ≡ true → IsEnough s p []
  chain_enough up p c = λ row h x none. here row h x none (lists (plan_variables s p) x) refl
    where
      here : (row : List Binding) → IsRowOfPlan s p row → (x : Sym) → datum_at row x ≡ None → (t : Bool) → lists (plan_variables s p) x ≡ t → false ≡ t
      here row h x none true e = let some = chain_binds up p c row h x e in cc
      here row h x none false e = refl

  pub all_enough : (p : PlanTree) (schema : List Sym) → schema ≡ plan_variables s p → IsEnough s p schema
  all_enough p schema e = λ row h x none. ap (λ (vars : List Sym). lists vars x) e
