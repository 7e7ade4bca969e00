-- In a MATCH that breaks no rule a name has one sort, and that of a walk stands at one place.
use Rattle.std.proofs.Common.{◌≡◌, ◌⊎◌, inl, inr, ⊎_elim, ℕ, zero, suc, ◌&&◌, ◌||◌, Bool, true, false, cond, not, List, [], ◌∷◌, Option, None, Some, refl, sym, ap, ◌∙◌, subst, arith}
use Rattle.std.specs.Prelude.{nat_eq}
use Rattle.std.specs.List.{Contains}
use Rattle.std.specs.Option.{option_map}
use Rattle.std.specs.Cmp.Lexicographic.{bytes_decides}
use Rattle.std.proofs.lemmas.Bool.{eqb-true}
use Rattle.std.proofs.lemmas.Option.{none-some, same_Some}
use Rattle.gc_ast.specs.Names.{same_name}
use Rattle.gc_lower.specs.Scopes.{is_found_sort}
use Rattle.gc_rows.proofs.Members.{cons_cases, contains_here, contains_later}
use Rattle.gc_sorts.specs.Breaches.{broken, broken_if, none}
use Rattle.gc_sorts.specs.declared.breach.SortRule.TheVariants.{SortClash, TwiceBound}
use Rattle.gc_sorts.specs.Matches.{beside, later_place, place_breaches, same_sort, sort_number, stands_once}
use Rattle.gc_sorts.specs.Variables.{Use, first_sort, first_use, has_cost, is_property, is_single, sort_of}
use Rattle.gc_sorts.specs.declared.sort.Role.{Role}
use Rattle.gc_sorts.specs.declared.sort.Role.TheVariants as role
use Rattle.gc_sorts.specs.declared.sort.Sort.{Sort}
use Rattle.gc_sorts.specs.declared.sort.Sort.TheVariants as sort
use Rattle.gc_query.proofs.SearchedAtoms.{IsUnbroken, not_broken}

-- the first place of a name is one of the places
pub first_there : (uses : List Use) (name : List ℕ) (f : Use) → first_use uses name ≡ Some f → Contains uses f × (f.name ≡ name)
first_there [] name f h = absurd (none-some f h)
first_there (u ∷ us) name f h =
    elim (same_name name u.name) as (λ b. same_name name u.name ≡ b → cond b (Some u) (first_use us name) ≡ Some f → Contains (u ∷ us) f × (f.name ≡ name)) [
      | true ↦ λ t k. let same = same_Some u f k in (subst (Contains (u ∷ us)) same (contains_here u us), ap (λ (w : Use). w.name) (sym same) ∙ sym ((bytes_decides name u.name).0 t))
      | false ↦ λ t k. let rest = first_there us name f k in (contains_later u us f rest.0, rest.1)
    ] refl h

-- and where a name has a place it has a first one
pub has_first : (uses : List Use) (u : Use) → Contains uses u → (f : Use) × (first_use uses u.name ≡ Some f)
has_first [] u m = absurd (omega (arith, m.1))
has_first (v ∷ us) u m =
    elim (same_name u.name v.name) as (λ b. same_name u.name v.name ≡ b → (f : Use) × (cond b (Some v) (first_use us u.name) ≡ Some f)) [
      | true ↦ λ t. (v, refl)
      | false ↦ λ t. ⊎_elim
          (λ e. absurd (cc (t, (bytes_decides u.name v.name).1 (ap (λ (w : Use). w.name) (sym e)))))
          (λ k. has_first us u k)
          (cons_cases v us u m)
    ] refl

-- a sort has a number of its own
abbrev of_number : ℕ → Sort
of_number zero = sort.Node
of_number (suc zero) = sort.Edge
of_number (suc (suc zero)) = sort.Stored
of_number (suc (suc (suc zero))) = sort.Found
of_number (suc (suc (suc (suc zero)))) = sort.All
of_number (suc (suc (suc (suc (suc n))))) = sort.Value

number_of : (a : Sort) → of_number (sort_number a) ≡ a
number_of sort.Node = refl
number_of sort.Edge = refl
number_of sort.Stored = refl
number_of sort.Found = refl
number_of sort.All = refl
number_of sort.Value = refl

one_sort : (a b : Sort) → same_sort a b ≡ true → a ≡ b
one_sort a b h = sym (number_of a) ∙ ap of_number (eqb-true (sort_number a) (sort_number b) h) ∙ number_of b

-- a name of the sort of a found walk has its first place in a found path pattern
found_role : (r : Role) → is_found_sort (Some (sort_of r)) ≡ true → r ≡ role.Found
found_role role.Node h = absurd (cc h)
found_role role.Edge h = absurd (cc h)
found_role role.Stored h = absurd (cc h)
found_role role.Found h = refl
found_role role.All h = absurd (cc h)
found_role role.Property h = absurd (cc h)
found_role role.Cost h = absurd (cc h)

abbrev is_found_at : Option Use → Bool
is_found_at first = is_found_sort (option_map (λ (u : Use). sort_of u.role) first)

pub found_use : (uses : List Use) (name : List ℕ) → is_found_sort (first_sort uses name) ≡ true → (f : Use) × (first_use uses name ≡ Some f) × (f.role ≡ role.Found)
found_use uses name h = by (first_use uses name) refl
  where
    by : (first : Option Use) → first_use uses name ≡ first → (f : Use) × (first_use uses name ≡ Some f) × (f.role ≡ role.Found)
    by None is = absurd (cc (sym (ap is_found_at is) ∙ h))
    by (Some f) is = (f, is, found_role f.role (sym (ap is_found_at is) ∙ h))

-- whether a place is that of a walk that is looked for
abbrev pub is_walk_role : Role → Bool
is_walk_role role.Found = true
is_walk_role role.All = true
is_walk_role other = false

walk_single : (a b : Role) → is_walk_role b ≡ true → sort_of a ≡ sort_of b → is_single a ≡ true
walk_single role.Found b w h = refl
walk_single role.All b w h = refl
walk_single role.Cost b w h = refl
walk_single role.Node role.Found w h = absurd (cc h)
walk_single role.Node role.All w h = absurd (cc h)
walk_single role.Edge role.Found w h = absurd (cc h)
walk_single role.Edge role.All w h = absurd (cc h)
walk_single role.Stored role.Found w h = absurd (cc h)
walk_single role.Stored role.All w h = absurd (cc h)
walk_single role.Property role.Found w h = absurd (cc h)
walk_single role.Property role.All w h = absurd (cc h)
walk_single a role.Node w h = absurd (cc w)
walk_single a role.Edge w h = absurd (cc w)
walk_single a role.Stored w h = absurd (cc w)
walk_single a role.Property w h = absurd (cc w)
walk_single a role.Cost w h = absurd (cc w)

-- a place beside the first one is the same, or of the same sort where the first may have others
later_fits : (uses : List Use) (f u : Use) → IsUnbroken (later_place uses f u) → (f.token ≡ u.token) ⊎ ((stands_once uses f ≡ false) × (sort_of f.role ≡ sort_of u.role))
later_fits uses f u h = by (nat_eq f.token u.token) refl h
  where
    sorts : (b : Bool) → same_sort (sort_of f.role) (sort_of u.role) ≡ b → not b ≡ false → sort_of f.role ≡ sort_of u.role
    sorts true is n = one_sort (sort_of f.role) (sort_of u.role) is
    sorts false is n = absurd (cc n)

    others : (b : Bool) → stands_once uses f ≡ b
        → IsUnbroken (cond b (broken TwiceBound u.token)
        (broken_if (not (same_sort (sort_of f.role) (sort_of u.role))) SortClash u.token))
        → (f.token ≡ u.token) ⊎ ((stands_once uses f ≡ false) × (sort_of f.role ≡ sort_of u.role))
    others true is k = absurd k
    others false is k = inr (is, sorts (same_sort (sort_of f.role) (sort_of u.role)) refl (not_broken (not (same_sort (sort_of f.role) (sort_of u.role))) _ u.token k))

    by : (b : Bool) → nat_eq f.token u.token ≡ b
        → IsUnbroken (cond b none (cond (stands_once uses f) (broken TwiceBound u.token)
        (broken_if (not (same_sort (sort_of f.role) (sort_of u.role))) SortClash u.token)))
        → (f.token ≡ u.token) ⊎ ((stands_once uses f ≡ false) × (sort_of f.role ≡ sort_of u.role))
    by true is k = inl (eqb-true f.token u.token is)
    by false is k = others (stands_once uses f) refl k

-- places of a MATCH, of which no two have one token, and which break no rule
module _ (uses : List Use) (one : (u v : Use) → Contains uses u → Contains uses v → u.token ≡ v.token → u ≡ v) (h : (u : Use) → Contains uses u → IsUnbroken (place_breaches uses u)) where
  first_fits : (u : Use) → Contains uses u → (f : Use) → first_use uses u.name ≡ Some f → (f ≡ u) ⊎ ((stands_once uses f ≡ false) × (sort_of f.role ≡ sort_of u.role))
  first_fits u m f is =
      ⊎_elim (λ t. inl (one f u (first_there uses u.name f is).0 m t)) inr
      (later_fits uses f u (subst (λ (o : Option Use). IsUnbroken (beside uses o u)) is (h u m)))

  -- each place of a name is of the sort of the first one
  pub sort_same : (u : Use) → Contains uses u → (f : Use) → first_use uses u.name ≡ Some f → sort_of f.role ≡ sort_of u.role
  sort_same u m f is = ⊎_elim (λ e. ap (λ (w : Use). sort_of w.role) e) (λ k. k.1) (first_fits u m f is)

  once_true : (f : Use) → is_single f.role ≡ true → stands_once uses f ≡ true
  once_true f s = ap (λ b. b || (is_property f.role && has_cost uses f.name)) s

  -- the name of a walk has no other place
  pub walk_alone : (u v : Use) → Contains uses u → Contains uses v → is_walk_role u.role ≡ true → v.name ≡ u.name → v ≡ u
  walk_alone u v m n w same =
      let f = has_first uses u m in
      let own = first_fits u m f.0 f.1 in
      let is : f.0 ≡ u = ⊎_elim (λ e. e) (λ k. absurd (cc (k.0, once_true f.0 (walk_single f.0.role u.role w k.1)))) own in
      ⊎_elim
      (λ e. sym e ∙ is)
      (λ k. absurd (cc (k.0, once_true f.0 (walk_single f.0.role u.role w (ap (λ (x : Use). sort_of x.role) is)))))
      (first_fits v n f.0 (ap (first_use uses) same ∙ f.1))
