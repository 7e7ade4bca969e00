-- The variables of a recipe are distinct.
use Rattle.std.proofs.Common.{◌≡◌, ⊎_elim, ◌==◌, ◌||◌, ℕ, Bool, true, false, cond, List, [], ◌∷◌, ◌++◌, map, fold, refl, sym, ap, ◌∙◌, subst, arith}
use Rattle.std.specs.Cmp.{nat_eq_equiv}
use Rattle.std.specs.List.{AllByRecursion, Contains, filter, list_any}
use Rattle.std.proofs.lemmas.List.Elements.{Contains-append_cases}
use Rattle.gc_ast.specs.Trees as tree
use Rattle.gc_ast.specs.Trees.{Tree, ABasic}
use Rattle.gc_base.specs.declared.place.Sym.{Sym}
use Rattle.gc_build.specs.Fitting.{AreDistinct}
use Rattle.gc_build_reading.specs.Places.{places_of}
use Rattle.gc_build_reading.specs.Recipes.{makings_of, recipe_of}
use Rattle.gc_build_reading.specs.Variables.{is_of, match_at, variable_at}
use Rattle.gc_build_recipe.specs.declared.variable.Variable.{Variable}
use Rattle.gc_lower.specs.Scopes.{Scope}
use Rattle.gc_ppg.specs.declared.shape.Kind.{Kind}
use Rattle.gc_ppg.specs.declared.shape.Kind.TheVariants as kind
use Rattle.gc_rows.proofs.Members.{cons_cases, contains_here, contains_later, each_member, from_filter, of_member}

-- what is of two kinds is nothing
two_kinds : (k l : Kind) → is_of k l ≡ true → k ≡ l
two_kinds kind.Node kind.Node h = refl
two_kinds kind.Edge kind.Edge h = refl
two_kinds kind.Path kind.Path h = refl
two_kinds kind.Node kind.Edge h = absurd (cc h)
two_kinds kind.Node kind.Path h = absurd (cc h)
two_kinds kind.Edge kind.Node h = absurd (cc h)
two_kinds kind.Edge kind.Path h = absurd (cc h)
two_kinds kind.Path kind.Node h = absurd (cc h)
two_kinds kind.Path kind.Edge h = absurd (cc h)

-- the variables of items of which some come first, each kind apart
module _ {X : Type 0} (f : X → Variable) where
  abbrev number : X → ℕ
  number x = (f x).var.0

  abbrev kind_of : X → Kind
  kind_of x = (f x).kind

  abbrev first : List X → X → List X
  first firsts x = cond (list_any (λ y. number y == number x) firsts) firsts (firsts ++ x ∷ [])

  abbrev of : Kind → List X → List X
  of k xs = filter (λ x. is_of k (kind_of x)) xs

  abbrev same : X → X → Bool
  same p q = number q == number p

  -- places of different variables
  AreApart : List X → Type 0
  AreApart [] = Unit {0}
  AreApart (p ∷ ps) = AllByRecursion (λ q. same p q ≡ false) ps × AreApart ps

  any_not : (p : X) (ps : List X) → list_any (same p) ps ≡ false → AllByRecursion (λ q. same p q ≡ false) ps
  any_not p [] h = tt
  any_not p (q ∷ ps) h =
      elim (same p q) as (λ t. same p q ≡ t → (t || list_any (same p) ps) ≡ false → (same p q ≡ false) × AllByRecursion (λ r. same p r ≡ false) ps) [
        | true ↦ λ e k. absurd (cc k)
        | false ↦ λ e k. (e, any_not p ps k)
      ] refl h

  not_any : (p : X) (ps : List X) → AllByRecursion (λ q. same p q ≡ false) ps → list_any (same p) ps ≡ false
  not_any p [] h = refl
  not_any p (q ∷ ps) h = ap (λ b. b || list_any (same p) ps) h.0 ∙ not_any p ps h.1

  turned : (p q : X) → same p q ≡ false → same q p ≡ false
  turned p q h = nat_eq_equiv.symm (number p) (number q) ∙ h

  -- two lists whose places are apart
  appended : (ps qs : List X) → AreApart ps → AreApart qs → ((p q : X) → Contains ps p → Contains qs q → same p q ≡ false) → AreApart (ps ++ qs)
  unfolding AreApart
  appended [] qs a b f = b
  appended (p ∷ ps) qs a b f = (
    each_member (λ q. same p q ≡ false) (ps ++ qs)
        (λ q m. ⊎_elim (λ k. of_member (λ q. same p q ≡ false) ps q a.0 k) (λ k. f p q (contains_here p ps) k) (Contains-append_cases ps qs q m)),
    appended ps qs a.1 b (λ r q m n. f r q (contains_later p ps r m) n),
  )

  filtered : (t : X → Bool) (ps : List X) → AreApart ps → AreApart (filter t ps)
  unfolding AreApart
  filtered t [] a = tt
  filtered t (p ∷ ps) a =
      elim (t p) as (λ b. AreApart (cond b (p ∷ filter t ps) (filter t ps))) [
        | true ↦ (each_member _ (filter t ps) (λ q m. of_member (λ q. same p q ≡ false) ps q a.0 (from_filter t ps q m).0), filtered t ps a.1)
        | false ↦ filtered t ps a.1
      ]

  -- the first places of variables are apart
  one_first : (firsts : List X) (p : X) → AreApart firsts → AreApart (first firsts p)
  unfolding AreApart
  one_first firsts p a = by (list_any (same p) firsts) refl
    where
      alone : AreApart (p ∷ [])
      alone = (tt, tt)

      by : (t : Bool) → list_any (same p) firsts ≡ t → AreApart (cond t firsts (firsts ++ p ∷ []))
      by true e = a
      by false e =
          appended firsts (p ∷ []) a alone
          (λ r q m n. ⊎_elim
          (λ k. subst (λ x. same r x ≡ false) k (turned p r (of_member (λ q. same p q ≡ false) firsts r (any_not p firsts e) m)))
          (λ none. absurd (omega (arith, none.1))) (cons_cases p [] q n))

  all_first : (firsts places : List X) → AreApart firsts → AreApart (fold first firsts places)
  all_first firsts [] a = a
  all_first firsts (p ∷ places) a = all_first (first firsts p) places (one_first firsts p a)

  -- places of one variable are one
  one_place : (ps : List X) (p q : X) → AreApart ps → Contains ps p → Contains ps q → (same p q ≡ true) → p ≡ q
  unfolding AreApart
  one_place [] p q a m n h = absurd (omega (arith, m.1))
  one_place (r ∷ ps) p q a m n h =
      ⊎_elim
      (λ e. ⊎_elim
      (λ d. sym e ∙ d)
      (λ k. let no : same p q ≡ false = subst (λ x. same x q ≡ false) e (of_member (λ q. same r q ≡ false) ps q a.0 k) in absurd (cc (h, no)))
      (cons_cases r ps q n))
      (λ k. ⊎_elim
      (λ d. let no : same p q ≡ false = turned q p (subst (λ x. same x p ≡ false) d (of_member (λ q. same r q ≡ false) ps p a.0 k)) in absurd (cc (h, no)))
      (λ l. one_place ps p q a.1 k l h)
      (cons_cases r ps q n))
      (cons_cases r ps p m)

  module _ (ps : List X) (a : AreApart ps) where
    kinds_apart : (k l : Kind) → (k ≡ l → ⊥) → (p q : X) → Contains (of k ps) p → Contains (of l ps) q → same p q ≡ false
    kinds_apart k l differ p q m n =
        let of_p = from_filter (λ r. is_of k (kind_of r)) ps p m in
        let of_q = from_filter (λ r. is_of l (kind_of r)) ps q n in
        elim (same p q) as (λ t. same p q ≡ t → t ≡ false) [
          | true ↦ λ e.
              let one : p ≡ q = one_place ps p q a of_p.0 of_q.0 e in
              absurd (differ (two_kinds k (kind_of p) of_p.1 ∙ (ap kind_of one ∙ sym (two_kinds l (kind_of q) of_q.1))))
          | false ↦ λ e. refl
        ] refl

    by_kinds : AreApart (of kind.Node ps ++ of kind.Edge ps ++ of kind.Path ps)
    by_kinds =
        appended (of kind.Node ps ++ of kind.Edge ps) (of kind.Path ps)
        (appended (of kind.Node ps) (of kind.Edge ps) (filtered _ ps a) (filtered _ ps a) (kinds_apart kind.Node kind.Edge (λ e. absurd (cc e)))) (filtered _ ps a)
        (λ p q m n. ⊎_elim (λ k. kinds_apart kind.Node kind.Path (λ e. absurd (cc e)) p q k n) (λ k. kinds_apart kind.Edge kind.Path (λ e. absurd (cc e)) p q k n)
        (Contains-append_cases (of kind.Node ps) (of kind.Edge ps) p m))

  -- so are their variables
  variables_distinct : (ps : List X) → AreApart ps → AreDistinct (map f ps)
  unfolding AreApart
  variables_distinct [] a = tt
  variables_distinct (p ∷ ps) a = (over_map ps ∙ not_any p ps a.0, variables_distinct ps a.1)
    where
      over_map : (qs : List X) → list_any (λ w. w.var.0 == (f p).var.0) (map f qs) ≡ list_any (same p) qs
      over_map [] = refl
      over_map (q ∷ qs) = ap (λ b. same p q || b) (over_map qs)

  nothing_apart : AreApart []
  unfolding AreApart
  nothing_apart = tt

  pub distinct_firsts : (xs : List X) → AreDistinct (map f (of kind.Node (fold first [] xs) ++ of kind.Edge (fold first [] xs) ++ of kind.Path (fold first [] xs)))
  distinct_firsts xs = variables_distinct _ (by_kinds (fold first [] xs) (all_first [] xs nothing_apart))

pub recipe_distinct : (s : Scope) (bound : List Sym) (basic : Tree ABasic) → AreDistinct (recipe_of s bound basic).variables
recipe_distinct s bound (tree.Basic token items main optionals) = distinct_firsts (variable_at (makings_of s bound (match_at s token) items)) (places_of s items)
