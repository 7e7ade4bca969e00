-- What the assignments give to an element is what it is described with.
use Rattle.std.proofs.Common.{◌≡◌, refl, sym, ap, ◌∙◌, subst, ℕ, ◌==◌, ◌<◌, Bool, true, false, cond, List, [], ◌∷◌, length, get_or, map, fold, replicate, Some, slice_get, suc, arith}
use Rattle.std.specs.List.{filter, find}
use Rattle.std.specs.Option.{unwrap_or, option_map}
use Rattle.std.proofs.lemmas.Bool.{eqb-true}
use Rattle.std.proofs.lemmas.Option.{slice_get-map, slice_get-get_or}
use Rattle.gc_base.specs.PropertyLists.{put}
use Rattle.gc_base.specs.declared.place.Sym.{Sym}
use Rattle.gc_build_numbers.specs.Settings.{Setting}
use Rattle.gc_build_numbers.specs.declared.numbered.Element.{Element}
use Rattle.gc_build_numbers.specs.declared.numbered.Numbered.{Numbered}
use Rattle.gc_build_recipe.specs.Recipes.{Assignment, Recipe}
use Rattle.gc_build_recipe.specs.declared.variable.Variable.{Variable}
use Rattle.gc_values.specs.Descriptions.{Description}
use Rattle.gc_build_descriptions.specs.Described.{described, of_variable, start_of, with_assigned, with_label, without_label, without_property}
use Rattle.gc_build_descriptions.specs.Faults.{elements_of, listed_elements}
use Rattle.gc_build_descriptions.specs.Givens.{Given, described_with, given, given_to, with_given}
use Rattle.gc_build_descriptions.specs.Said.{AreChanges, changed, said_of}
use Rattle.gc_build_descriptions.specs.declared.said.Changes.{Changes}
use Rattle.gc_build_descriptions.specs.declared.said.Said.{Said}

-- a fold over some of a list, as one over what they are mapped to
fold_of_mapped : {A B C : Type 0} (f : C → B → C) (g : C → A → C) (h : A → B) (p : B → Bool)
    → ((c : C) (x : A) → p (h x) ≡ true → f c (h x) ≡ g c x)
    → (c : C) (xs : List A) → fold f c (filter p (map h xs)) ≡ fold g c (filter (λ x. p (h x)) xs)
fold_of_mapped f g h p same c [] = refl
fold_of_mapped f g h p same c (x ∷ xs) =
    elim (p (h x)) as (λ t. p (h x) ≡ t → fold f c (cond t (h x ∷ filter p (map h xs)) (filter p (map h xs))) ≡ fold g c (cond t (x ∷ filter (λ y. p (h y)) xs) (filter (λ y. p (h y)) xs))) [
      | true ↦ λ t. ap (λ d. fold f d (filter p (map h xs))) (same c x t) ∙ fold_of_mapped f g h p same (g c x) xs
      | false ↦ λ t. fold_of_mapped f g h p same c xs
    ] refl

-- what an assignment gives to the element at a place
given_at : (s : Setting) (variables : List Numbered) (a : Assignment) (x : Sym) (place : ℕ) (e : Element)
    → (a.var.0 == x.0) ≡ true → place < length (elements_of variables x) → e ≡ get_or (elements_of variables x) place e
    → unwrap_or (slice_get (map (given_to s a) (elements_of variables a.var)) place) [] ≡ given_to s a e
given_at s variables a x place e t h i =
    let own : elements_of variables a.var ≡ elements_of variables x = ap (λ n. listed_elements (find (λ v. v.var.0 == n) variables)) (eqb-true a.var.0 x.0 t) in
    let there : slice_get (elements_of variables x) place ≡ Some e = slice_get-get_or (elements_of variables x) place e h ∙ ap Some (sym i) in
    ap (λ es. unwrap_or (slice_get (map (given_to s a) es) place) []) own
    ∙ ap (λ o. unwrap_or o []) (slice_get-map (given_to s a) (elements_of variables x) place ∙ ap (option_map (given_to s a)) there)

described_at : (s : Setting) (r : Recipe) (variables : List Numbered) (v : Variable) (place : ℕ) (e : Element)
    → place < length (elements_of variables v.var) → e ≡ get_or (elements_of variables v.var) place e
    → described_with s r (map (given s variables) r.assignments) v place e ≡ described s r v e
described_at s r variables v place e h i =
    ap (λ d. fold without_property (fold without_label d (of_variable (λ l. l.var) v.var r.lost_labels)) (of_variable (λ p. p.var) v.var r.lost_properties))
    (fold_of_mapped (with_given place) (with_assigned s e.group.rows) (given s variables) (λ g. g.var.0 == v.var.0)
    (λ d a t. ap (λ values. record d { properties = put d.properties (record { name = a.property; values = values }) }) (given_at s variables a v.var place e t h i))
    (fold with_label (start_of s v.start e.group.rows) (of_variable (λ l. l.var) v.var r.labels)) r.assignments)

described_so : (s : Setting) (r : Recipe) (variables : List Numbered) (givens : List Given) (v : Variable) (elements : List Element) (place : ℕ) (e : Element) (d : Description)
    → givens ≡ map (given s variables) r.assignments → elements ≡ elements_of variables v.var → place < length elements → e ≡ get_or elements place e
    → d ≡ described_with s r givens v place e → d ≡ described s r v e
described_so s r variables givens v elements place e d g own h i so =
    so
    ∙ ap (λ gs. described_with s r gs v place e) g
    ∙ described_at s r variables v place e (subst (λ es. place < length es) own h) (i ∙ ap (λ es. get_or es place e) own)

-- what is done to an element of a variable is what is said of the variable
done_so : (s : Setting) (r : Recipe) (givens : List Given) (v : Variable) (place : ℕ) (e : Element) (said : Said) (c : Changes)
    → said ≡ said_of r givens → AreChanges said v.var c
    → changed place c (start_of s v.start e.group.rows) ≡ described_with s r givens v place e
done_so s r givens v place e said c so are =
    (λ i. fold without_property
    (fold without_label
    (fold (with_given place)
    (fold with_label (start_of s v.start e.group.rows) (are.labels i))
    (are.givens i))
    (are.lost_labels i))
    (are.lost_properties i))
    ∙ (λ i. described_with s (record r { labels = (so i).labels; lost_labels = (so i).lost_labels; lost_properties = (so i).lost_properties }) (so i).givens v place e)

pub described_by : (s : Setting) (r : Recipe) (variables : List Numbered) (v : Variable) (elements : List Element) (place : ℕ) (e : Element) (d : Description)
    (said : Said) (c : Changes)
    → said ≡ said_of r (map (given s variables) r.assignments) → AreChanges said v.var c
    → elements ≡ elements_of variables v.var → place < length elements → e ≡ get_or elements place e
    → d ≡ changed place c (start_of s v.start e.group.rows) → d ≡ described s r v e
described_by s r variables v elements place e d said c so are own h i is =
    let givens = map (given s variables) r.assignments in
    described_so s r variables givens v elements place e d refl own h i (is ∙ done_so s r givens v place e said c so are)

-- where all that is done comes to the same, all elements have that description
all_same : {X Y : Type 0} (f : X → Y) (y : Y) (xs : List X) → ((i : ℕ) (x : X) → i < length xs → x ≡ get_or xs i x → y ≡ f x) → replicate (length xs) y ≡ map f xs
all_same f y [] same = refl
all_same f y (x ∷ xs) same = λ j. same 0 x (omega arith) refl j ∷ all_same f y xs (λ i z h e. same (suc i) z (let l : suc i < suc (length xs) = omega (arith, h) in l) e) j

pub all_alike : (s : Setting) (r : Recipe) (variables : List Numbered) (v : Variable) (elements : List Element) (d : Description)
    (said : Said) (c : Changes)
    → said ≡ said_of r (map (given s variables) r.assignments) → AreChanges said v.var c
    → elements ≡ elements_of variables v.var
    → ((place : ℕ) → (rows : List ℕ) → changed place c (start_of s v.start rows) ≡ d)
    → replicate (length elements) d ≡ map (described s r v) (elements_of variables v.var)
all_alike s r variables v elements d said c so are own same =
    all_same (described s r v) d elements (λ place e h i. described_by s r variables v elements place e d said c so are own h i (sym (same place e.group.rows)))
    ∙ ap (map (described s r v)) own
