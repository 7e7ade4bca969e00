-- What a CONSTRUCT claims is one thing.
use Rattle.std.proofs.Common.{◌≡◌, ℕ, List, [], ◌∷◌, map, sym, ap, ◌∙◌, subst, refl}
use Rattle.std.specs.Cmp.{nat_cmp_total}
use Rattle.std.specs.List.{AllByRecursion}
use Rattle.std.specs.Ordering.{nat_cmp}
use Rattle.gc_reach.specs.Reached.{AreThose}
use Rattle.gc_rows.proofs.AscendingLists.{same_ascending}
use Rattle.gc_rows.proofs.Members.{of_member}
use Rattle.gc_build_numbers.specs.Settings.{Setting}
use Rattle.gc_build_recipe.specs.Recipes.{Chain, Recipe}
use Rattle.gc_sets.specs.Claims.{Claims}
use Rattle.gc_build.specs.AllPaths.{AreAllParts, AreParts, Patterns}
use Rattle.gc_build.specs.Claimed.{AreClaims, all_claims}
use Rattle.gc_build.specs.Constructed.{AreDue, making}
use Rattle.gc_build.specs.Kept.{Kept}
use Rattle.gc_build.specs.Makings.{Making}
use Rattle.gc_build.specs.declared.all_paths.AllParts.{AllParts}

-- exactly those of which something holds are one list
one_list : (P : ℕ → Type 0) (xs ys : List ℕ) → AreThose P xs → AreThose P ys → xs ≡ ys
one_list P xs ys h k =
    same_ascending nat_cmp nat_cmp_total xs ys h.ascend k.ascend
    (λ id m. k.complete id (of_member P xs id h.sound m)) (λ id m. h.complete id (of_member P ys id k.sound m))

module _ (ps : Patterns) (m : Making) where
  module _ (kept : List Kept) where
    one_of_path : (a b : AllParts) → a.path ≡ b.path → AreParts ps m kept a → AreParts ps m kept b → a ≡ b
    one_of_path a b e h k =
        let there : AreParts ps m kept (record b { path = a.path }) = subst (λ p. AreParts ps m kept (record b { path = p })) (sym e) k in
        let nodes : a.nodes ≡ b.nodes = one_list _ a.nodes b.nodes h.nodes there.nodes in
        let edges : a.edges ≡ b.edges = one_list _ a.edges b.edges h.edges there.edges in
        λ i. record { path = e i; nodes = nodes i; edges = edges i }

    one_each : (xs ys : List AllParts) → map (λ a. a.path) xs ≡ map (λ a. a.path) ys → AllByRecursion (AreParts ps m kept) xs → AllByRecursion (AreParts ps m kept) ys → xs ≡ ys
    one_each [] [] e h k = refl
    one_each [] (y ∷ ys) e h k = absurd (cc)
    one_each (x ∷ xs) [] e h k = absurd (cc)
    one_each (x ∷ xs) (y ∷ ys) e h k =
        let first : x.path ≡ y.path = cc in
        let rest : map (λ (a : AllParts). a.path) xs ≡ map (λ (a : AllParts). a.path) ys = cc in
        λ i. one_of_path x y first h.0 k.0 i ∷ one_each xs ys rest h.1 k.1 i

    one_parts : (xs ys : List AllParts) → AreAllParts ps m kept xs → AreAllParts ps m kept ys → xs ≡ ys
    one_parts xs ys h k = one_each xs ys (h.paths ∙ sym k.paths) h.each k.each

  pub one_claims : (chains : List Chain) (graphs : List ℕ) (c d : Claims) → AreClaims ps m chains graphs c → AreClaims ps m chains graphs d → c ≡ d
  one_claims chains graphs c d h k =
      h.are ∙ (ap (λ parts. all_claims m parts chains graphs) (one_parts _ h.parts k.parts h.exact k.exact) ∙ sym k.are)

-- so is what is claimed of a table by a recipe
pub one_due : (s : Setting) (r : Recipe) (ps : Patterns) (next : ℕ) (c d : Claims) → AreDue s r ps next c → AreDue s r ps next d → c ≡ d
one_due s r ps next c d h k = one_claims ps (making s r next) r.chains r.graphs c d h k
