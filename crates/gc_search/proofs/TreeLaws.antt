-- Walks that are told by settled ones that they extend.
use Rattle.std.proofs.Common.{◌≡◌, ℕ, zero, suc, ◌+◌, ◌-◌, ◌<◌, ◌≤◌, List, [], ◌∷◌, ◌++◌, length, Option, Some, None, refl, sym, ap, subst, ◌∙◌, arith, length-append, append_assoc, slice_index_or}
use Rattle.std.specs.List.{slice_get}
use Rattle.std.specs.Option.{MatchOption, option_to_list}
use Rattle.std.proofs.lemmas.List.{append-nil, same_from_push}
use Rattle.gc_prod.specs.Products.{Setting}
use Rattle.gc_search.specs.Arrivals.{FoundWalk}
use Rattle.gc_search.specs.Links.{Link, numbered, steps_behind, run_behind, walk_of, told_behind, told, IsTold, AreTold, IsTree}

pub get_front : {X : Type 0} (xs ys : List X) (i : ℕ) → i < length xs → slice_get (xs ++ ys) i ≡ slice_get xs i
get_front [] ys i h = absurd (omega (arith, h))
get_front (x ∷ xs) ys zero h = refl
get_front (x ∷ xs) ys (suc i) h = get_front xs ys i (omega (arith, h))

get_next : {X : Type 0} (xs ys : List X) (x : X) → slice_get (xs ++ x ∷ ys) (length xs) ≡ Some x
get_next [] ys x = refl
get_next (y ∷ xs) ys x = get_next xs ys x

pub got : {X : Type 0} (xs : List X) (i : ℕ) (x : X) → i < length xs → x ≡ slice_index_or xs i x → slice_get xs i ≡ Some x
got [] i x h e = absurd (omega (arith, h))
got (y ∷ xs) zero x h e = ap Some (sym e)
got (y ∷ xs) (suc i) x h e = got xs i x (omega (arith, h)) e

-- more walks that are settled leave what is told alone
pub numbered_kept : (walks more : List FoundWalk) (n : ℕ) → n ≤ length walks → numbered (walks ++ more) n ≡ numbered walks n
numbered_kept walks more zero h = refl
numbered_kept walks more (suc n) h = get_front walks more n (omega (arith, h))

module _ (setting : Setting) where
  abbrev walk_with : Link → Option FoundWalk → FoundWalk
  walk_with l o = record { at = l.at; cost = l.cost; steps = steps_behind setting l o; run = run_behind l o }

  pub walk_kept : (walks more : List FoundWalk) (l : Link) → l.before ≤ length walks → walk_of setting (walks ++ more) l ≡ walk_of setting walks l
  walk_kept walks more l h = ap (walk_with l) (numbered_kept walks more l.before h)

  pub told_kept : (walks more : List FoundWalk) (l : Link) → IsTold setting walks l → IsTold setting (walks ++ more) l
  told_kept walks more l h = record {
    before = omega (arith, h.before, length-append walks more);
    edges = h.edges ∙ ap (λ (a : FoundWalk). length a.steps) (sym (walk_kept walks more l h.before));
  }

  -- a walk behind the others
  pub told_push : (walks : List FoundWalk) (links : List Link) (l : Link)
      → told_behind setting walks (links ++ l ∷ []) ≡ told_behind setting walks links ++ walk_of setting (told_behind setting walks links) l ∷ []
  told_push walks [] l = refl
  told_push walks (k ∷ links) l = told_push (walks ++ walk_of setting walks k ∷ []) links l

  pub are_push : (walks : List FoundWalk) (links : List Link) (l : Link) → AreTold setting walks links → IsTold setting (told_behind setting walks links) l
      → AreTold setting walks (links ++ l ∷ [])
  are_push walks [] l h t = (t, tt)
  are_push walks (k ∷ links) l h t = (h.0, are_push (walks ++ walk_of setting walks k ∷ []) links l h.1 t)

  pub are_front : (walks : List FoundWalk) (links : List Link) (l : Link) → AreTold setting walks (links ++ l ∷ []) → AreTold setting walks links
  are_front walks [] l h = tt
  are_front walks (k ∷ links) l h = (h.0, are_front (walks ++ walk_of setting walks k ∷ []) links l h.1)

  pub told_length : (walks : List FoundWalk) (links : List Link) → length (told_behind setting walks links) ≡ length walks + length links
  told_length walks [] = omega arith
  told_length walks (k ∷ links) =
      let w = walk_of setting walks k in
      let rest = told_length (walks ++ w ∷ []) links in
      omega (arith, rest, length-append walks (w ∷ []))

  told_more : (walks : List FoundWalk) (links : List Link) → (more : List FoundWalk) × (told_behind setting walks links ≡ walks ++ more)
  told_more walks [] = ([], sym (append-nil walks))
  told_more walks (k ∷ links) =
      let w = walk_of setting walks k in
      let m = told_more (walks ++ w ∷ []) links in
      (w ∷ m.0, m.1 ∙ append_assoc walks (w ∷ []) m.0)

  -- what stands at a place among walks
  pub record StandsAt (walks : List FoundWalk) (place : ℕ) (l : Link) : Type 0 where
    pub walk : slice_get walks place ≡ Some (walk_of setting walks l)
    pub told : IsTold setting walks l
    pub earlier : l.before ≤ place

  first_at : (walks more : List FoundWalk) (k : Link) → IsTold setting walks k → StandsAt (walks ++ walk_of setting walks k ∷ more) (length walks) k
  first_at walks more k h =
      let w = walk_of setting walks k in
      record {
        walk = get_next walks more w ∙ ap Some (sym (walk_kept walks (w ∷ more) k h.before));
        told = told_kept walks (w ∷ more) k h;
        earlier = h.before;
      }

  told_at : (walks : List FoundWalk) (links : List Link) (i : ℕ) (l : Link) → AreTold setting walks links → slice_get links i ≡ Some l
      → StandsAt (told_behind setting walks links) (length walks + i) l
  told_at walks [] i l h g = cc
  told_at walks (k ∷ links) zero l h g =
      let w = walk_of setting walks k in
      let m = told_more (walks ++ w ∷ []) links in
      let whole : told_behind setting walks (k ∷ links) ≡ walks ++ w ∷ m.0 = m.1 ∙ append_assoc walks (w ∷ []) m.0 in
      let e : k ≡ l = cc in
      let n : length walks ≡ length walks + 0 = omega arith in
      subst (λ (v : Link). StandsAt (told_behind setting walks (k ∷ links)) (length walks + 0) v) e
      (subst (λ p. StandsAt (told_behind setting walks (k ∷ links)) p k) n (subst (λ (v : List FoundWalk). StandsAt v (length walks) k) (sym whole) (first_at walks m.0 k h.0)))
  told_at walks (k ∷ links) (suc i) l h g =
      let w = walk_of setting walks k in
      let n : length (walks ++ w ∷ []) + i ≡ length walks + suc i = omega (arith, length-append walks (w ∷ [])) in
      subst (λ p. StandsAt (told_behind setting walks (k ∷ links)) p l) n (told_at (walks ++ w ∷ []) links i l h.1 g)

  pub stands_at : (links : List Link) (i : ℕ) (l : Link) → IsTree setting links → i < length links → l ≡ slice_index_or links i l → StandsAt (told setting links) i l
  stands_at links i l h within is =
      let n : length {A = FoundWalk} [] + i ≡ i = omega arith in
      subst (λ p. StandsAt (told setting links) p l) n (told_at [] links i l h (got links i l within is))

  pub tree_length : (links : List Link) → length (told setting links) ≡ length links
  tree_length links = let n = told_length [] links in omega (arith, n)

pub numbered_at : (walks : List FoundWalk) (n : ℕ) (a : FoundWalk) → 0 < n → slice_get walks (n - 1) ≡ Some a → numbered walks n ≡ Some a
numbered_at walks zero a some h = absurd (omega (arith, some))
numbered_at walks (suc n) a some h = let e : suc n - 1 ≡ n = omega arith in subst (λ m. slice_get walks m ≡ Some a) e h

-- the last walk is taken away
module _ (setting : Setting) where
  pub popped_tree : (old new : List Link) (o : Option Link) → old ≡ new ++ option_to_list o → IsTree setting old → IsTree setting new
  popped_tree old new None e h = subst (IsTree setting) (e ∙ append-nil new) h
  popped_tree old new (Some l) e h = are_front setting [] new l (subst (IsTree setting) e h)

  pub popped_walks : (P : Type 0) (Q : Link → Type 0) (old new : List Link) (o : Option Link) → old ≡ new ++ option_to_list o → MatchOption o P Q → (P → length old ≡ 0)
      → (walks : List FoundWalk) (a : FoundWalk) → told setting old ≡ walks ++ a ∷ [] → told setting new ≡ walks
  popped_walks P Q old new None e m none walks a is = absurd (omega (arith, none m, tree_length setting old, ap length is, length-append walks (a ∷ [])))
  popped_walks P Q old new (Some l) e m none walks a is =
      (same_from_push (told setting new) walks (walk_of setting (told setting new) l) a (sym (told_push setting [] new l) ∙ (sym (ap (told setting) e) ∙ is))).0
