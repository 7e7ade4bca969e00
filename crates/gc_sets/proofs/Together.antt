-- What is found among the elements of either graph.
use Rattle.std.proofs.Common.{◌≡◌, ℕ, true, false, cond, not, ◌==◌, List, [], ◌∷◌, ◌++◌, map, fold, Option, Some, None, is_some, refl, sym, ap, ◌∙◌}
use Rattle.std.specs.Cmp.{nat_cmp_total, on_total, nat_eq_equiv}
use Rattle.std.specs.List.{AllByRecursion}
use Rattle.std.specs.Option.{option_or, option_map}
use Rattle.std.specs.Ordering.{nat_cmp, on}
use Rattle.std.proofs.lemmas.Bool.{eqb-true}
use Rattle.gc_base.specs.Ascending.{Ascends, with_item}
use Rattle.gc_base.proofs.SetLaws.{Ascends-with_item}
use Rattle.gc_spec.specs.PropertyGraph.{is_among}
use Rattle.gc_ppg.proofs.Collecting.{found-with_item}
use Rattle.gc_sets.specs.Additions.{AreNew}
use Rattle.gc_sets.specs.Elements.{others}
use Rattle.gc_sets.specs.Unions.{either, beside, united, together}
use Rattle.gc_sets.proofs.Finds.{found, found_key}
use Rattle.gc_sets.proofs.NewIds.{AreNew-fewer, neither, or_not}
use Rattle.gc_sets.proofs.Turns.{found-is_among}

-- an identity that comes before new ones is none of them
pub none_of_new : (id : ℕ) (taken ids : List ℕ) → AreNew (id ∷ taken) ids → is_among ids id ≡ false
none_of_new id taken [] h = refl
none_of_new id taken (other ∷ ids) h =
    let fewer : AreNew (id ∷ taken) ids = AreNew-fewer (other ∷ id ∷ taken) (id ∷ taken) ids (λ q k. (neither (other == q) (is_among (id ∷ taken) q) k).1) h.1 in
    or_not (other == id) (is_among ids id) (nat_eq_equiv.symm other id ∙ (neither (id == other) (is_among taken other) h.0).0) (none_of_new id taken ids fewer)

-- new identities, and then others that are new too and none of them
pub AreNew-append : (taken xs ys : List ℕ) → AreNew taken xs → AreNew taken ys → AllByRecursion (λ y. is_among xs y ≡ false) ys → AreNew taken (xs ++ ys)
AreNew-append taken [] ys a b c = b
AreNew-append taken (x ∷ xs) ys a b c = (a.0, AreNew-append (x ∷ taken) xs ys a.1 (first ys taken b c) (rest ys c))
  where
    rest : (ys : List ℕ) → AllByRecursion (λ y. is_among (x ∷ xs) y ≡ false) ys → AllByRecursion (λ y. is_among xs y ≡ false) ys
    rest [] c = tt
    rest (y ∷ ys) c = ((neither (x == y) (is_among xs y) c.0).1, rest ys c.1)

    first : (ys taken : List ℕ) → AreNew taken ys → AllByRecursion (λ y. is_among (x ∷ xs) y ≡ false) ys → AreNew (x ∷ taken) ys
    first [] taken b c = tt
    first (y ∷ ys) taken b c = (
      or_not (x == y) (is_among taken y) (neither (x == y) (is_among xs y) c.0).0 b.0,
      AreNew-fewer (x ∷ y ∷ taken) (y ∷ x ∷ taken) ys (λ q k. turned q k) (first ys (y ∷ taken) b.1 c.1),
    )
      where
        turned : (q : ℕ) → is_among (x ∷ y ∷ taken) q ≡ false → is_among (y ∷ x ∷ taken) q ≡ false
        turned q k =
            let outer = neither (x == q) (is_among (y ∷ taken) q) k in
            let inner = neither (y == q) (is_among taken q) outer.1 in
            or_not (y == q) (is_among (x ∷ taken) q) inner.0 (or_not (x == q) (is_among taken q) outer.0 inner.1)

no_some : {X : Type 0} (o : Option X) → is_some o ≡ false → o ≡ None
no_some None h = refl
no_some (Some x) h = absurd (cc h)

module _ {X : Type 0} (key : X → ℕ) where
  pub Ascends-fold : (xs ys : List X) → Ascends (on key nat_cmp) xs → Ascends (on key nat_cmp) (fold (with_item (on key nat_cmp)) xs ys)
  Ascends-fold xs [] up = up
  Ascends-fold xs (y ∷ ys) up = Ascends-fold (with_item (on key nat_cmp) xs y) ys (Ascends-with_item (on key nat_cmp) (on_total key nat_cmp_total) xs y up)

  -- one of the items that went in, else one that was there
  found_fold : (taken : List ℕ) (xs ys : List X) (q : ℕ) → Ascends (on key nat_cmp) xs → AreNew taken (map key ys)
      → found key (fold (with_item (on key nat_cmp)) xs ys) q ≡ option_or (found key ys q) (found key xs q)
  found_fold taken xs [] q up h = refl
  found_fold taken xs (y ∷ ys) q up h =
      found_fold (key y ∷ taken) (with_item (on key nat_cmp) xs y) ys q (Ascends-with_item (on key nat_cmp) (on_total key nat_cmp_total) xs y up) h.1
      ∙ (ap (option_or (found key ys q)) (found-with_item key y q xs up)
      ∙ (elim (key y == q) as (λ b. (key y == q) ≡ b → option_or (found key ys q) (cond b (Some y) (found key xs q)) ≡ option_or (cond b (Some y) (found key ys q)) (found key xs q)) [
        | true ↦ λ t.
            let none : found key ys q ≡ None =
            no_some (found key ys q) (found-is_among key ys q ∙ (ap (is_among (map key ys)) (sym (eqb-true (key y) q t)) ∙ none_of_new (key y) taken (map key ys) h.1)) in
            ap (λ o. option_or o (Some y)) none
        | false ↦ λ t. refl
      ] refl))

  pub found_folded : (ys : List X) (q : ℕ) → AreNew [] (map key ys) → found key (fold (with_item (on key nat_cmp)) [] ys) q ≡ found key ys q
  found_folded ys q h = found_fold [] [] ys q tt h ∙ none_else (found key ys q)
    where
      none_else : (o : Option X) → option_or o None ≡ o
      none_else None = refl
      none_else (Some x) = refl

  found_append : (xs ys : List X) (q : ℕ) → found key (xs ++ ys) q ≡ option_or (found key xs q) (found key ys q)
  found_append [] ys q = refl
  found_append (x ∷ xs) ys q =
      elim (key x == q) as (λ b. cond b (Some x) (found key (xs ++ ys) q) ≡ option_or (cond b (Some x) (found key xs q)) (found key ys q)) [
        | true ↦ refl
        | false ↦ found_append xs ys q
      ]

  found_others : (xs ys : List X) (q : ℕ) → found key (others key ys xs) q ≡ cond (is_among (map key xs) q) None (found key ys q)
  found_others xs [] q =
      elim (is_among (map key xs) q) as (λ b. found key [] q ≡ cond b None (found key [] q)) [
        | true ↦ refl
        | false ↦ refl
      ]
  found_others xs (y ∷ ys) q =
      let rest = others key ys xs in
      elim (key y == q) as (λ b. (key y == q) ≡ b → found key (others key (y ∷ ys) xs) q ≡ cond (is_among (map key xs) q) None (cond b (Some y) (found key ys q))) [
        | true ↦ λ t.
            ap (λ k. found key (cond (not (is_among (map key xs) k)) (y ∷ rest) rest) q) (eqb-true (key y) q t)
            ∙ (elim (is_among (map key xs) q) as (λ m. is_among (map key xs) q ≡ m → found key (cond (not m) (y ∷ rest) rest) q ≡ cond m None (Some y)) [
              | true ↦ λ m. found_others xs ys q ∙ ap (λ c. cond c None (found key ys q)) m
              | false ↦ λ m. ap (λ c. cond c (Some y) (found key rest q)) t
            ] refl)
        | false ↦ λ t.
            elim (not (is_among (map key xs) (key y))) as (λ m. found key (cond m (y ∷ rest) rest) q ≡ cond (is_among (map key xs) q) None (found key ys q)) [
              | true ↦ ap (λ c. cond c (Some y) (found key rest q)) t ∙ found_others xs ys q
              | false ↦ found_others xs ys q
            ]
      ] refl

  module _ (unite : X → X → X) (same_key : (x y : X) → key (unite x y) ≡ key x) where
    pub key-beside : (x : X) (o : Option X) → key (beside unite x o) ≡ key x
    key-beside x None = refl
    key-beside x (Some y) = same_key x y

    pub keys-united : (xs ys : List X) → map key (united unite key xs ys) ≡ map key xs
    keys-united [] ys = refl
    keys-united (x ∷ xs) ys = λ i. key-beside x (found key ys (key x)) i ∷ keys-united xs ys i

    abbrev one_beside : List X → X → X
    one_beside ys x = beside unite x (found key ys (key x))

    found_united : (xs ys : List X) (q : ℕ) → found key (united unite key xs ys) q ≡ option_map (one_beside ys) (found key xs q)
    found_united [] ys q = refl
    found_united (x ∷ xs) ys q =
        ap (λ k. cond (k == q) (Some (one_beside ys x)) (found key (united unite key xs ys) q)) (key-beside x (found key ys (key x)))
        ∙ (elim (key x == q) as (λ b. cond b (Some (one_beside ys x)) (found key (united unite key xs ys) q) ≡ option_map (one_beside ys) (cond b (Some x) (found key xs q))) [
          | true ↦ refl
          | false ↦ found_united xs ys q
        ])

    pub found_together : (xs ys : List X) (q : ℕ) → found key (together unite key xs ys) q ≡ either unite (found key xs q) (found key ys q)
    found_together xs ys q =
        found_append (united unite key xs ys) (others key ys xs) q
        ∙ ((λ i. option_or (found_united xs ys q i) (found_others xs ys q i))
        ∙ (ap (λ b. option_or (option_map (one_beside ys) (found key xs q)) (cond b None (found key ys q))) (sym (found-is_among key xs q))
        ∙ (elim (found key xs q) as (λ o. found key xs q ≡ o → option_or (option_map (one_beside ys) o) (cond (is_some o) None (found key ys q)) ≡ either unite o (found key ys q)) [
          | None ↦ λ e. refl
          | Some x ↦ λ e.
              ap (λ k. Some (beside unite x (found key ys k))) (found_key key xs q x e) ∙ one x (found key ys q)
        ] refl)))
      where
        one : (x : X) (o : Option X) → Some (beside unite x o) ≡ either unite (Some x) o
        one x None = refl
        one x (Some y) = refl
