-- Neighbours of one identity, united where the identities do not fall.
use Rattle.std.proofs.Common.{◌≡◌, ℕ, suc, ◌≤◌, ◌<◌, Bool, true, false, cond, not, nat_lt, ◌&&◌, ◌==◌, List, [], ◌∷◌, ◌++◌, fold, length, get_or, Option, Some, None, refl, sym, ap, ◌∙◌, subst, arith}
use Rattle.std.specs.List.{AllByRecursion, filter, find}
use Rattle.std.specs.List.Sorted.{IsNonDecreasingBy, IsStableByKey}
use Rattle.std.specs.Ordering.{nat_cmp, on, is_lt}
use Rattle.std.specs.declared.cmp.Ordering.TheVariants.{Less}
use Rattle.std.proofs.lemmas.Bool.Decides.{nat_tests}
use Rattle.gc_base.specs.Ascending.{Ascends}
use Rattle.gc_base.proofs.Search.{AllByRecursion-weaker}
use Rattle.gc_sets.specs.Claims.{joined, said_of}
use Rattle.gc_sets.specs.Gathered.{IsGathered}

alike : (a b q : ℕ) → (a == b) ≡ true → (a == q) ≡ (b == q)
alike a b q h = grind (arith, nat_tests)

differs_less : (a b : ℕ) → (b == a) ≡ false → a ≤ b → nat_cmp a b ≡ Less
differs_less a b h k = grind (arith, nat_tests)

differs_below : (a b : ℕ) → (b == a) ≡ false → a ≤ b → a < b
differs_below a b h k = grind (arith, nat_tests)

below_less : (a b : ℕ) → a < b → nat_cmp a b ≡ Less
below_less a b h = grind (arith, nat_tests)

less_below : (a b : ℕ) → nat_cmp a b ≡ Less → a < b
less_below a b h = grind (arith, nat_tests)

lt_over : (k l n : ℕ) → k ≤ l → nat_lt l n ≡ true → k < n
lt_over k l n h e = grind (arith, nat_tests)

above_differs : (a b q : ℕ) → (a == q) ≡ true → a < b → (b == q) ≡ false
above_differs a b q h k = grind (arith, nat_tests)

tie_is : (a b : ℕ) → (not (is_lt (nat_cmp a b)) && not (is_lt (nat_cmp b a))) ≡ (b == a)
tie_is a b = grind (arith, nat_tests)

same_number : (a b : ℕ) → (a == b) ≡ true → a ≡ b
same_number a b h = grind (arith, nat_tests)

module _ {X : Type 0} (unite : X → X → X) (id_of : X → ℕ) where
  -- an element with what the rest says of it, and then the others
  abbrev pub united_from : X → List X → List X
  united_from x [] = x ∷ []
  united_from x (y ∷ ys) = cond (id_of y == id_of x) (united_from (unite x y) ys) (x ∷ united_from y ys)

  -- no identity is below one that stands before it
  abbrev pub Rise : List X → Type 0
  Rise [] = Unit {0}
  Rise (x ∷ xs) = AllByRecursion (λ y. id_of x ≤ id_of y) xs × Rise xs

  abbrev pub at : List X → ℕ → List X
  at xs q = filter (λ x. id_of x == q) xs

  abbrev pub found : List X → ℕ → Option X
  found xs q = find (λ x. id_of x == q) xs

  abbrev pub said : List X → ℕ → Option X
  said = said_of unite id_of

  none_at : (xs : List X) (x : X) (q : ℕ) → (id_of x == q) ≡ true → AllByRecursion (λ y. id_of x < id_of y) xs → at xs q ≡ []
  none_at [] x q t h = refl
  none_at (y ∷ ys) x q t h = ap (λ b. cond b (y ∷ at ys q) (at ys q)) (above_differs (id_of x) (id_of y) q t h.0) ∙ none_at ys x q t h.1

  -- what is said of one identity where no later claim has it
  said_alone : (x : X) (xs : List X) (q : ℕ) → AllByRecursion (λ y. id_of x < id_of y) xs → cond (id_of x == q) (Some x) (said xs q) ≡ said (x ∷ xs) q
  said_alone x xs q h =
      elim (id_of x == q) as (λ b. (id_of x == q) ≡ b → cond b (Some x) (said xs q) ≡ joined unite (cond b (x ∷ at xs q) (at xs q))) [
        | true ↦ λ t. ap (λ ys. Some (fold unite x ys)) (sym (none_at xs x q t h))
        | false ↦ λ t. refl
      ] refl

  module _ (same_id : (a b : X) → id_of (unite a b) ≡ id_of a) where
    -- what a second claim says, and then the rest, is what all say
    said_united : (x y : X) (ys : List X) (q : ℕ) → (id_of y == id_of x) ≡ true → said (unite x y ∷ ys) q ≡ said (x ∷ y ∷ ys) q
    said_united x y ys q t =
        (λ i. joined unite (cond (same_id x y i == q) (unite x y ∷ at ys q) (at ys q)))
        ∙ (elim (id_of x == q) as (λ b. joined unite (cond b (unite x y ∷ at ys q) (at ys q)) ≡ joined unite (cond b (x ∷ cond b (y ∷ at ys q) (at ys q)) (cond b (y ∷ at ys q) (at ys q)))) [
          | true ↦ refl
          | false ↦ refl
        ]
        ∙ (λ i. joined unite (cond (id_of x == q) (x ∷ cond (sym (alike (id_of y) (id_of x) q t) i) (y ∷ at ys q) (at ys q)) (cond (sym (alike (id_of y) (id_of x) q t) i) (y ∷ at ys q) (at ys q)))))

    above_all : (x y : X) (ys : List X) → (id_of y == id_of x) ≡ false → AllByRecursion (λ z. id_of x ≤ id_of z) (y ∷ ys) → AllByRecursion (λ z. id_of y ≤ id_of z) ys
        → AllByRecursion (λ z. id_of x < id_of z) (y ∷ ys)
    above_all x y ys t h k =
        let first : id_of x < id_of y = differs_below (id_of x) (id_of y) t h.0 in
        (first, AllByRecursion-weaker _ _ (λ z l. let m : id_of y ≤ id_of z = l in omega (arith, first, m)) ys k)

    rise_united : (x y : X) (ys : List X) → Rise (x ∷ y ∷ ys) → Rise (unite x y ∷ ys)
    rise_united x y ys up = (subst (λ k. AllByRecursion (λ z. k ≤ id_of z) ys) (sym (same_id x y)) up.0.1, up.1.1)

    pub found_said : (x : X) (xs : List X) (q : ℕ) → Rise (x ∷ xs) → found (united_from x xs) q ≡ said (x ∷ xs) q
    found_said x [] q up =
        elim (id_of x == q) as (λ b. cond b (Some x) None ≡ joined unite (cond b (x ∷ []) [])) [
          | true ↦ refl
          | false ↦ refl
        ]
    found_said x (y ∷ ys) q up =
        elim (id_of y == id_of x) as (λ b. (id_of y == id_of x) ≡ b → found (cond b (united_from (unite x y) ys) (x ∷ united_from y ys)) q ≡ said (x ∷ y ∷ ys) q) [
          | true ↦ λ t. found_said (unite x y) ys q (rise_united x y ys up) ∙ said_united x y ys q t
          | false ↦ λ t.
              ap (λ o. cond (id_of x == q) (Some x) o) (found_said y ys q up.1) ∙ said_alone x (y ∷ ys) q (above_all x y ys t up.0 up.1.0)
        ] refl

    all_from : (k : ℕ) (x : X) (xs : List X) → k ≤ id_of x → AllByRecursion (λ z. k ≤ id_of z) xs → AllByRecursion (λ z. k ≤ id_of z) (united_from x xs)
    all_from k x [] h up = (h, tt)
    all_from k x (y ∷ ys) h up =
        elim (id_of y == id_of x) as (λ b. AllByRecursion (λ z. k ≤ id_of z) (cond b (united_from (unite x y) ys) (x ∷ united_from y ys))) [
          | true ↦ all_from k (unite x y) ys (subst (λ i. k ≤ i) (sym (same_id x y)) h) up.1
          | false ↦ (h, all_from k y ys up.0 up.1)
        ]

    pub ascends : (x : X) (xs : List X) → Rise (x ∷ xs) → Ascends (on id_of nat_cmp) (united_from x xs)
    ascends x [] up = (tt, tt)
    ascends x (y ∷ ys) up =
        elim (id_of y == id_of x) as (λ b. (id_of y == id_of x) ≡ b → Ascends (on id_of nat_cmp) (cond b (united_from (unite x y) ys) (x ∷ united_from y ys))) [
          | true ↦ λ t. ascends (unite x y) ys (rise_united x y ys up)
          | false ↦ λ t.
              let first : id_of x < id_of y = differs_below (id_of x) (id_of y) t up.0.0 in
              let later : AllByRecursion (λ z. id_of y ≤ id_of z) (united_from y ys) = all_from (id_of y) y ys (omega arith) up.1.0 in (
                AllByRecursion-weaker _ _ (λ z l. let m : id_of y ≤ id_of z = l in below_less (id_of x) (id_of z) (omega (arith, first, m))) (united_from y ys) later,
                ascends y ys up.1,
              )
        ] refl

    -- what is made of claims whose identities do not fall is all that they say
    pub gathered_from : (x : X) (xs : List X) → Rise (x ∷ xs) → IsGathered unite id_of (x ∷ xs) (united_from x xs)
    gathered_from x xs up = record { ascend = ascends x xs up; said = λ q. found_said x xs q up }

    -- and so is what a loop over the claims after the first leaves
    pub gathered_all : (claims more later start done rest all : List X) (first last : X) → claims ≡ first ∷ more → later ≡ more → start ≡ [] → rest ≡ []
        → done ++ united_from last rest ≡ start ++ united_from first later → all ≡ done ++ last ∷ [] → Rise claims → IsGathered unite id_of claims all
    gathered_all claims more later start done rest all first last begun same empty ended so_far is up =
        let made : all ≡ united_from first more =
        is ∙ (ap (λ xs. done ++ united_from last xs) (sym ended) ∙ (so_far ∙ λ i. empty i ++ united_from first (same i))) in
        subst (λ xs. IsGathered unite id_of xs all) (sym begun) (subst (IsGathered unite id_of (first ∷ more)) (sym made) (gathered_from first more (subst Rise begun up)))

  -- claims that ascend are gathered as they stand
  all_below : (x : X) (xs : List X) → AllByRecursion (λ y. nat_cmp (id_of x) (id_of y) ≡ Less) xs → AllByRecursion (λ y. id_of x < id_of y) xs
  all_below x xs h = AllByRecursion-weaker _ _ (λ y l. less_below (id_of x) (id_of y) l) xs h

  said_apart : (xs : List X) (q : ℕ) → Ascends (on id_of nat_cmp) xs → found xs q ≡ said xs q
  said_apart [] q up = refl
  said_apart (x ∷ xs) q up = ap (λ o. cond (id_of x == q) (Some x) o) (said_apart xs q up.1) ∙ said_alone x xs q (all_below x xs up.0)

  pub gathered_apart : (xs : List X) → Ascends (on id_of nat_cmp) xs → IsGathered unite id_of xs xs
  gathered_apart xs up = record { ascend = up; said = λ q. said_apart xs q up }

  -- whether each identity is above the one before it, the first above this
  abbrev pub rises_from : ℕ → List X → Bool
  rises_from k [] = true
  rises_from k (x ∷ xs) = cond (nat_lt k (id_of x)) (rises_from (id_of x) xs) false

  risen : (k l : ℕ) (xs : List X) → k ≤ l → rises_from l xs ≡ true → AllByRecursion (λ y. k < id_of y) xs × Ascends (on id_of nat_cmp) xs
  risen k l [] h t = (tt, tt)
  risen k l (x ∷ xs) h t =
      elim (nat_lt l (id_of x)) as (λ b. nat_lt l (id_of x) ≡ b → cond b (rises_from (id_of x) xs) false ≡ true → AllByRecursion (λ y. k < id_of y) (x ∷ xs) × Ascends (on id_of nat_cmp) (x ∷ xs)) [
        | true ↦ λ e u.
            let over : k < id_of x = lt_over k l (id_of x) h e in
            let later = risen (id_of x) (id_of x) xs (omega arith) u in (
              (over, AllByRecursion-weaker _ _ (λ y m. let n : id_of x < id_of y = m in omega (arith, over, n)) xs later.0),
              (AllByRecursion-weaker _ _ (λ y m. below_less (id_of x) (id_of y) m) xs later.0, later.1),
            )
        | false ↦ λ e u. absurd (cc u)
      ] refl t

  ascends_risen : (x : X) (xs : List X) → rises_from (id_of x) xs ≡ true → Ascends (on id_of nat_cmp) (x ∷ xs)
  ascends_risen x xs t =
      let later = risen (id_of x) (id_of x) xs (omega arith) t in
      (AllByRecursion-weaker _ _ (λ y m. below_less (id_of x) (id_of y) m) xs later.0, later.1)

  -- and so is what a loop finds that goes over the claims after the first
  pub ascends_left : (claims more rest : List X) (first : X) (k last : ℕ) → claims ≡ first ∷ more → rest ≡ [] → k ≡ id_of first
      → rises_from last rest ≡ rises_from k more → Ascends (on id_of nat_cmp) claims
  ascends_left claims more rest first k last begun ended is so_far =
      let rises : rises_from (id_of first) more ≡ true = (λ i. rises_from (sym is i) more) ∙ (sym so_far ∙ ap (rises_from last) ended) in
      subst (Ascends (on id_of nat_cmp)) (sym begun) (ascends_risen first more rises)

  pub gathered_none : IsGathered unite id_of [] []
  gathered_none = record { ascend = tt; said = λ q. refl }

  -- a sort leaves what is said of each identity
  head_has : (p : X → Bool) (xs rest : List X) (x : X) → filter p xs ≡ x ∷ rest → p x ≡ true
  head_has p [] rest x h = absurd (cc h)
  head_has p (y ∷ ys) rest x h =
      elim (p y) as (λ b. p y ≡ b → cond b (y ∷ filter p ys) (filter p ys) ≡ x ∷ rest → p x ≡ true) [
        | true ↦ λ t k. let same : y ≡ x = cc k in ap p (sym same) ∙ t
        | false ↦ λ t k. head_has p ys rest x k
      ] refl h

  module _ (xs ys : List X) (stable : IsStableByKey id_of nat_cmp xs ys) where
    kept_with : (x : X) (q : ℕ) → (id_of x == q) ≡ true → at ys q ≡ at xs q
    kept_with x q t =
        let same : id_of x ≡ q = same_number (id_of x) q t in
        subst (λ k. at ys k ≡ at xs k) same ((λ j. filter (λ y. sym (tie_is (id_of x) (id_of y)) j) ys) ∙ (stable x ∙ (λ j. filter (λ y. tie_is (id_of x) (id_of y) j) xs)))

    pub kept : (q : ℕ) → at ys q ≡ at xs q
    kept q =
        elim (at xs q) as (λ us. at xs q ≡ us → at ys q ≡ us) [
          | [] ↦ λ u.
              elim (at ys q) as (λ vs. at ys q ≡ vs → vs ≡ []) [
                | [] ↦ λ v. refl
                | (y ∷ vs) ↦ λ v. sym v ∙ (kept_with y q (head_has (λ z. id_of z == q) ys vs y v) ∙ u)
              ] refl
          | (x ∷ us) ↦ λ u. kept_with x q (head_has (λ z. id_of z == q) xs us x u) ∙ u
        ] refl

    pub gathered_sorted : (zs : List X) → IsGathered unite id_of ys zs → IsGathered unite id_of xs zs
    gathered_sorted zs h = record { ascend = h.ascend; said = λ q. h.said q ∙ ap (joined unite) (kept q) }

  rise_all : (x : X) (xs : List X) → ((k : ℕ) (d : X) → k < length xs → id_of x ≤ id_of (get_or xs k d)) → AllByRecursion (λ y. id_of x ≤ id_of y) xs
  rise_all x [] h = tt
  rise_all x (y ∷ ys) h = (h 0 y (omega arith), rise_all x ys (λ k d below. h (suc k) d (omega arith)))

  pub rise : (xs : List X) → IsNonDecreasingBy id_of xs → Rise xs
  rise [] up = tt
  rise (x ∷ xs) up = (
    rise_all x xs (λ k d below. up 0 (suc k) d (omega arith) (omega arith)),
    rise xs (λ i j d le below. up (suc i) (suc j) d (omega arith) (omega arith)),
  )
