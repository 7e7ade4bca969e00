-- Elements in the order in which they were collected, and by ascending identity.
use Rattle.std.proofs.Common.{◌≡◌, Bor, nat_lt, if◌then◌else◌, ℕ, suc, ◌+◌, ◌-◌, Bool, true, false, cond, ◌||◌, ◌==◌, List, [], ◌∷◌, ◌++◌, map, refl, sym, ap, ◌∙◌, subst, Some, None, is_some, Option, get_or, length, arith}
use Rattle.std.specs.declared.cmp.Ordering.{Ordering}
use Rattle.std.specs.declared.cmp.Ordering.TheVariants.{Less, Equal, Greater}
use Rattle.std.specs.Ordering.{nat_cmp, on, is_lt, is_gt, MatchOrdering}
use Rattle.std.specs.Cmp.{nat_cmp_total, nat_eq_equiv, on_total}
use Rattle.std.specs.List.{AllByRecursion, IsDistinct, filter, find, slice_index_or}
use Rattle.std.specs.List.Sorted.{IsPermutation, IsSorted}
use Rattle.std.specs.Option.{option_copied}
use Rattle.std.specs.Map.{lookup, keys_of, values_of}
use Rattle.std.proofs.lemmas.Bool.Decides.{nat_tests}
use Rattle.std.proofs.lemmas.List.Sorted.{All-permutation}
use Rattle.std.proofs.lemmas.List.Elements.{All-from_recursion, recursion_from_All}
use Rattle.std.proofs.lemmas.Map.Keys.{IsDistinct-head, IsDistinct-tail}
use Rattle.indexmap.specs.IndexMap.{insert_entry}
use Rattle.gc_base.specs.Ascending.{Ascends, with_item}
use Rattle.gc_base.proofs.Search.{Rises, AllGreater, greater_kept, greater_not_less, rises, AllByRecursion-weaker}
use Rattle.gc_base.proofs.SetLaws.{Ascends-with_item}
use Rattle.gc_spec.specs.PropertyGraph.{is_among}
use Rattle.gc_ppg.specs.Collected.{KeysAreIds, in_order}

less_apart : (a b q : ℕ) → nat_cmp a b ≡ Less → (a == q) ≡ true → (b == q) ≡ false
less_apart a b q c h = grind (arith, nat_tests)

less_differs : (a b : ℕ) → nat_cmp a b ≡ Less → (a == b) ≡ false
less_differs a b c = grind (arith, nat_tests)

less_differs_too : (a b : ℕ) → nat_cmp a b ≡ Less → (b == a) ≡ false
less_differs_too a b c = grind (arith, nat_tests)

greater_apart : (a b q : ℕ) → nat_cmp a b ≡ Greater → (b == q) ≡ true → (a == q) ≡ false
greater_apart a b q c h = grind (arith, nat_tests)

equal_alike : (a b q : ℕ) → nat_cmp a b ≡ Equal → (a == q) ≡ (b == q)
equal_alike a b q c = grind (arith, nat_tests)

turned : (a b : ℕ) → nat_cmp a b ≡ Greater → nat_cmp b a ≡ Less
turned a b c = grind (arith, nat_tests)

same : (a b : ℕ) → nat_cmp a b ≡ Equal → a ≡ b
same a b c = grind (arith, nat_tests)

itself : (a : ℕ) → (a == a) ≡ true
itself a = grind (arith, nat_tests)

alike : (a b q : ℕ) → (a == b) ≡ true → (a == q) ≡ (b == q)
alike a b q h = grind (arith, nat_tests)

differing : (a b q : ℕ) → (a == b) ≡ false → (b == q) ≡ true → (a == q) ≡ false
differing a b q h k = grind (arith, nat_tests)

is_number : (a b : ℕ) → (a == b) ≡ true → b ≡ a
is_number a b h = grind (arith, nat_tests)

above_of : (a b : ℕ) → is_lt (nat_cmp b a) ≡ false → (a == b) ≡ false → nat_cmp a b ≡ Less
above_of a b h k = grind (arith, nat_tests)

pub less_by : (a b : ℕ) → nat_lt a b ≡ true → nat_cmp a b ≡ Less
less_by a b h = grind (arith, nat_tests)

-- a look-up that finds nothing, and one by a reference
pub none_of : {A : Type 0} (o : Option A) → false ≡ is_some o → o ≡ None
none_of (Some x) h = absurd (cc h)
none_of None h = refl

pub copied_some : {A : Type 0} (o : Option (Bor A)) → is_some o ≡ is_some (option_copied o)
copied_some (Some x) = refl
copied_some None = refl

-- of two tests that do not both pass, either may come first
either_first : {A : Type 0} (a b : Bool) (x y z : A) → (b ≡ true → a ≡ false) → cond a x (cond b y z) ≡ cond b y (cond a x z)
either_first true true x y z h = let e = h refl in absurd (cc e)
either_first true false x y z h = refl
either_first false b x y z h = refl

-- the first of two tests that both pass decides
first_decides : {A : Type 0} (b : Bool) (x y z : A) → cond b x (cond b y z) ≡ cond b x z
first_decides true x y z = refl
first_decides false x y z = refl

some_of_cond : {X : Type 0} (b : Bool) (x : X) (o : Option X) → is_some (cond b (Some x) o) ≡ (b || is_some o)
some_of_cond true x o = refl
some_of_cond false x o = refl

module _ {X : Type 0} (key : X → ℕ) where
  abbrev pub by_key : X → X → Ordering
  by_key = on key nat_cmp

  abbrev pub found_at : ℕ → List X → Option X
  found_at q xs = find (λ x. key x == q) xs

  -- the element that was put in is found at its identity, and at others what was found before
  find_rises : (x : X) (q : ℕ) (xs : List X) → Rises (λ y. nat_cmp (key y) (key x)) xs → found_at q (with_item by_key xs x) ≡ cond (key x == q) (Some x) (found_at q xs)
  find_rises x q [] r = refl
  find_rises x q (y ∷ ys) r =
      let answer : X → Ordering = λ z. nat_cmp (key z) (key x) in
      let rest : (o : Ordering) → answer y ≡ o → MatchOrdering o (Rises answer ys) (AllGreater answer ys) (AllGreater answer ys) =
      λ o a. subst (λ p. MatchOrdering p (Rises answer ys) (AllGreater answer ys) (AllGreater answer ys)) a r in
      elim (nat_cmp (key y) (key x)) as (λ o. answer y ≡ o → found_at q (with_item by_key (y ∷ ys) x) ≡ cond (key x == q) (Some x) (found_at q (y ∷ ys))) [
        | Less ↦ λ c.
            rw c (ap (λ o. cond (key y == q) (Some y) o) (find_rises x q ys (rest Less c))
            ∙ either_first (key y == q) (key x == q) (Some y) (Some x) (found_at q ys) (λ h. after (key y) (key x) q c h))
        | Equal ↦ λ c.
            rw c ((λ i. found_at q (greater_not_less answer ys (rest Equal c) i ++ x ∷ greater_kept answer ys (rest Equal c) i))
            ∙ sym (ap (λ b. cond (key x == q) (Some x) (cond b (Some y) (found_at q ys))) (equal_alike (key y) (key x) q c) ∙ first_decides (key x == q) (Some x) (Some y) (found_at q ys)))
        | Greater ↦ λ c.
            rw c (λ i. found_at q (greater_not_less answer ys (rest Greater c) i ++ x ∷ y ∷ greater_kept answer ys (rest Greater c) i))
      ] refl
    where
      after : (a b p : ℕ) → nat_cmp a b ≡ Less → (b == p) ≡ true → (a == p) ≡ false
      after a b p c h = grind (arith, nat_tests)

  pub found-with_item : (x : X) (q : ℕ) (xs : List X) → Ascends by_key xs → found_at q (with_item by_key xs x) ≡ cond (key x == q) (Some x) (found_at q xs)
  found-with_item x q xs up = find_rises x q xs (rises key nat_cmp nat_cmp_total xs (key x) up)

  none_above : (q : ℕ) (x : X) (ys : List X) → (key x == q) ≡ true → AllByRecursion (λ y. by_key x y ≡ Less) ys → found_at q ys ≡ None
  none_above q x [] h up = refl
  none_above q x (y ∷ ys) h up =
      ap (λ b. cond b (Some y) (found_at q ys)) (less_apart (key x) (key y) q up.0 h) ∙ none_above q x ys h up.1

  none_below : (x y : X) (ys : List X) → by_key x y ≡ Less → AllByRecursion (λ z. by_key y z ≡ Less) ys → found_at (key x) (y ∷ ys) ≡ None
  none_below x y ys c up =
      ap (λ b. cond b (Some y) (found_at (key x) ys)) (less_differs_too (key x) (key y) c)
      ∙ none_above (key x) x ys (itself (key x)) (AllByRecursion-weaker _ _ (λ z h. nat_cmp_total.trans (key x) (key y) (key z) c h) ys up)

  found_first : (x : X) (xs : List X) → found_at (key x) (x ∷ xs) ≡ Some x
  found_first x xs = ap (λ b. cond b (Some x) (found_at (key x) xs)) (itself (key x))

  injective : {A : Type 0} (x y : A) → Some x ≡ Some y → x ≡ y
  injective x y e = cc e

  -- ascending lists in which the same is found at each identity are one
  pub told_by_finds : (xs ys : List X) → Ascends by_key xs → Ascends by_key ys → ((q : ℕ) → found_at q xs ≡ found_at q ys) → xs ≡ ys
  told_by_finds [] [] a b h = refl
  told_by_finds [] (y ∷ ys) a b h = let e = h (key y) ∙ found_first y ys in absurd (cc e)
  told_by_finds (x ∷ xs) [] a b h = let e = sym (h (key x)) ∙ found_first x xs in absurd (cc e)
  told_by_finds (x ∷ xs) (y ∷ ys) a b h =
      elim (nat_cmp (key x) (key y)) as (λ o. nat_cmp (key x) (key y) ≡ o → x ∷ xs ≡ y ∷ ys) [
        | Less ↦ λ c. let e = sym (found_first x xs) ∙ (h (key x) ∙ none_below x y ys c b.0) in absurd (cc e)
        | Equal ↦ λ c.
            let k : key x ≡ key y = same (key x) (key y) c in
            let one : x ≡ y = injective x y (sym (found_first x xs) ∙ (h (key x) ∙ (ap (λ q. found_at q (y ∷ ys)) k ∙ found_first y ys))) in
            let rest : xs ≡ ys = told_by_finds xs ys a.1 b.1 (λ q. later q k) in
            λ i. one i ∷ rest i
        | Greater ↦ λ c. let e = sym (found_first y ys) ∙ (sym (h (key y)) ∙ none_below y x xs (turned (key x) (key y) c) a.0) in absurd (cc e)
      ] refl
    where
      later : (q : ℕ) → key x ≡ key y → found_at q xs ≡ found_at q ys
      later q k =
          elim (key x == q) as (λ t. (key x == q) ≡ t → found_at q xs ≡ found_at q ys) [
            | true ↦ λ t. none_above q x xs t a.0 ∙ sym (none_above q y ys (ap (λ n. n == q) (sym k) ∙ t) b.0)
            | false ↦ λ t.
                sym (ap (λ u. cond u (Some x) (found_at q xs)) t) ∙ (h q ∙ ap (λ u. cond u (Some y) (found_at q ys)) (ap (λ n. n == q) (sym k) ∙ t))
          ] refl

  -- an element among the others, and else among those that ascend
  abbrev or_else : Option X → Option X → Option X
  or_else (Some x) other = Some x
  or_else None other = other

  or_else-cond : (b : Bool) (x : X) (o p : Option X) → or_else (cond b (Some x) o) p ≡ cond b (Some x) (or_else o p)
  or_else-cond true x o p = refl
  or_else-cond false x o p = refl

  or_else-none : (o : Option X) → or_else o None ≡ o
  or_else-none (Some x) = refl
  or_else-none None = refl

  found-is_among : (xs : List X) (q : ℕ) → is_some (found_at q xs) ≡ is_among (map key xs) q
  found-is_among [] q = refl
  found-is_among (x ∷ xs) q = some_of_cond (key x == q) x (found_at q xs) ∙ ap (λ b. (key x == q) || b) (found-is_among xs q)

  -- something is found just where the identity is among the elements'
  pub found-has : (o : Option X) (xs : List X) (q : ℕ) → o ≡ found_at q xs → is_some o ≡ is_among (map key xs) q
  found-has o xs q h = ap is_some h ∙ found-is_among xs q

  pub KeysAreIds-insert_entry : (es : List (ℕ × X)) (n : X) → KeysAreIds key es → KeysAreIds key (insert_entry (λ a b. a == b) es (key n) n)
  KeysAreIds-insert_entry [] n h = (refl, tt)
  KeysAreIds-insert_entry (e ∷ es) n h =
      elim (key n == e.0) as (λ t. (key n == e.0) ≡ t → KeysAreIds key (cond t ((e.0, n) ∷ es) (e ∷ insert_entry (λ a b. a == b) es (key n) n))) [
        | true ↦ λ t. (is_number (key n) e.0 t, h.1)
        | false ↦ λ t. (h.0, KeysAreIds-insert_entry es n h.1)
      ] refl

  -- what a map has after an insertion
  pub record Grown (base : List X) (es new : List (ℕ × X)) (n : X) : Type 0 where
    pub keys : KeysAreIds key new
    pub items : in_order key base new ≡ with_item by_key (in_order key base es) n

  module _ (base : List X) (up : Ascends by_key base) where
    pub in_order-ascends : (es : List (ℕ × X)) → Ascends by_key (in_order key base es)
    in_order-ascends [] = up
    in_order-ascends (e ∷ es) = Ascends-with_item by_key (on_total key nat_cmp_total) (in_order key base es) e.1 (in_order-ascends es)

    found_in_order : (e : ℕ × X) (es : List (ℕ × X)) (q : ℕ) → found_at q (in_order key base (e ∷ es)) ≡ cond (key e.1 == q) (Some e.1) (found_at q (in_order key base es))
    found_in_order e es q = found-with_item e.1 q (in_order key base es) (in_order-ascends es)

    -- an element is looked up among the others, and then among those that ascend
    lookup-found : (es : List (ℕ × X)) (q : ℕ) → KeysAreIds key es → or_else (lookup (λ k. q == k) es) (found_at q base) ≡ found_at q (in_order key base es)
    lookup-found [] q h = refl
    lookup-found (e ∷ es) q h =
        or_else-cond (q == e.0) e.1 (lookup (λ k. q == k) es) (found_at q base)
        ∙ ((λ i. cond ((nat_eq_equiv.symm q e.0 ∙ ap (λ k. k == q) h.0) i) (Some e.1) (lookup-found es q h.1 i)) ∙ sym (found_in_order e es q))

    pub found-other : (es : List (ℕ × X)) (q : ℕ) (x : X) → KeysAreIds key es → Some x ≡ lookup (λ k. q == k) es → Some x ≡ found_at q (in_order key base es)
    found-other es q x h looked = ap (λ o. or_else o (found_at q base)) looked ∙ lookup-found es q h

    pub found-ascending : (es : List (ℕ × X)) (q : ℕ) (o : Option X) → KeysAreIds key es → None ≡ lookup (λ k. q == k) es → o ≡ found_at q base → o ≡ found_at q (in_order key base es)
    found-ascending es q o h looked found = found ∙ (ap (λ p. or_else p (found_at q base)) looked ∙ lookup-found es q h)

    found-inserted : (es : List (ℕ × X)) (n : X) (q : ℕ) → KeysAreIds key es
        → found_at q (in_order key base (insert_entry (λ a b. a == b) es (key n) n)) ≡ cond (key n == q) (Some n) (found_at q (in_order key base es))
    found-inserted [] n q h = found_in_order (key n, n) [] q
    found-inserted (e ∷ es) n q h =
        let before : Option X = found_at q (in_order key base es) in
        elim (key n == e.0) as (λ t. (key n == e.0) ≡ t → found_at q (in_order key base (cond t ((e.0, n) ∷ es) (e ∷ insert_entry (λ a b. a == b) es (key n) n)))
        ≡ cond (key n == q) (Some n) (found_at q (in_order key base (e ∷ es)))) [
          | true ↦ λ t.
              let k : (key n == q) ≡ (key e.1 == q) = alike (key n) e.0 q t ∙ ap (λ m. m == q) h.0 in
              found_in_order (e.0, n) es q
              ∙ (sym (first_decides (key n == q) (Some n) (Some e.1) before)
              ∙ (ap (λ b. cond (key n == q) (Some n) (cond b (Some e.1) before)) k ∙ ap (λ o. cond (key n == q) (Some n) o) (sym (found_in_order e es q))))
          | false ↦ λ t.
              found_in_order e (insert_entry (λ a b. a == b) es (key n) n) q
              ∙ (ap (λ o. cond (key e.1 == q) (Some e.1) o) (found-inserted es n q h.1)
              ∙ (either_first (key e.1 == q) (key n == q) (Some e.1) (Some n) before (λ u. other (key n) e.0 q t u h.0)
              ∙ ap (λ o. cond (key n == q) (Some n) o) (sym (found_in_order e es q))))
        ] refl
      where
        other : (a b p : ℕ) → (a == b) ≡ false → (a == p) ≡ true → b ≡ key e.1 → (key e.1 == p) ≡ false
        other a b p t u s = subst (λ m. (m == p) ≡ false) s (apart a b p t u)
          where
            apart : (a b p : ℕ) → (a == b) ≡ false → (a == p) ≡ true → (b == p) ≡ false
            apart a b p t u = grind (arith, nat_tests)

    pub grown : (es new : List (ℕ × X)) (k : ℕ) (n : X) → KeysAreIds key es → k ≡ key n → new ≡ insert_entry (λ a b. a == b) es k n → Grown base es new n
    grown es new k n keys is inserted =
        let entries : new ≡ insert_entry (λ a b. a == b) es (key n) n = inserted ∙ ap (λ i. insert_entry (λ a b. a == b) es i n) is in
        let whole : Ascends by_key (in_order key base es) = in_order-ascends es in
        record {
          keys = subst (KeysAreIds key) (sym entries) (KeysAreIds-insert_entry es n keys);
          items =
              ap (in_order key base) entries
              ∙ told_by_finds (in_order key base (insert_entry (λ a b. a == b) es (key n) n)) (with_item by_key (in_order key base es) n) (in_order-ascends (insert_entry (λ a b. a == b) es (key n) n))
              (Ascends-with_item by_key (on_total key nat_cmp_total) (in_order key base es) n whole)
              (λ q. found-inserted es n q keys ∙ sym (found-with_item n q (in_order key base es) whole));
        }

  -- numbers that do not fall and differ ascend
  strict : (ks : List ℕ) → IsSorted nat_cmp ks → IsDistinct (λ a b. a == b) ks → Ascends nat_cmp ks
  strict [] up apart = tt
  strict (a ∷ []) up apart = (tt, tt)
  strict (a ∷ b ∷ ks) up apart =
      let rest = strict (b ∷ ks) (λ k d low below.
      let e : suc k + 1 ≡ suc (k + 1) = omega arith in
      subst (λ j. is_lt (nat_cmp (slice_index_or (a ∷ b ∷ ks) j d) (slice_index_or (b ∷ ks) k d)) ≡ false) e (up (suc k) d (omega arith) (omega arith))) (IsDistinct-tail (λ x y. x == y) a (b ∷ ks) apart) in
      let first : nat_cmp a b ≡ Less = above_of a b (up 0 a (omega arith) (omega arith)) (IsDistinct-head (λ x y. x == y) a (b ∷ ks) apart).0 in
      ((first, AllByRecursion-weaker _ _ (λ z h. nat_cmp_total.trans a b z first h) ks rest.0), rest)

  keyed_above : (e : ℕ × X) (es : List (ℕ × X)) → e.0 ≡ key e.1 → KeysAreIds key es → AllByRecursion (λ k. nat_cmp e.0 k ≡ Less) (keys_of es) → AllByRecursion (λ x. by_key e.1 x ≡ Less) (values_of es)
  keyed_above e [] i h up = tt
  keyed_above e (f ∷ es) i h up = ((λ j. nat_cmp (sym i j) (sym h.0 j)) ∙ up.0, keyed_above e es i h.1 up.1)

  keyed_ascends : (es : List (ℕ × X)) → KeysAreIds key es → Ascends nat_cmp (keys_of es) → Ascends by_key (values_of es)
  keyed_ascends [] h up = tt
  keyed_ascends (e ∷ es) h up = (keyed_above e es h.0 h.1 up.0, keyed_ascends es h.1 up.1)

  lookup-values : (es : List (ℕ × X)) (q : ℕ) → KeysAreIds key es → lookup (λ k. q == k) es ≡ found_at q (values_of es)
  lookup-values [] q h = refl
  lookup-values (e ∷ es) q h = λ i. cond ((nat_eq_equiv.symm q e.0 ∙ ap (λ k. k == q) h.0) i) (Some e.1) (lookup-values es q h.1 i)

  -- what a sort by the keys leaves is the elements by ascending identity
  pub sorted_values : (old new : List (ℕ × X)) → KeysAreIds key old → IsPermutation old new → IsSorted nat_cmp (keys_of new) → IsDistinct (λ a b. a == b) (keys_of new)
      → ((q : ℕ) → lookup (λ k. q == k) new ≡ lookup (λ k. q == k) old) → values_of new ≡ in_order key [] old
  sorted_values old new keys moved up apart looked =
      let P : ℕ × X → Type 0 = λ e. e.0 ≡ key e.1 in
      let kept : KeysAreIds key new = recursion_from_All P new (All-permutation P old new moved (All-from_recursion P old keys)) in
      told_by_finds (values_of new) (in_order key [] old) (keyed_ascends new kept (strict (keys_of new) up apart)) (in_order-ascends [] tt old)
      (λ q. sym (lookup-values new q kept) ∙ (looked q ∙ (sym (or_else-none (lookup (λ k. q == k) old)) ∙ lookup-found [] tt old q keys)))

  -- an element goes from those that ascend to the others, unless one of its identity is there
  module _ (x : X) (rest : List X) (up : Ascends by_key (x ∷ rest)) (es : List (ℕ × X)) (keys : KeysAreIds key es) where
    pub stays-among : is_some (lookup (λ k. key x == k) es) ≡ true → in_order key rest es ≡ in_order key (x ∷ rest) es
    stays-among there =
        told_by_finds (in_order key rest es) (in_order key (x ∷ rest) es) (in_order-ascends rest up.1 es) (in_order-ascends (x ∷ rest) up es)
        (λ q. sym (lookup-found rest up.1 es q keys) ∙ (hidden q ∙ lookup-found (x ∷ rest) up es q keys))
      where
        by_other : (o p r : Option X) → is_some o ≡ true → or_else o p ≡ or_else o r
        by_other (Some y) p r h = refl
        by_other None p r h = absurd (cc h)

        hidden : (q : ℕ) → or_else (lookup (λ k. q == k) es) (found_at q rest) ≡ or_else (lookup (λ k. q == k) es) (found_at q (x ∷ rest))
        hidden q =
            elim (key x == q) as (λ b. (key x == q) ≡ b → or_else (lookup (λ k. q == k) es) (found_at q rest) ≡ or_else (lookup (λ k. q == k) es) (cond b (Some x) (found_at q rest))) [
              | true ↦ λ t. by_other _ _ _ (ap (λ i. is_some (lookup (λ k. i == k) es)) (is_number (key x) q t) ∙ there)
              | false ↦ λ t. refl
            ] refl

    pub goes-among : lookup (λ k. key x == k) es ≡ None → in_order key rest (insert_entry (λ a b. a == b) es (key x) x) ≡ in_order key (x ∷ rest) es
    goes-among none =
        told_by_finds (in_order key rest (insert_entry (λ a b. a == b) es (key x) x)) (in_order key (x ∷ rest) es)
        (in_order-ascends rest up.1 (insert_entry (λ a b. a == b) es (key x) x)) (in_order-ascends (x ∷ rest) up es)
        (λ q. found-inserted rest up.1 es x q keys ∙ (ap (λ o. cond (key x == q) (Some x) o) (sym (lookup-found rest up.1 es q keys)) ∙ (turn q ∙ lookup-found (x ∷ rest) up es q keys)))
      where
        turn : (q : ℕ) → cond (key x == q) (Some x) (or_else (lookup (λ k. q == k) es) (found_at q rest)) ≡ or_else (lookup (λ k. q == k) es) (found_at q (x ∷ rest))
        turn q =
            elim (key x == q) as (λ b. (key x == q) ≡ b → cond b (Some x) (or_else (lookup (λ k. q == k) es) (found_at q rest)) ≡ or_else (lookup (λ k. q == k) es) (cond b (Some x) (found_at q rest))) [
              | true ↦ λ t. sym (ap (λ o. or_else o (Some x)) (ap (λ i. lookup (λ k. i == k) es) (is_number (key x) q t) ∙ none))
              | false ↦ λ t. refl
            ] refl

  less_kept : (x : X) (xs : List X) → AllByRecursion (λ y. nat_cmp (key y) (key x) ≡ Less) xs → filter (λ y. is_lt (by_key y x)) xs ≡ xs
  less_kept x [] h = refl
  less_kept x (y ∷ ys) h = rw h.0 (ap (λ zs. y ∷ zs) (less_kept x ys h.1))

  less_not_greater : (x : X) (xs : List X) → AllByRecursion (λ y. nat_cmp (key y) (key x) ≡ Less) xs → filter (λ y. is_gt (by_key y x)) xs ≡ []
  less_not_greater x [] h = refl
  less_not_greater x (y ∷ ys) h = rw h.0 (less_not_greater x ys h.1)

  -- an element whose identity is above all goes to the end
  pub goes_last : (x : X) (xs : List X) → AllByRecursion (λ y. nat_cmp (key y) (key x) ≡ Less) xs → xs ++ x ∷ [] ≡ with_item by_key xs x
  goes_last x xs h = sym (λ i. less_kept x xs h i ++ x ∷ less_not_greater x xs h i)

  -- where the last element of an ascending list is below an identity, so are all
  pub below_last : (id : ℕ) (x : X) (xs : List X) → Ascends by_key xs → nat_cmp (key x) id ≡ Less → x ≡ get_or xs (length xs - 1) x
      → AllByRecursion (λ y. nat_cmp (key y) id ≡ Less) xs
  below_last id x [] up low is = tt
  below_last id x (y ∷ []) up low is = (ap (λ z. nat_cmp (key z) id) (sym is) ∙ low, tt)
  below_last id x (y ∷ z ∷ zs) up low is =
      let e : length (y ∷ z ∷ zs) - 1 ≡ suc (length (z ∷ zs) - 1) = omega arith in
      let rest = below_last id x (z ∷ zs) up.1 low (is ∙ ap (λ i. get_or (y ∷ z ∷ zs) i x) e) in
      (nat_cmp_total.trans (key y) (key z) id up.0.0 rest.0, rest)

  -- a list to which such an element came
  pub record Longer (xs new : List X) (x : X) : Type 0 where
    pub ascends : Ascends by_key new
    pub items : new ≡ with_item by_key xs x

  no_entries : {A : Type 0} (es : List A) → length es ≡ 0 → es ≡ []
  no_entries [] h = refl
  no_entries (e ∷ es) h = absurd (omega (arith, h))

  pub longer : (xs new : List X) (x : X) (id : ℕ) → Ascends by_key xs → id ≡ key x → AllByRecursion (λ y. nat_cmp (key y) id ≡ Less) xs → new ≡ xs ++ x ∷ [] → Longer xs new x
  longer xs new x id up is below pushed =
      let last : new ≡ with_item by_key xs x = pushed ∙ goes_last x xs (subst (λ i. AllByRecursion (λ y. nat_cmp (key y) i ≡ Less) xs) is below) in
      record { ascends = subst (Ascends by_key) (sym last) (Ascends-with_item by_key (on_total key nat_cmp_total) xs x up); items = last }

  -- whether or not memory sufficed, the list ascends
  pub ascends_on : (b : Bool) (xs new : List X) (x : X) (id : ℕ) → Ascends by_key xs → id ≡ key x → AllByRecursion (λ y. nat_cmp (key y) id ≡ Less) xs
      → new ≡ (if b then xs ++ x ∷ [] else xs) → Ascends by_key new
  ascends_on true xs new x id up is below pushed = (longer xs new x id up is below pushed).ascends
  ascends_on false xs new x id up is below pushed = subst (Ascends by_key) (sym pushed) up

  -- where there are no others, the elements that ascend are all
  pub alone : (xs : List X) (es : List (ℕ × X)) → length es ≡ 0 → in_order key xs es ≡ xs
  alone xs es none = ap (in_order key xs) (no_entries es none)
