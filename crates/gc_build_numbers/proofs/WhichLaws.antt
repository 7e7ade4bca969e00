-- Which elements rows make, told element by element.
use Rattle.std.proofs.Common.{◌≡◌, ℕ, suc, zero, ◌+◌, ◌<◌, Bool, true, false, cond, ◌||◌, List, [], ◌∷◌, ◌++◌, length, get_or, set, take, drop, replicate, map, fold, filter, All, Option, Some, None, refl, sym, ap, ◌∙◌, subst, arith, add-one, append-nil, append_assoc, length-take-le, take-suc, drop_of_length-le}
use Rattle.std.proofs.Math.Seq.{take-length}
use Rattle.std.specs.List.{AllByRecursion, list_any}
use Rattle.std.specs.Option.{option_and_then}
use Rattle.std.specs.Ordering.{is_eq, is_lt, on}
use Rattle.std.specs.declared.cmp.Ordering.{Ordering}
use Rattle.std.specs.declared.cmp.Ordering.TheVariants.{Less, Equal, Greater}
use Rattle.std.proofs.lemmas.List.Elements.{All-from_recursion, filter-append}
use Rattle.std.proofs.lemmas.List.Folds.{list_any-append}
use Rattle.gc_base.specs.Ascending.{Ascends}
use Rattle.gc_base.proofs.Search.{AllByRecursion-weaker}
use Rattle.gc_rows.proofs.Members.{of_member, to_map}
use Rattle.gc_group.specs.Groups.{AreGroupsOf, is_key, key_order, rows_from, rows_with}
use Rattle.gc_group.specs.declared.grouping.Group.{Group}
use Rattle.gc_group.specs.declared.key.Key.{Key}
use Rattle.gc_group.proofs.KeyOrder.{key_order_total, key_order_exact}
use Rattle.gc_build_numbers.specs.Numbers.{has_key, is_below, which_has, with_place}
use Rattle.gc_build_numbers.specs.declared.numbered.Element.{Element}
use Rattle.gc_build_numbers.proofs.GroupsOf.{by_keys}

-- what a list becomes whose items were all written
pub written : {X : Type 0} (n : ℕ) (after before : List X) → length after ≡ length before → n ≡ length before → take n (after ++ drop (length after) before) ≡ after
written n after before long is =
    let none : drop (length after) before ≡ [] = drop_of_length-le before (omega arith) in
    (λ i. take n (after ++ none i)) ∙ ap (take n) (append-nil after) ∙ ap (λ m. take m after) (let e : n ≡ length after = omega arith in e) ∙ take-length after

-- where there is no element, no row makes one
pub none_made : (keys : List (Option Key)) → replicate (length keys) None ≡ map (option_and_then (which_has [])) keys
none_made [] = refl
none_made (None ∷ keys) = λ i. None ∷ none_made keys i
none_made (Some key ∷ keys) = λ i. None ∷ none_made keys i

-- the rows with a key are given a place
set_behind : {X : Type 0} (done rest : List X) (x y : X) → set (done ++ x ∷ rest) (length done) y ≡ done ++ y ∷ rest
set_behind [] rest x y = refl
set_behind (z ∷ done) rest x y = λ i. z ∷ set_behind done rest x y i

length_end : {X : Type 0} (xs : List X) (x : X) → length xs + 1 ≡ length (xs ++ x ∷ [])
length_end [] x = refl
length_end (y ∷ xs) x = let e = length_end xs x in omega arith

module _ (place : ℕ) (key : Key) (f : Option Key → Option ℕ) where
  abbrev made : Option Key → Option ℕ
  made k = cond (is_key key k) (Some place) (f k)

  given_from : (done : List (Option ℕ)) (n : ℕ) (keys : List (Option Key)) → n ≡ length done
      → fold (with_place place) (done ++ map f keys) (rows_from n key keys) ≡ done ++ map made keys
  given_from done n [] e = refl
  given_from done n (k ∷ keys) e =
      let next : (x : Option ℕ) → fold (with_place place) (done ++ x ∷ map f keys) (rows_from (n + 1) key keys) ≡ done ++ x ∷ map made keys =
      λ x. ap (λ xs. fold (with_place place) xs (rows_from (n + 1) key keys)) (sym (append_assoc done (x ∷ []) (map f keys)))
      ∙ given_from (done ++ x ∷ []) (n + 1) keys (ap (λ m. m + 1) e ∙ length_end done x) ∙ append_assoc done (x ∷ []) (map made keys) in
      elim (is_key key k) as (λ t. fold (with_place place) (done ++ f k ∷ map f keys) (cond t (n ∷ rows_from (n + 1) key keys) (rows_from (n + 1) key keys)) ≡ done ++ cond t (Some place) (f k) ∷ map made keys) [
        | true ↦ ap (λ xs. fold (with_place place) xs (rows_from (n + 1) key keys)) (ap (λ m. set (done ++ f k ∷ map f keys) m (Some place)) e ∙ set_behind done (map f keys) (f k) (Some place)) ∙ next (Some place)
        | false ↦ next (f k)
      ]

-- the place of one element more, which is above the others
or_true : (b : Bool) → (b || true) ≡ true
or_true true = refl
or_true false = refl

or_false : (b : Bool) → (b || false) ≡ b
or_false true = refl
or_false false = refl

all_kept : {X : Type 0} (p : X → Bool) (xs : List X) → AllByRecursion (λ x. p x ≡ true) xs → filter p xs ≡ xs
all_kept p [] h = refl
all_kept p (x ∷ xs) h = (λ i. cond (h.0 i) (x ∷ filter p xs) (filter p xs)) ∙ ap (λ ys. x ∷ ys) (all_kept p xs h.1)

abbrev AreBelow : Element → List Element → Type 0
AreBelow e es = AllByRecursion (λ x. key_order x.group.key e.group.key ≡ Less) es

module _ (e : Element) (key : Key) where
  none_has : (es : List Element) → AreBelow e es → key_order e.group.key key ≡ Less → list_any (has_key key) es ≡ false
  none_has [] h less = refl
  none_has (x ∷ es) h less =
      ap (λ o. is_eq o || list_any (has_key key) es) (key_order_total.trans x.group.key e.group.key key h.0 less) ∙ none_has es h.1 less

  all_below : (es : List Element) → AreBelow e es → key_order e.group.key key ≡ Equal → AllByRecursion (λ x. is_below key x ≡ true) es
  all_below es h tie =
      let same : e.group.key ≡ key = key_order_exact e.group.key key tie in
      AllByRecursion-weaker _ _ (λ x less. ap is_lt (ap (key_order x.group.key) (sym same) ∙ less)) es h

  -- as one element more stands to a key
  abbrev made_by : List Element → Ordering → Option ℕ
  made_by es o = cond (list_any (has_key key) es || (is_eq o || false)) (Some (length (filter (is_below key) es ++ cond (is_lt o) (e ∷ []) []))) None

  told : (es : List Element) → which_has (es ++ e ∷ []) key ≡ made_by es (key_order e.group.key key)
  told es = λ i. cond (list_any-append (has_key key) es (e ∷ []) i) (Some (length (filter-append (is_below key) es (e ∷ []) i))) None

  made_next : (es : List Element) (o : Ordering) → AreBelow e es → key_order e.group.key key ≡ o → cond (is_eq o) (Some (length es)) (which_has es key) ≡ made_by es o
  made_next es Less h is =
      let none : list_any (has_key key) es ≡ false = none_has es h is in
      (λ i. cond (none i) (Some (length (filter (is_below key) es))) None) ∙ sym (λ i. cond (none i || false) (Some (length (filter (is_below key) es ++ e ∷ []))) None)
  made_next es Equal h is =
      sym ((λ i. cond (or_true (list_any (has_key key) es) i) (Some (length (filter (is_below key) es ++ []))) None)
      ∙ ap (λ xs. Some (length xs)) (append-nil (filter (is_below key) es) ∙ all_kept (is_below key) es (all_below es h is)))
  made_next es Greater h is =
      λ i. cond (sym (or_false (list_any (has_key key) es)) i) (Some (length (sym (append-nil (filter (is_below key) es)) i))) None

  pub next_has : (es : List Element) → AreBelow e es → cond (has_key key e) (Some (length es)) (which_has es key) ≡ which_has (es ++ e ∷ []) key
  next_has es h = made_next es (key_order e.group.key key) h refl ∙ sym (told es)

all_made : (es : List Element) (e : Element) (keys : List (Option Key)) → AreBelow e es
    → map (made (length es) e.group.key (option_and_then (which_has es))) keys ≡ map (option_and_then (which_has (es ++ e ∷ []))) keys
all_made es e [] h = refl
all_made es e (None ∷ keys) h = λ i. None ∷ all_made es e keys h i
all_made es e (Some key ∷ keys) h = λ i. next_has e key es h i ∷ all_made es e keys h i

-- those before an element are below it
before_below : (es : List Element) (i : ℕ) (e : Element) → Ascends (on (λ (x : Element). x.group.key) key_order) es → i < length es → e ≡ get_or es i e → AreBelow e (take i es)
before_below [] i e up lt is = absurd (omega arith)
before_below (x ∷ es) zero e up lt is = tt
before_below (x ∷ es) (suc i) e up lt is =
    (of_member (λ y. key_order x.group.key y.group.key ≡ Less) es e up.0 (i, omega arith, sym is), before_below es i e up.1 (omega arith) is)

keys_twice : (es : List Element) → map (λ (g : Group). g.key) (map (λ (x : Element). x.group) es) ≡ map (λ (x : Element). x.group.key) es
keys_twice [] = refl
keys_twice (e ∷ es) = λ i. e.group.key ∷ keys_twice es i

-- the rows of a group are rows
rows_within : (n : ℕ) (key : Key) (keys : List (Option Key)) → AllByRecursion (λ row. row < n + length keys) (rows_from n key keys)
rows_within n key [] = tt
rows_within n key (k ∷ keys) =
    let later : AllByRecursion (λ row. row < n + suc (length keys)) (rows_from (n + 1) key keys) =
    AllByRecursion-weaker _ _ (λ row l. let m : row < n + 1 + length keys = l in omega (arith, m)) (rows_from (n + 1) key keys) (rows_within (n + 1) key keys) in
    elim (is_key key k) as (λ t. AllByRecursion (λ row. row < n + suc (length keys)) (cond t (n ∷ rows_from (n + 1) key keys) (rows_from (n + 1) key keys))) [
      | true ↦ (omega arith, later)
      | false ↦ later
    ]

length_mapped : {X Y : Type 0} (f : X → Y) (xs : List X) → length (map f xs) ≡ length xs
length_mapped f [] = refl
length_mapped f (x ∷ xs) = ap suc (length_mapped f xs)

module _ (keys : List (Option Key)) (es : List Element) (i : ℕ) (e : Element) (groups : AreGroupsOf keys (map (λ (x : Element). x.group) es)) (lt : i < length es) (is : e ≡ get_or es i e) where
  own_rows : e.group.rows ≡ rows_with e.group.key keys
  own_rows = of_member (λ g. g.rows ≡ rows_with g.key keys) (map (λ (x : Element). x.group) es) e.group groups.rows (to_map (λ (x : Element). x.group) es e (i, lt, sym is))

  -- so each of them has its place in the list of rows
  pub all_within : (which : List (Option ℕ)) → which ≡ map (option_and_then (which_has (take i es))) keys → All (λ row. row < length which) e.group.rows
  all_within which so_far =
      let long : length keys ≡ length which = sym (ap length so_far ∙ length_mapped (option_and_then (which_has (take i es))) keys) in
      All-from_recursion (λ row. row < length which) e.group.rows
      (subst (AllByRecursion (λ row. row < length which)) (sym own_rows)
      (AllByRecursion-weaker _ _ (λ row l. let m : row < 0 + length keys = l in omega (arith, m, long)) (rows_with e.group.key keys) (rows_within 0 e.group.key keys)))

  -- and once they are given the place of this element, the rows are told by one element more
  pub next_made : (which after : List (Option ℕ)) → which ≡ map (option_and_then (which_has (take i es))) keys → after ≡ fold (with_place i) which e.group.rows
      → after ≡ map (option_and_then (which_has (take (i + 1) es))) keys
  next_made which after so_far given =
      let before : List Element = take i es in
      let long : i ≡ length before = sym (length-take-le i es (omega arith)) in
      let up : Ascends (on (λ (x : Element). x.group.key) key_order) es = by_keys es (subst (Ascends key_order) (keys_twice es) groups.ascend) in
      let more : take (i + 1) es ≡ before ++ e ∷ [] = ap (λ n. take n es) (add-one i) ∙ take-suc es i e lt ∙ ap (λ x. before ++ x ∷ []) (sym is) in
      given ∙ (λ j. fold (with_place i) (so_far j) (own_rows j)) ∙ given_from i e.group.key (option_and_then (which_has before)) [] 0 keys refl
      ∙ ap (λ n. map (made n e.group.key (option_and_then (which_has before))) keys) long
      ∙ all_made before e keys (before_below es i e up lt is) ∙ ap (λ xs. map (option_and_then (which_has xs)) keys) (sym more)
