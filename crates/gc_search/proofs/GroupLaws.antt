-- Walks that wait in groups by cost and number of edges.
use Rattle.std.proofs.Common.{◌≡◌, ℕ, ◌<◌, ◌⊎◌, Bool, true, false, cond, List, [], ◌∷◌, ◌++◌, length, Some, None, inl, inr, refl, sym, ap, subst, ◌∙◌, arith, length-append, Ordering, Less, Equal, Greater, Vec}
use Rattle.std.specs.BTreeMap.{insert_entry, is_at}
use Rattle.std.specs.BTreeMap.Range.{IsLtBy}
use Rattle.std.specs.List.{All, AllByRecursion, flat_map}
use Rattle.std.specs.List.Sorted.{IsPermutation}
use Rattle.std.specs.Map.{keys_of, lookup, set_value}
use Rattle.std.specs.Ordering.{MatchOrdering, match_ordering, nat_cmp, is_eq, ordering_then}
use Rattle.std.proofs.lemmas.Cmp.{ranked}
use Rattle.std.proofs.lemmas.List.Elements.{All-contains}
use Rattle.std.proofs.lemmas.List.Sorted.{IsPermutation-sym, IsPermutation-trans, IsPermutation-middle, IsPermutation-append_left, IsPermutation-append_right, IsPermutation-refl, IsPermutation-to_front}
use Rattle.gc_base.proofs.SetLaws.{AllByRecursion-append}
use Rattle.gc_search.specs.Groups.{key_of, key_order, all_of, AreGroups, Groups, IsGroup}
use Rattle.gc_search.specs.Links.{Link}
use Rattle.gc_search.specs.Passages.{Has}
use Rattle.gc_search.specs.Waiting.{AreFirst}
use Rattle.gc_search.proofs.Bridge.{contains_of}
use Rattle.gc_search.proofs.Flat.{Has_cases, Has_map}
use Rattle.gc_search.proofs.LoopLaws.{all_has}
use Rattle.gc_search.proofs.WaitingLaws.{queue}

-- keys by their order
less_is : (a b c d : ℕ) → ordering_then (nat_cmp a c) (nat_cmp b d) ≡ Less → (a < c) ⊎ ((a ≡ c) × (b < d))
less_is a b c d h = by (nat_cmp a c) (ranked a c (nat_cmp a c) refl) h
  where
    second : (o : Ordering) → MatchOrdering o (b < d) (b ≡ d) (d < b) → o ≡ Less → b < d
    second Less m e = m
    second Equal m e = cc
    second Greater m e = cc

    by : (o : Ordering) → MatchOrdering o (a < c) (a ≡ c) (c < a) → ordering_then o (nat_cmp b d) ≡ Less → (a < c) ⊎ ((a ≡ c) × (b < d))
    by Less m e = inl m
    by Equal m e = inr (m, second (nat_cmp b d) (ranked b d (nat_cmp b d) refl) e)
    by Greater m e = cc

same_number : (a c : ℕ) → is_eq (nat_cmp a c) ≡ true → a ≡ c
same_number a c h = by (nat_cmp a c) (ranked a c (nat_cmp a c) refl) h
  where
    by : (o : Ordering) → MatchOrdering o (a < c) (a ≡ c) (c < a) → is_eq o ≡ true → a ≡ c
    by Less m e = cc
    by Equal m e = m
    by Greater m e = cc

same_key : (p q : ℕ × ℕ) → is_eq (key_order p q) ≡ true → p ≡ q
same_key p q h = by (nat_cmp p.0 q.0) (ranked p.0 q.0 (nat_cmp p.0 q.0) refl) h
  where
    by : (o : Ordering) → MatchOrdering o (p.0 < q.0) (p.0 ≡ q.0) (q.0 < p.0) → is_eq (ordering_then o (nat_cmp p.1 q.1)) ≡ true → p ≡ q
    by Less m e = cc
    by Equal m e = let n = same_number p.1 q.1 e in λ i. (m i, n i)
    by Greater m e = cc

has_flat : {X Y : Type 0} (f : X → List Y) (xs : List X) (y : Y) → Has (flat_map f xs) y → (x : X) × Has xs x × Has (f x) y
has_flat f [] y h = elim h [ ]
has_flat f (x ∷ xs) y h = elim (Has_cases (f x) (flat_map f xs) y h) [
  | inl g ↦ (x, inl refl, g)
  | inr g ↦ let from = has_flat f xs y g in (from.0, inr from.1, from.2)
]

behind : (xs ys zs : List Link) (a : Link) → IsPermutation (a ∷ ys) zs → IsPermutation (a ∷ (xs ++ ys)) (xs ++ zs)
behind xs ys zs a p =
    IsPermutation-trans (a ∷ (xs ++ ys)) (xs ++ a ∷ ys) (xs ++ zs) (IsPermutation-sym (xs ++ a ∷ ys) (a ∷ (xs ++ ys)) (IsPermutation-middle xs a ys)) (IsPermutation-append_right xs (a ∷ ys) zs p)

pub pushed : (xs ys : List Link) (a : Link) → IsPermutation (a ∷ (xs ++ ys)) ((xs ++ a ∷ []) ++ ys)
pushed xs ys a = IsPermutation-append_left ys (a ∷ xs) (xs ++ a ∷ []) (IsPermutation-sym (xs ++ a ∷ []) (a ∷ xs) (IsPermutation-to_front xs a))

module _ {A : Type 0} where
  -- the first of some groups has what is alike, and sooner than all others
  pub first_group : (p : (ℕ × ℕ) × Vec Link A) (rest : Groups A) → AreGroups (p ∷ rest) → All (IsLtBy key_order p.0) (keys_of rest) → AreFirst (queue p.1.items (all_of rest))
  first_group p rest groups above =
      let here : (x : Link) → Has p.1.items x → key_of x ≡ p.0 = λ x h. all_has (λ l. key_of l ≡ p.0) p.1.items x (groups.0).alike h in
      record {
        alike = λ x y h g. let e = here x h ∙ sym (here y g) in (ap (λ (k : ℕ × ℕ). k.0) e, ap (λ (k : ℕ × ℕ). k.1) e);
        sooner = λ x y h g.
            let from = has_flat (λ (group : (ℕ × ℕ) × Vec Link A). group.1.items) rest y g in
            let its : key_of y ≡ (from.0).0 = all_has (λ l. key_of l ≡ (from.0).0) (from.0).1.items y (all_has IsGroup rest from.0 groups.1 from.1).alike from.2 in
            let less = All-contains (IsLtBy key_order p.0) (keys_of rest) (from.0).0 above (contains_of (keys_of rest) (from.0).0 (Has_map (λ (group : (ℕ × ℕ) × Vec Link A). group.0) rest from.0 from.1)) in
            less_is x.cost x.edges y.cost y.edges (subst (λ k. key_order (key_of x) k ≡ Less) (sym its) (subst (λ k. key_order k (from.0).0 ≡ Less) (sym (here x h)) less));
        some = λ none. elim ((groups.0).some none) [ ];
      }

  -- one more walk in a group
  module _ (k : ℕ × ℕ) (v w : Vec Link A) where
    pub one_more : (a : Link) → w.items ≡ v.items ++ a ∷ [] → (es : Groups A) → Some v ≡ lookup (is_at (key_order k)) es → IsPermutation (a ∷ all_of es) (all_of (set_value (is_at (key_order k)) es w))
    one_more a more [] h = cc
    one_more a more (e ∷ es) h = by (one_more a more es) (is_eq (key_order k e.0)) h
      where
        by : (Some v ≡ lookup (is_at (key_order k)) es → IsPermutation (a ∷ all_of es) (all_of (set_value (is_at (key_order k)) es w)))
            → (b : Bool) → Some v ≡ cond b (Some e.1) (lookup (is_at (key_order k)) es)
            → IsPermutation (a ∷ (e.1.items ++ all_of es)) (all_of (cond b ((e.0, w) ∷ es) (e ∷ set_value (is_at (key_order k)) es w)))
        by next true g =
            let d : v ≡ e.1 = cc in
            let is : w.items ≡ e.1.items ++ a ∷ [] = more ∙ ap (λ (u : Vec Link A). u.items ++ a ∷ []) d in
            subst (λ (l : List Link). IsPermutation (a ∷ (e.1.items ++ all_of es)) (l ++ all_of es)) (sym is) (pushed e.1.items (all_of es) a)
        by next false g = behind e.1.items (all_of es) (all_of (set_value (is_at (key_order k)) es w)) a (next g)

    -- what stays a group
    pub group_same : w.items ≡ v.items → IsGroup (k, v) → IsGroup (k, w)
    group_same is group = record { some = λ none. group.some (sym is ∙ none); alike = subst (AllByRecursion (λ l. key_of l ≡ k)) (sym is) group.alike }

    pub group_more : (a : Link) → key_of a ≡ k → w.items ≡ v.items ++ a ∷ [] → IsGroup (k, v) → IsGroup (k, w)
    group_more a its is group = record {
      some = λ none. let n : length (v.items ++ a ∷ []) ≡ 0 = sym (ap length is) ∙ ap length none in omega (arith, n, length-append v.items (a ∷ []));
      alike = subst (AllByRecursion (λ l. key_of l ≡ k)) (sym is) (AllByRecursion-append (λ l. key_of l ≡ k) v.items (a ∷ []) group.alike (its, tt));
    }

    pub still_groups : (IsGroup (k, v) → IsGroup (k, w)) → (es : Groups A) → Some v ≡ lookup (is_at (key_order k)) es → AreGroups es → AreGroups (set_value (is_at (key_order k)) es w)
    still_groups still [] h groups = cc
    still_groups still (e ∷ es) h groups = by (λ g. still_groups still es g groups.1) (is_eq (key_order k e.0)) refl h
      where
        by : (Some v ≡ lookup (is_at (key_order k)) es → AreGroups (set_value (is_at (key_order k)) es w))
            → (b : Bool) → is_eq (key_order k e.0) ≡ b → Some v ≡ cond b (Some e.1) (lookup (is_at (key_order k)) es)
            → AreGroups (cond b ((e.0, w) ∷ es) (e ∷ set_value (is_at (key_order k)) es w))
        by next true test g =
            let d : e.1 ≡ v = cc in
            let key : e.0 ≡ k = sym (same_key k e.0 test) in
            let was : IsGroup (k, v) = subst (λ (p : ℕ × ℕ). IsGroup (p, v)) key (subst (λ (u : Vec Link A). IsGroup (e.0, u)) d groups.0) in
            (subst (λ (p : ℕ × ℕ). IsGroup (p, w)) (sym key) (still was), groups.1)
        by next false test g = (groups.0, next g)

  -- a new group
  module _ (k : ℕ × ℕ) (a : Link) (v : Vec Link A) (one : v.items ≡ a ∷ []) where
    pub new_group : (es : Groups A) → None ≡ lookup (is_at (key_order k)) es → IsPermutation (a ∷ all_of es) (all_of (insert_entry key_order es k v))
    new_group [] h = subst (λ (l : List Link). IsPermutation (a ∷ []) (l ++ [])) (sym one) (IsPermutation-refl (a ∷ []))
    new_group (e ∷ es) h = by (new_group es) (key_order k e.0) h
      where
        by : (None ≡ lookup (is_at (key_order k)) es → IsPermutation (a ∷ all_of es) (all_of (insert_entry key_order es k v)))
            → (o : Ordering) → None ≡ cond (is_eq o) (Some e.1) (lookup (is_at (key_order k)) es)
            → IsPermutation (a ∷ (e.1.items ++ all_of es)) (all_of (match_ordering o ((k, v) ∷ e ∷ es) ((e.0, v) ∷ es) (e ∷ insert_entry key_order es k v)))
        by next Less g = subst (λ (l : List Link). IsPermutation (a ∷ (e.1.items ++ all_of es)) (l ++ (e.1.items ++ all_of es))) (sym one) (IsPermutation-refl (a ∷ (e.1.items ++ all_of es)))
        by next Equal g = cc
        by next Greater g = behind e.1.items (all_of es) (all_of (insert_entry key_order es k v)) a (next g)

    single : key_of a ≡ k → IsGroup (k, v)
    single its = record {
      some = λ none. let n : length {A = Link} (a ∷ []) ≡ 0 = sym (ap length one) ∙ ap length none in omega (arith, n);
      alike = subst (AllByRecursion (λ l. key_of l ≡ k)) (sym one) (its, tt);
    }

    pub groups_more : key_of a ≡ k → (es : Groups A) → None ≡ lookup (is_at (key_order k)) es → AreGroups es → AreGroups (insert_entry key_order es k v)
    groups_more its [] h groups = (single its, tt)
    groups_more its (e ∷ es) h groups = by (λ g. groups_more its es g groups.1) (key_order k e.0) h
      where
        by : (None ≡ lookup (is_at (key_order k)) es → AreGroups (insert_entry key_order es k v))
            → (o : Ordering) → None ≡ cond (is_eq o) (Some e.1) (lookup (is_at (key_order k)) es)
            → AreGroups (match_ordering o ((k, v) ∷ e ∷ es) ((e.0, v) ∷ es) (e ∷ insert_entry key_order es k v))
        by next Less g = (single its, groups)
        by next Equal g = cc
        by next Greater g = (groups.0, next g)

-- some groups have some walks
pub some_there : (xs : List Link) → (xs ≡ [] → ⊥) → 0 < length xs
some_there [] some = elim (some refl) [ ]
some_there (x ∷ xs) some = omega arith

pub both_none : {X : Type 0} (xs ys : List X) → xs ++ ys ≡ [] → (xs ≡ []) × (ys ≡ [])
both_none [] ys e = (refl, e)
both_none (x ∷ xs) ys e = cc

pub some_waiting : {A : Type 0} (es : Groups A) → AreGroups es → 0 < length es → all_of es ≡ [] → ⊥
some_waiting [] groups some e = omega (arith, some)
some_waiting (group ∷ es) groups some e = (groups.0).some (both_none group.1.items (all_of es) e).0

pub none_waiting : {A : Type 0} (es : Groups A) → length es ≡ 0 → all_of es ≡ []
none_waiting [] none = refl
none_waiting (group ∷ es) none = absurd (omega (arith, none))
