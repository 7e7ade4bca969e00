-- What gathering makes of rows whose keys do not fall, and of rows in any order once they are sorted.
use Rattle.std.proofs.Common.{◌≡◌, ℕ, suc, ◌+◌, ◌≤◌, ◌<◌, Bool, true, false, cond, not, ◌&&◌, List, [], ◌∷◌, ◌++◌, length, get_or, take, drop, map, Option, Some, None, refl, sym, ap, ◌∙◌, subst, arith, append-nil, append_assoc, ⊎_elim}
use Rattle.std.specs.Cmp.{IsTotalOrder, tied_itself}
use Rattle.std.specs.FinMap.{IsAntisymmetric}
use Rattle.std.specs.List.{AllByRecursion, Contains, filter, prefix_len}
use Rattle.std.specs.List.Sorted.{IsPermutation, IsSortedByKey, IsStableByKey}
use Rattle.std.specs.Ordering.{is_eq, is_lt, ordering_reverse}
use Rattle.std.specs.declared.cmp.Ordering.{Ordering}
use Rattle.std.specs.declared.cmp.Ordering.TheVariants.{Less, Equal, Greater}
use Rattle.std.proofs.lemmas.List.Sorted.{Contains-permutation, IsPermutation-map, IsPermutation-sym, ranks_by, sorted_far}
use Rattle.gc_base.specs.Ascending.{Ascends}
use Rattle.gc_base.proofs.Search.{AllByRecursion-weaker}
use Rattle.gc_group.specs.Gathered.{AreGathered, KeyedRow, alone, keyed_from, keyed_rows, listed_with}
use Rattle.gc_group.specs.Groups.{AreGroupsOf, held_keys, key_order, rows_from}
use Rattle.gc_group.specs.declared.grouping.Group.{Group}
use Rattle.gc_group.specs.declared.key.Key.{Key}
use Rattle.gc_group.proofs.KeyOrder.{key_order_total, key_order_exact}
use Rattle.gc_rows.specs.Tables.{HasExactly}
use Rattle.gc_rows.proofs.Members.{AllByRecursion-map, contains_here, contains_later, cons_cases, of_member}
use Rattle.gc_rows.proofs.SortLaws.{tie_is}

-- how one key stands to another, and that other to it
less_by : (a b : Ordering) → b ≡ ordering_reverse a → is_eq a ≡ false → is_lt b ≡ false → a ≡ Less
less_by Less b e h k = refl
less_by Equal b e h k = cc
less_by Greater b e h k = absurd (cc (e, k))

untied_by : (a b : Ordering) → b ≡ ordering_reverse a → a ≡ Less → is_eq b ≡ false
untied_by a b e h = ap is_eq (e ∙ ap ordering_reverse h)

tie_by : (a b : Ordering) → b ≡ ordering_reverse a → not (is_lt a) && not (is_lt b) ≡ is_eq a
tie_by Less b e = refl
tie_by Equal b e = ap (λ o. not (is_lt o)) e
tie_by Greater b e = ap (λ o. not (is_lt o)) e

both : {X : Type 0} (P Q : X → Type 0) (xs : List X) → AllByRecursion P xs → AllByRecursion Q xs → AllByRecursion (λ x. P x × Q x) xs
both P Q [] h k = tt
both P Q (x ∷ xs) h k = ((h.0, k.0), both P Q xs h.1 k.1)

-- a group with a row more
abbrev with_row : Group → ℕ → Group
with_row g n = record { key = g.key; rows = g.rows ++ n ∷ [] }

module _ (cmp : Key → Key → Ordering) where
  -- a group with those of the rows that have its key, and then the others
  abbrev pub gathered_from : Group → List KeyedRow → List Group
  gathered_from last [] = last ∷ []
  gathered_from last (r ∷ rows) = cond (is_eq (cmp last.key r.key)) (gathered_from (with_row last r.row) rows) (last ∷ gathered_from (alone r) rows)

  -- no key is below one that stands before it
  abbrev NotBelow : Key → List KeyedRow → Type 0
  NotBelow key rows = AllByRecursion (λ r. is_lt (cmp r.key key) ≡ false) rows

  abbrev Rise : List KeyedRow → Type 0
  Rise [] = Unit {0}
  Rise (r ∷ rows) = NotBelow r.key rows × Rise rows

  abbrev listed : Key → List KeyedRow → List ℕ
  listed key rows = map (λ r. r.row) (filter (λ r. is_eq (cmp key r.key)) rows)

  -- the rows with a key, those of a group first
  abbrev rows_in : Group → List KeyedRow → Key → List ℕ
  rows_in last rows key = cond (is_eq (cmp key last.key)) (last.rows ++ listed key rows) (listed key rows)

  module _ (o : IsTotalOrder cmp) (exact : IsAntisymmetric cmp) where
    same_key : (a b : Key) → is_eq (cmp a b) ≡ true → a ≡ b
    same_key a b h = exact a b (tie_is _ h)

    differs_less : (a b : Key) → is_eq (cmp a b) ≡ false → is_lt (cmp b a) ≡ false → cmp a b ≡ Less
    differs_less a b h k = less_by (cmp a b) (cmp b a) (o.antisymm b a) h k

    less_before : (a b c : Key) → cmp a b ≡ Less → is_lt (cmp c b) ≡ false → cmp a c ≡ Less
    less_before a b c less h =
        elim (is_eq (cmp b c)) as (λ t. is_eq (cmp b c) ≡ t → cmp a c ≡ Less) [
          | true ↦ λ e. subst (λ k. cmp a k ≡ Less) (same_key b c e) less
          | false ↦ λ e. o.trans a b c less (differs_less b c e h)
        ] refl

    itself : (a : Key) → is_lt (cmp a a) ≡ false
    itself a = ap is_lt (tied_itself o a)

    -- keys that are not below one, which is below another
    all_less : (a b : Key) (rows : List KeyedRow) → cmp a b ≡ Less → NotBelow b rows → AllByRecursion (λ r. cmp a r.key ≡ Less) rows
    all_less a b rows less h = AllByRecursion-weaker _ _ (λ r k. less_before a b r.key less k) rows h

    not_below : (key : Key) (last : Group) (rows : List KeyedRow) → is_lt (cmp last.key key) ≡ false → NotBelow key rows
        → AllByRecursion (λ g. is_lt (cmp g.key key) ≡ false) (gathered_from last rows)
    not_below key last [] h k = (h, tt)
    not_below key last (r ∷ rows) h k =
        elim (is_eq (cmp last.key r.key)) as (λ t. AllByRecursion (λ g. is_lt (cmp g.key key) ≡ false) (cond t (gathered_from (with_row last r.row) rows) (last ∷ gathered_from (alone r) rows))) [
          | true ↦ not_below key (with_row last r.row) rows h k.1
          | false ↦ (h, not_below key (alone r) rows k.0 k.1)
        ]

    ascends : (last : Group) (rows : List KeyedRow) → NotBelow last.key rows → Rise rows → Ascends cmp (map (λ g. g.key) (gathered_from last rows))
    ascends last [] h up = (tt, tt)
    ascends last (r ∷ rows) h up =
        elim (is_eq (cmp last.key r.key)) as (λ t. is_eq (cmp last.key r.key) ≡ t → Ascends cmp (map (λ g. g.key) (cond t (gathered_from (with_row last r.row) rows) (last ∷ gathered_from (alone r) rows)))) [
          | true ↦ λ t. ascends (with_row last r.row) rows h.1 up.1
          | false ↦ λ t.
              let less : cmp last.key r.key ≡ Less = differs_less last.key r.key t h.0 in (
                AllByRecursion-map (λ k. cmp last.key k ≡ Less) (λ g. g.key) (gathered_from (alone r) rows)
                    (AllByRecursion-weaker _ _ (λ g k. less_before last.key r.key g.key less k) (gathered_from (alone r) rows) (not_below r.key (alone r) rows (itself r.key) up.0)),
                ascends (alone r) rows up.0 up.1,
              )
        ] refl

    -- the keys are those of the group and of the rows
    sound : (last : Group) (rows : List KeyedRow) → AllByRecursion (λ g. Contains (last.key ∷ map (λ r. r.key) rows) g.key) (gathered_from last rows)
    sound last [] = (contains_here last.key [], tt)
    sound last (r ∷ rows) =
        let keys : List Key = map (λ r. r.key) rows in
        elim (is_eq (cmp last.key r.key)) as (λ t. AllByRecursion (λ g. Contains (last.key ∷ r.key ∷ keys) g.key) (cond t (gathered_from (with_row last r.row) rows) (last ∷ gathered_from (alone r) rows))) [
          | true ↦ AllByRecursion-weaker _ _ (λ g m.
              ⊎_elim (λ e. subst (Contains (last.key ∷ r.key ∷ keys)) e (contains_here last.key (r.key ∷ keys)))
              (λ n. contains_later last.key (r.key ∷ keys) g.key (contains_later r.key keys g.key n)) (cons_cases last.key keys g.key m)) _ (sound (with_row last r.row) rows)
          | false ↦ (contains_here last.key (r.key ∷ keys), AllByRecursion-weaker _ _ (λ g m. contains_later last.key (r.key ∷ keys) g.key m) _ (sound (alone r) rows))
        ]

    first_key : (last : Group) (rows : List KeyedRow) → Contains (map (λ g. g.key) (gathered_from last rows)) last.key
    first_key last [] = contains_here last.key []
    first_key last (r ∷ rows) =
        elim (is_eq (cmp last.key r.key)) as (λ t. Contains (map (λ g. g.key) (cond t (gathered_from (with_row last r.row) rows) (last ∷ gathered_from (alone r) rows))) last.key) [
          | true ↦ first_key (with_row last r.row) rows
          | false ↦ contains_here last.key _
        ]

    complete : (last : Group) (rows : List KeyedRow) → AllByRecursion (λ r. Contains (map (λ g. g.key) (gathered_from last rows)) r.key) rows
    complete last [] = tt
    complete last (r ∷ rows) =
        elim (is_eq (cmp last.key r.key)) as (λ t. is_eq (cmp last.key r.key) ≡ t
        → AllByRecursion (λ r'. Contains (map (λ g. g.key) (cond t (gathered_from (with_row last r.row) rows) (last ∷ gathered_from (alone r) rows))) r'.key) (r ∷ rows)) [
          | true ↦ λ t. (subst (Contains (map (λ g. g.key) (gathered_from (with_row last r.row) rows))) (same_key last.key r.key t) (first_key (with_row last r.row) rows), complete (with_row last r.row) rows)
          | false ↦ λ t. (
            contains_later last.key _ r.key (first_key (alone r) rows),
            AllByRecursion-weaker _ _ (λ r' m. contains_later last.key _ r'.key m) rows (complete (alone r) rows),
          )
        ] refl

    -- the rows of each group
    listed_more : (key : Key) (r : KeyedRow) (rows : List KeyedRow) → cond (is_eq (cmp key r.key)) (r.row ∷ listed key rows) (listed key rows) ≡ listed key (r ∷ rows)
    listed_more key r rows =
        elim (is_eq (cmp key r.key)) as (λ t. cond t (r.row ∷ listed key rows) (listed key rows)
        ≡ map (λ r. r.row) (cond t (r ∷ filter (λ r. is_eq (cmp key r.key)) rows) (filter (λ r. is_eq (cmp key r.key)) rows))) [
          | true ↦ refl
          | false ↦ refl
        ]

    listed_none : (key : Key) (rows : List KeyedRow) → AllByRecursion (λ r. cmp key r.key ≡ Less) rows → listed key rows ≡ []
    listed_none key [] h = refl
    listed_none key (r ∷ rows) h = sym (listed_more key r rows) ∙ ap (λ a. cond (is_eq a) (r.row ∷ listed key rows) (listed key rows)) h.0 ∙ listed_none key rows h.1

    -- a row of the group's key goes to the group
    taken : (last : Group) (r : KeyedRow) (rows : List KeyedRow) (key : Key) → last.key ≡ r.key → rows_in (with_row last r.row) rows key ≡ rows_in last (r ∷ rows) key
    taken last r rows key e =
        elim (is_eq (cmp key last.key)) as (λ t. cond t ((last.rows ++ r.row ∷ []) ++ listed key rows) (listed key rows)
        ≡ cond t (last.rows ++ cond t (r.row ∷ listed key rows) (listed key rows)) (cond t (r.row ∷ listed key rows) (listed key rows))) [
          | true ↦ append_assoc last.rows (r.row ∷ []) (listed key rows)
          | false ↦ refl
        ]
        ∙ (λ i.
        let now : List ℕ = cond (is_eq (cmp key (e i))) (r.row ∷ listed key rows) (listed key rows) in
        cond (is_eq (cmp key last.key)) (last.rows ++ now) now)
        ∙ ap (λ ns. cond (is_eq (cmp key last.key)) (last.rows ++ ns) ns) (listed_more key r rows)

    -- one of another key begins a group
    begun : (last : Group) (r : KeyedRow) (rows : List KeyedRow) (key : Key) → is_eq (cmp key last.key) ≡ false → rows_in (alone r) rows key ≡ rows_in last (r ∷ rows) key
    begun last r rows key e = listed_more key r rows ∙ ap (λ t. cond t (last.rows ++ listed key (r ∷ rows)) (listed key (r ∷ rows))) (sym e)

    own_rows : (last : Group) (rows : List KeyedRow) → listed last.key rows ≡ [] → last.rows ≡ rows_in last rows last.key
    own_rows last rows none =
        sym (ap (λ a. cond (is_eq a) (last.rows ++ listed last.key rows) (listed last.key rows)) (tied_itself o last.key) ∙ ap (λ ns. last.rows ++ ns) none ∙ append-nil last.rows)

    has_rows : (last : Group) (rows : List KeyedRow) → NotBelow last.key rows → Rise rows → AllByRecursion (λ g. g.rows ≡ rows_in last rows g.key) (gathered_from last rows)
    has_rows last [] h up = (own_rows last [] refl, tt)
    has_rows last (r ∷ rows) h up =
        elim (is_eq (cmp last.key r.key)) as (λ t. is_eq (cmp last.key r.key) ≡ t
        → AllByRecursion (λ g. g.rows ≡ rows_in last (r ∷ rows) g.key) (cond t (gathered_from (with_row last r.row) rows) (last ∷ gathered_from (alone r) rows))) [
          | true ↦ λ t. AllByRecursion-weaker _ _ (λ g k. k ∙ taken last r rows g.key (same_key last.key r.key t)) _ (has_rows (with_row last r.row) rows h.1 up.1)
          | false ↦ λ t.
              let less : cmp last.key r.key ≡ Less = differs_less last.key r.key t h.0 in
              let apart : AllByRecursion (λ g. is_lt (cmp g.key r.key) ≡ false) (gathered_from (alone r) rows) = not_below r.key (alone r) rows (itself r.key) up.0 in (
                own_rows last (r ∷ rows) (listed_none last.key (r ∷ rows) (less, all_less last.key r.key rows less up.0)),
                AllByRecursion-weaker _ _ (λ g k. k.0 ∙ begun last r rows g.key (untied_by _ _ (o.antisymm g.key last.key) (less_before last.key r.key g.key less k.1))) _
                    (both _ _ _ (has_rows (alone r) rows up.0 up.1) apart),
              )
        ] refl

    -- a list that is sorted by key
    rise_all : (r : KeyedRow) (rows : List KeyedRow) → ((k : ℕ) (d : KeyedRow) → k < length rows → is_lt (cmp (get_or rows k d).key r.key) ≡ false) → NotBelow r.key rows
    rise_all r [] h = tt
    rise_all r (x ∷ rows) h = (h 0 x (omega arith), rise_all r rows (λ k d below. h (suc k) d (omega arith)))

    rise_far : (rows : List KeyedRow) → ((i j : ℕ) (d : KeyedRow) → i ≤ j → j < length rows → is_lt (cmp (get_or rows j d).key (get_or rows i d).key) ≡ false) → Rise rows
    rise_far [] up = tt
    rise_far (r ∷ rows) up = (
      rise_all r rows (λ k d below. up 0 (suc k) d (omega arith) (omega arith)),
      rise_far rows (λ i j d le below. up (suc i) (suc j) d (omega arith) (omega arith)),
    )

    rise : (rows : List KeyedRow) → IsSortedByKey (λ r. r.key) cmp rows → Rise rows
    rise rows up = rise_far rows (sorted_far _ (ranks_by o (λ r. r.key)) rows up)

    -- a stable sort keeps the rows of each key in order
    kept : (xs ys : List KeyedRow) → IsStableByKey (λ r. r.key) cmp xs ys → (key : Key) → listed key ys ≡ listed key xs
    kept xs ys stable key =
        let r : KeyedRow = record { key = key; row = 0 } in
        ap (map (λ x. x.row))
        ((λ i. filter (λ x. sym (tie_by (cmp key x.key) (cmp x.key key) (o.antisymm x.key key)) i) ys) ∙ stable r ∙ (λ i. filter (λ x. tie_by (cmp key x.key) (cmp x.key key) (o.antisymm x.key key) i) xs))

-- what is made of rows whose keys do not fall are their groups
gathered_all : (first : KeyedRow) (rows : List KeyedRow) → IsSortedByKey (λ r. r.key) key_order (first ∷ rows) → AreGathered (first ∷ rows) (gathered_from key_order (alone first) rows)
gathered_all first rows in_order =
    let up = rise key_order key_order_total key_order_exact (first ∷ rows) in_order in
    let keys : List Key = map (λ (r : KeyedRow). r.key) rows in
    let made : List Group = gathered_from key_order (alone first) rows in
    record {
      ascend = ascends key_order key_order_total key_order_exact (alone first) rows up.0 up.1;
      exact = record {
        sound = λ k m. of_member (Contains (first.key ∷ keys)) (map (λ g. g.key) made) k (AllByRecursion-map (Contains (first.key ∷ keys)) (λ g. g.key) made (sound key_order key_order_total key_order_exact (alone first) rows)) m;
        complete = λ k m.
            ⊎_elim (λ e. subst (Contains (map (λ g. g.key) made)) e (first_key key_order key_order_total key_order_exact (alone first) rows))
            (λ n. of_member (Contains (map (λ g. g.key) made)) keys k (AllByRecursion-map (Contains (map (λ g. g.key) made)) (λ r. r.key) rows (complete key_order key_order_total key_order_exact (alone first) rows)) n) (cons_cases first.key keys k m);
      };
      rows = AllByRecursion-weaker _ _ (λ g h. h ∙ listed_more key_order key_order_total key_order_exact g.key first rows) made (has_rows key_order key_order_total key_order_exact (alone first) rows up.0 up.1);
    }

-- and so is what a loop over the rows after the first leaves
pub gathered_left : (rows more later : List KeyedRow) (start done : List Group) (rest : List KeyedRow) (all : List Group) (first : KeyedRow) (begin last : Group)
    → rows ≡ first ∷ more → later ≡ more → start ≡ [] → rest ≡ [] → begin ≡ alone first
    → done ++ gathered_from key_order last rest ≡ start ++ gathered_from key_order begin later → all ≡ done ++ last ∷ []
    → IsSortedByKey (λ r. r.key) key_order rows → AreGathered rows all
gathered_left rows more later start done rest all first begin last are same empty ended alone_first so_far is in_order =
    let made : all ≡ gathered_from key_order (alone first) more =
    is ∙ (ap (λ xs. done ++ gathered_from key_order last xs) (sym ended) ∙ (so_far ∙ λ i. empty i ++ gathered_from key_order (alone_first i) (same i))) in
    subst (λ xs. AreGathered xs all) (sym are) (subst (AreGathered (first ∷ more)) (sym made) (gathered_all first more (subst (IsSortedByKey (λ r. r.key) key_order) are in_order)))

-- the groups of rows, of which those of one key stand together
abbrev pub gathered_list : List KeyedRow → List Group
gathered_list [] = []
gathered_list (r ∷ rows) = gathered_from key_order (alone r) rows

abbrev pub tie : Key → KeyedRow → Bool
tie key r = is_eq (key_order key r.key)

-- a group takes the rows of its key that come first, and the others make theirs
joined_run : (g : Group) (rows : List KeyedRow) → gathered_from key_order g rows
    ≡ record { key = g.key; rows = g.rows ++ map (λ r. r.row) (take (prefix_len (tie g.key) rows) rows) } ∷ gathered_list (drop (prefix_len (tie g.key) rows) rows)
joined_run g [] = λ i. record { key = g.key; rows = sym (append-nil g.rows) i } ∷ []
joined_run g (r ∷ rows) =
    let n = prefix_len (tie g.key) rows in
    let more : suc n ≡ 1 + n = omega arith in
    elim (is_eq (key_order g.key r.key)) as (λ t. cond t (gathered_from key_order (with_row g r.row) rows) (g ∷ gathered_from key_order (alone r) rows)
    ≡ record { key = g.key; rows = g.rows ++ map (λ r. r.row) (take (cond t (suc n) 0) (r ∷ rows)) } ∷ gathered_list (drop (cond t (suc n) 0) (r ∷ rows))) [
      | true ↦ joined_run (with_row g r.row) rows ∙ (λ i. record { key = g.key; rows = append_assoc g.rows (r.row ∷ []) (map (λ r. r.row) (take n rows)) i } ∷ gathered_list (drop n rows))
      | false ↦ λ i. record { key = g.key; rows = sym (append-nil g.rows) i } ∷ gathered_from key_order (alone r) rows
    ]
    ∙ (λ i.
    let m = cond (is_eq (key_order g.key r.key)) (more i) 0 in
    record { key = g.key; rows = g.rows ++ map (λ r. r.row) (take m (r ∷ rows)) } ∷ gathered_list (drop m (r ∷ rows)))

tied : (key : Key) → is_eq (key_order key key) ≡ true
tied key = ap is_eq (tied_itself key_order_total key)

gathered_run : (r : KeyedRow) (rows : List KeyedRow) → let n = prefix_len (tie r.key) (r ∷ rows) in
    gathered_list (r ∷ rows) ≡ record { key = r.key; rows = map (λ x. x.row) (take n (r ∷ rows)) } ∷ gathered_list (drop n (r ∷ rows))
gathered_run r rows =
    let more : suc (prefix_len (tie r.key) rows) ≡ 1 + prefix_len (tie r.key) rows = omega arith in
    joined_run (alone r) rows
    ∙ (λ i.
    let n = cond (sym (tied r.key) i) (more i) 0 in
    record { key = r.key; rows = map (λ x. x.row) (take n (r ∷ rows)) } ∷ gathered_list (drop n (r ∷ rows)))

-- one turn of a loop that takes the rows of the first key
pub gathered_turn : (left : List KeyedRow) (first : KeyedRow) (more : List KeyedRow) (done next : List Group) (all : List Group) (g : Group) (n : ℕ) → left ≡ first ∷ more
    → n ≡ prefix_len (tie first.key) left → g ≡ record { key = first.key; rows = map (λ x. x.row) (take n left) } → next ≡ done ++ g ∷ []
    → done ++ gathered_list left ≡ all → next ++ gathered_list (drop n left) ≡ all
gathered_turn left first more done next all g n begun count is added so_far =
    let split : gathered_list left ≡ g ∷ gathered_list (drop n left) =
    subst (λ xs. gathered_list xs ≡ record { key = first.key; rows = map (λ x. x.row) (take (prefix_len (tie first.key) xs) xs) } ∷ gathered_list (drop (prefix_len (tie first.key) xs) xs))
    (sym begun) (gathered_run first more)
    ∙ ((λ i. record { key = first.key; rows = map (λ x. x.row) (take (sym count i) left) } ∷ gathered_list (drop (sym count i) left)) ∙ ap (λ x. x ∷ gathered_list (drop n left)) (sym is)) in
    ap (λ xs. xs ++ gathered_list (drop n left)) added ∙ (append_assoc done (g ∷ []) (gathered_list (drop n left)) ∙ (ap (λ xs. done ++ xs) (sym split) ∙ so_far))

-- it takes one row at least
pub shorter : (left : List KeyedRow) (first : KeyedRow) (more : List KeyedRow) (n : ℕ) → left ≡ first ∷ more → n ≡ prefix_len (tie first.key) left → 1 ≤ n
shorter left first more n begun count =
    subst (λ k. 1 ≤ k) (sym (count ∙ (ap (prefix_len (tie first.key)) begun ∙ ap (λ t. cond t (1 + prefix_len (tie first.key) more) 0) (tied first.key)))) (omega arith)

pub gathered_whole : (rows left : List KeyedRow) (all : List Group) → IsSortedByKey (λ r. r.key) key_order rows → left ≡ [] → all ++ gathered_list left ≡ gathered_list rows → AreGathered rows all
gathered_whole rows left all in_order ended so_far =
    let made : gathered_list rows ≡ all = sym so_far ∙ (ap (λ xs. all ++ gathered_list xs) ended ∙ append-nil all) in
    subst (AreGathered rows) made (of_rows rows in_order)
  where
    of_rows : (rows : List KeyedRow) → IsSortedByKey (λ r. r.key) key_order rows → AreGathered rows (gathered_list rows)
    of_rows [] h = record { ascend = tt; exact = record { sound = λ k m. m; complete = λ k m. m }; rows = tt }
    of_rows (r ∷ rows) h = gathered_all r rows h

pub gathered_none : AreGathered [] []
gathered_none = record { ascend = tt; exact = record { sound = λ k m. m; complete = λ k m. m }; rows = tt }

-- rows with their keys are told by the keys of all rows
keyed_keys : (n : ℕ) (keys : List (Option Key)) → map (λ r. r.key) (keyed_from n keys) ≡ held_keys keys
keyed_keys n [] = refl
keyed_keys n (None ∷ keys) = keyed_keys (n + 1) keys
keyed_keys n (Some key ∷ keys) = λ i. key ∷ keyed_keys (n + 1) keys i

keyed_listed : (n : ℕ) (key : Key) (keys : List (Option Key)) → listed_with key (keyed_from n keys) ≡ rows_from n key keys
keyed_listed n key [] = refl
keyed_listed n key (None ∷ keys) = keyed_listed (n + 1) key keys
keyed_listed n key (Some other ∷ keys) =
    sym (listed_more key_order key_order_total key_order_exact key (record { key = other; row = n }) (keyed_from (n + 1) keys))
    ∙ ap (λ ns. cond (is_eq (key_order key other)) (n ∷ ns) ns) (keyed_listed (n + 1) key keys)

-- the groups of the sorted rows are those of the rows with these keys
pub groups_sorted : (keys : List (Option Key)) (held sorted : List KeyedRow) (groups : List Group) → held ≡ keyed_rows keys → IsPermutation held sorted
    → IsStableByKey (λ r. r.key) key_order held sorted → AreGathered sorted groups → AreGroupsOf keys groups
groups_sorted keys held sorted groups are moved stable h =
    let same : map (λ r. r.key) held ≡ held_keys keys = ap (map (λ r. r.key)) are ∙ keyed_keys 0 keys in
    let moved_keys : IsPermutation (map (λ (r : KeyedRow). r.key) held) (map (λ r. r.key) sorted) = IsPermutation-map (λ r. r.key) held sorted moved in
    record {
      ascend = h.ascend;
      exact = subst (λ ks. HasExactly ks (map (λ g. g.key) groups)) same (record {
        sound = λ k m. Contains-permutation _ _ k (IsPermutation-sym _ _ moved_keys) (h.exact.sound k m);
        complete = λ k m. h.exact.complete k (Contains-permutation _ _ k moved_keys m);
      });
      rows = AllByRecursion-weaker _ _ (λ g e. e ∙ kept key_order key_order_total key_order_exact held sorted stable g.key ∙ ap (listed_with g.key) are ∙ keyed_listed 0 g.key keys) groups h.rows;
    }
