-- Which elements the rows of a table make of the variables of a CONSTRUCT.
use Rattle.std.proofs.Common.{◌≡◌, ◌⊎◌, inl, inr, ⊎_elim, ℕ, zero, suc, ◌+◌, ◌||◌, true, false, cond, List, [], ◌∷◌, length, map, fold, Option, None, Some, refl, sym, ap, ◌∙◌, subst, slice_get, arith}
use Rattle.std.specs.List.{AllByRecursion, Contains, filter, list_any}
use Rattle.std.specs.Option.{option_and_then, option_map, option_to_list}
use Rattle.std.specs.Ordering.{is_eq, is_gt, is_lt, on, ordering_reverse}
use Rattle.std.specs.declared.cmp.Ordering.{Ordering}
use Rattle.std.specs.declared.cmp.Ordering.TheVariants.{Less, Equal, Greater}
use Rattle.std.specs.Cmp.{tied_itself}
use Rattle.std.proofs.lemmas.List.Elements.{Contains-append_left, Contains-append_right}
use Rattle.std.proofs.lemmas.Option.{none-some, same_Some}
use Rattle.gc_base.specs.Ascending.{Ascends, with_item}
use Rattle.gc_base.specs.declared.place.Sym.{Sym}
use Rattle.gc_base.proofs.SetLaws.{Ascends-with_item}
use Rattle.gc_rows.specs.declared.row.Binding.{Binding}
use Rattle.gc_rows.proofs.Members.{cons_cases, contains_here, contains_later, to_filter, to_flat_map, to_map}
use Rattle.gc_group.specs.Groups.{held_keys, is_key, key_order, rows_from, rows_with}
use Rattle.gc_group.specs.declared.grouping.Group.{Group}
use Rattle.gc_group.specs.declared.key.Key.{Key}
use Rattle.gc_group.proofs.KeyOrder.{key_order_exact, key_order_total}
use Rattle.gc_build_numbers.specs.Keys.{distinct_keys, groups_of, key_by, keys_from, keys_of, number_in}
use Rattle.gc_build_numbers.specs.Numbers.{bound_number, elements_by, has_key, is_below, numbered_by, numbered_from, which_has}
use Rattle.gc_build_numbers.specs.Settings.{Setting}
use Rattle.gc_build_numbers.specs.declared.numbered.Element.{Element}
use Rattle.gc_build_numbers.specs.declared.numbered.Numbered.{Numbered}
use Rattle.gc_build_numbers.proofs.GroupsOf.{by_keys, element_keys}
use Rattle.gc_build_recipe.specs.declared.variable.Grouping.{Grouping}
use Rattle.gc_build_recipe.specs.declared.variable.Grouping.TheVariants as by
use Rattle.gc_build_recipe.specs.declared.variable.Variable.{Variable}
use Rattle.gc_build.proofs.ClaimOrigins.{at_number}
use Rattle.gc_build.proofs.NumberLaws.{IsElement, element_in, group_key}

-- the distinct keys are all that rows have, and ascend
has_new : (xs : List Key) (x : Key) → Contains (with_item key_order xs x) x
has_new xs x = Contains-append_right (filter (λ y. is_lt (key_order y x)) xs) (x ∷ filter (λ y. is_gt (key_order y x)) xs) x (contains_here x _)

has_old : (xs : List Key) (x y : Key) → Contains xs y → Contains (with_item key_order xs x) y
has_old xs x y m = by_order (key_order y x) refl
  where
    by_order : (a : Ordering) → key_order y x ≡ a → Contains (with_item key_order xs x) y
    by_order Less e = Contains-append_left (filter (λ z. is_lt (key_order z x)) xs) (x ∷ filter (λ z. is_gt (key_order z x)) xs) y (to_filter (λ z. is_lt (key_order z x)) xs y m (ap is_lt e))
    by_order Equal e = subst (Contains (with_item key_order xs x)) (sym (key_order_exact y x e)) (has_new xs x)
    by_order Greater e =
        Contains-append_right (filter (λ z. is_lt (key_order z x)) xs) (x ∷ filter (λ z. is_gt (key_order z x)) xs) y (contains_later x _ y (to_filter (λ z. is_gt (key_order z x)) xs y m (ap is_gt e)))

kept_key : (xs ys : List Key) (y : Key) → Contains xs y → Contains (fold (with_item key_order) xs ys) y
kept_key xs [] y m = m
kept_key xs (z ∷ ys) y m = kept_key (with_item key_order xs z) ys y (has_old xs z y m)

put_key : (xs ys : List Key) (y : Key) → Contains ys y → Contains (fold (with_item key_order) xs ys) y
put_key xs [] y m = absurd (omega (arith, m.1))
put_key xs (z ∷ ys) y m = ⊎_elim (λ e. kept_key (with_item key_order xs z) ys y (subst (Contains (with_item key_order xs z)) e (has_new xs z))) (λ k. put_key (with_item key_order xs z) ys y k) (cons_cases z ys y m)

keys_ascend : (xs ys : List Key) → Ascends key_order xs → Ascends key_order (fold (with_item key_order) xs ys)
keys_ascend xs [] up = up
keys_ascend xs (y ∷ ys) up = keys_ascend (with_item key_order xs y) ys (Ascends-with_item key_order key_order_total xs y up)

mapped_itself : {X Y : Type 0} (f : X → Y) (back : Y → X) → ((x : X) → back (f x) ≡ x) → (xs : List X) → map back (map f xs) ≡ xs
mapped_itself f back e [] = refl
mapped_itself f back e (x ∷ xs) = λ i. e x i ∷ mapped_itself f back e xs i

elements_ascend : (grouping : Grouping) (n : ℕ) (keys : List (Option Key)) → Ascends (on (λ (e : Element). e.group.key) key_order) (elements_by grouping n (groups_of keys))
elements_ascend grouping n keys =
    by_keys (elements_by grouping n (groups_of keys))
    (subst (Ascends key_order) (sym (element_keys grouping n (groups_of keys) ∙ mapped_itself (λ key. record { key = key; rows = rows_with key keys }) (λ (g : Group). g.key) (λ key. refl) (distinct_keys keys)))
    (keys_ascend [] (held_keys keys) tt))

-- the key of a row at a place, among all
key_of : (s : Setting) (before : List Numbered) (v : Variable) (first : ℕ) (rows : List (List Binding)) (i : ℕ) (row : List Binding) → slice_get rows i ≡ Some row
    → slice_get (keys_from s before v first rows) i ≡ Some (key_by s before v.var v.kind v.grouping (first + i) row)
key_of s before v first [] i row h = absurd (none-some row h)
key_of s before v first (r ∷ rows) zero row h = ap Some (λ j. key_by s before v.var v.kind v.grouping (same first j) (same_Some r row h j))
  where
    same : (m : ℕ) → m ≡ m + 0
    same m = omega arith
key_of s before v first (r ∷ rows) (suc i) row h = key_of s before v (first + 1) rows i row h ∙ ap (λ n. Some (key_by s before v.var v.kind v.grouping n row)) (plus first i)
  where
    plus : (m n : ℕ) → m + 1 + n ≡ m + suc n
    plus m n = omega arith

from_none : (n : ℕ) → 0 + n ≡ n
from_none n = omega arith

pub row_key : (s : Setting) (before : List Numbered) (v : Variable) (i : ℕ) (row : List Binding) → slice_get s.rows i ≡ Some row
    → slice_get (keys_of s before v) i ≡ Some (key_by s before v.var v.kind v.grouping i row)
row_key s before v i row h = key_of s before v 0 s.rows i row h ∙ ap (λ n. Some (key_by s before v.var v.kind v.grouping n row)) (from_none i)

-- a row is among those with its key
rows_have : (n : ℕ) (key : Key) (keys : List (Option Key)) (i : ℕ) → slice_get keys i ≡ Some (Some key) → Contains (rows_from n key keys) (n + i)
rows_have n key [] i h = absurd (none-some (Some key) h)
rows_have n key (o ∷ keys) zero h =
    let is : o ≡ Some key = same_Some o (Some key) h in
    let test : is_key key o ≡ true = ap (is_key key) is ∙ ap is_eq (tied_itself key_order_total key) in
    subst (λ (rows : List ℕ). Contains rows (n + 0)) (sym (ap (λ b. cond b (n ∷ rows_from (n + 1) key keys) (rows_from (n + 1) key keys)) test))
    (subst (Contains (n ∷ rows_from (n + 1) key keys)) (same n) (contains_here n (rows_from (n + 1) key keys)))
  where
    same : (m : ℕ) → m ≡ m + 0
    same m = omega arith
rows_have n key (o ∷ keys) (suc i) h =
    let rest : Contains (rows_from (n + 1) key keys) (n + suc i) = subst (Contains (rows_from (n + 1) key keys)) (plus n i) (rows_have (n + 1) key keys i h) in
    elim (is_key key o) as (λ b. Contains (cond b (n ∷ rows_from (n + 1) key keys) (rows_from (n + 1) key keys)) (n + suc i)) [
      | true ↦ contains_later n (rows_from (n + 1) key keys) (n + suc i) rest
      | false ↦ rest
    ]
  where
    plus : (m n : ℕ) → m + 1 + n ≡ m + suc n
    plus m n = omega arith

have_row : (key : Key) (keys : List (Option Key)) (place : ℕ) → slice_get keys place ≡ Some (Some key) → Contains (rows_with key keys) place
have_row key keys place h = subst (Contains (rows_with key keys)) (from_none place) (rows_have 0 key keys place h)

-- and each of these has it
pub record HasKeyAt (keys : List (Option Key)) (key : Key) (n place : ℕ) : Type 0 where
  pub index : ℕ
  pub is : place ≡ n + index
  pub there : slice_get keys index ≡ Some (Some key)

rows_are : (n : ℕ) (key : Key) (keys : List (Option Key)) (place : ℕ) → Contains (rows_from n key keys) place → HasKeyAt keys key n place
rows_are n key [] place m = absurd (omega (arith, m.1))
rows_are n key (o ∷ keys) place m =
    let rest : Contains (rows_from (n + 1) key keys) place → HasKeyAt (o ∷ keys) key n place =
    λ k. let r = rows_are (n + 1) key keys place k in record { index = suc r.index; is = r.is ∙ plus n r.index; there = r.there } in
    elim (is_key key o) as (λ b. is_key key o ≡ b → Contains (cond b (n ∷ rows_from (n + 1) key keys) (rows_from (n + 1) key keys)) place → HasKeyAt (o ∷ keys) key n place) [
      | true ↦ λ t k. ⊎_elim (λ e. record { index = 0; is = sym e ∙ same n; there = ap Some (tied o t) }) rest (cons_cases n (rows_from (n + 1) key keys) place k)
      | false ↦ λ t k. rest k
    ] refl m
  where
    plus : (m n : ℕ) → m + 1 + n ≡ m + suc n
    plus m n = omega arith

    same : (m : ℕ) → m ≡ m + 0
    same m = omega arith

    equal : (o : Ordering) → is_eq o ≡ true → o ≡ Equal
    equal Less h = absurd (cc h)
    equal Equal h = refl
    equal Greater h = absurd (cc h)

    tied : (o : Option Key) → is_key key o ≡ true → o ≡ Some key
    tied None h = absurd (cc h)
    tied (Some other) h = ap Some (sym (key_order_exact key other (equal (key_order key other) h)))

-- a group is that of an element
numbered_has : (n : ℕ) (gs : List Group) (g : Group) → Contains gs g → (e : Element) × Contains (numbered_from n gs) e × (e.group ≡ g)
numbered_has n [] g m = absurd (omega (arith, m.1))
numbered_has n (h ∷ gs) g m =
    ⊎_elim
    (λ same. (record { number = n; group = h }, contains_here (record { number = n; group = h }) (numbered_from (n + 1) gs), same))
    (λ behind. let rest = numbered_has (n + 1) gs g behind in (rest.0, contains_later (record { number = n; group = h }) (numbered_from (n + 1) gs) rest.0 rest.1, rest.2))
    (cons_cases h gs g m)

has_element : (grouping : Grouping) (n : ℕ) (gs : List Group) (g : Group) → Contains gs g → (e : Element) × Contains (elements_by grouping n gs) e × (e.group ≡ g)
has_element by.Bound n gs g m = (record { number = bound_number g.key; group = g }, to_map (λ (h : Group). record { number = bound_number h.key; group = h }) gs g m, refl)
has_element by.EachRow n gs g m = numbered_has n gs g m
has_element by.Walk n gs g m = numbered_has n gs g m
has_element (by.Terms terms) n gs g m = numbered_has n gs g m
has_element (by.Link source target terms) n gs g m = numbered_has n gs g m

-- what a row with a key makes
pub record Makes (elements : List Element) (place : ℕ) (key : Key) : Type 0 where
  pub element : Element
  pub among : Contains elements element
  pub row : Contains element.group.rows place
  pub is : element.group.key ≡ key

-- the key of a row at a place has an element, of whose rows it is one
pub row_makes : (grouping : Grouping) (n : ℕ) (keys : List (Option Key)) (place : ℕ) (key : Key) → slice_get keys place ≡ Some (Some key) → Makes (elements_by grouping n (groups_of keys)) place key
row_makes grouping n keys place key h =
    let held : Contains (held_keys keys) key = to_flat_map option_to_list keys (Some key) key (at_number keys place (Some key) h) (contains_here key []) in
    let distinct : Contains (distinct_keys keys) key = put_key [] (held_keys keys) key held in
    let group = to_map (λ (k : Key). record { key = k; rows = rows_with k keys }) (distinct_keys keys) key distinct in
    let has = has_element grouping n (groups_of keys) (record { key = key; rows = rows_with key keys }) group in
    record {
      element = has.0;
      among = has.1;
      row = subst (λ (g : Group). Contains g.rows place) (sym has.2) (have_row key keys place h);
      is = ap (λ (g : Group). g.key) has.2;
    }

-- and each row of an element has its key
pub row_of_element : (keys : List (Option Key)) (g : Group) (place : ℕ) → g.rows ≡ rows_with g.key keys → Contains g.rows place → slice_get keys place ≡ Some (Some g.key)
row_of_element keys g place is m =
    let at = rows_are 0 g.key keys place (subst (λ (rows : List ℕ). Contains rows place) is m) in
    ap (slice_get keys) (at.is ∙ none at.index) ∙ at.there
  where
    none : (n : ℕ) → 0 + n ≡ n
    none n = omega arith

-- the element that a row is said to make has the row's key
module _ (key : Key) where
  abbrev below : List Element → List Element
  below es = filter (is_below key) es

  beyond : (es : List Element) → AllByRecursion (λ (e : Element). key_order key e.group.key ≡ Less) es → (below es ≡ []) × (list_any (has_key key) es ≡ false)
  beyond [] h = (refl, refl)
  beyond (e ∷ es) h =
      let rest = beyond es h.1 in
      let greater : key_order e.group.key key ≡ Greater = key_order_total.antisymm e.group.key key ∙ ap ordering_reverse h.0 in
      (ap (λ o. cond (is_lt o) (e ∷ below es) (below es)) greater ∙ rest.0, ap (λ o. is_eq o || list_any (has_key key) es) greater ∙ rest.1)

  above_all : (e : Element) (es : List Element) → (key_order e.group.key key ≡ Equal) ⊎ (key_order e.group.key key ≡ Greater) → AllByRecursion (λ (f : Element). key_order e.group.key f.group.key ≡ Less) es
      → AllByRecursion (λ (f : Element). key_order key f.group.key ≡ Less) es
  above_all e es (inl t) h = subst (λ (k : Key). AllByRecursion (λ (f : Element). key_order k f.group.key ≡ Less) es) (key_order_exact e.group.key key t) h
  above_all e es (inr t) h =
      let less : key_order key e.group.key ≡ Less = key_order_total.antisymm key e.group.key ∙ ap ordering_reverse t in
      each es h less
    where
      each : (fs : List Element) → AllByRecursion (λ (f : Element). key_order e.group.key f.group.key ≡ Less) fs → key_order key e.group.key ≡ Less → AllByRecursion (λ (f : Element). key_order key f.group.key ≡ Less) fs
      each [] k l = tt
      each (f ∷ fs) k l = (key_order_total.trans key e.group.key f.group.key l k.0, each fs k.1 l)

  counted : (es : List Element) → Ascends (on (λ (e : Element). e.group.key) key_order) es → list_any (has_key key) es ≡ true → (e : Element) × (slice_get es (length (below es)) ≡ Some e) × (e.group.key ≡ key)
  counted [] up h = absurd (cc h)
  counted (e ∷ es) up h =
      elim (key_order e.group.key key) as (λ o. key_order e.group.key key ≡ o → (is_eq o || list_any (has_key key) es) ≡ true → (f : Element) × (slice_get (e ∷ es) (length (cond (is_lt o) (e ∷ below es) (below es))) ≡ Some f) × (f.group.key ≡ key)) [
        | Less ↦ λ t k. counted es up.1 k
        | Equal ↦ λ t k.
            let rest = beyond es (above_all e es (inl t) up.0) in
            (e, ap (λ (fs : List Element). slice_get (e ∷ es) (length fs)) rest.0, key_order_exact e.group.key key t)
        | Greater ↦ λ t k. let rest = beyond es (above_all e es (inr t) up.0) in absurd (cc (k, rest.1))
      ] refl h

pub which_is : (es : List Element) → Ascends (on (λ (e : Element). e.group.key) key_order) es → (key : Key) (i : ℕ) → which_has es key ≡ Some i → (e : Element) × (slice_get es i ≡ Some e) × (e.group.key ≡ key)
which_is es up key i h =
    elim (list_any (has_key key) es) as (λ b. list_any (has_key key) es ≡ b → cond b (Some (length (filter (is_below key) es))) None ≡ Some i → (e : Element) × (slice_get es i ≡ Some e) × (e.group.key ≡ key)) [
      | true ↦ λ t k. let found = counted key es up t in (found.0, ap (slice_get es) (sym (same_Some (length (filter (is_below key) es)) i k)) ∙ found.1, found.2)
      | false ↦ λ t k. absurd (none-some i k)
    ] refl h

-- the group of an element is one of the groups
pub group_among : (grouping : Grouping) (n : ℕ) (gs : List Group) (e : Element) → IsElement grouping n gs e → Contains gs e.group
group_among by.Bound n gs e h = h.among
group_among by.EachRow n gs e h = h.among
group_among by.Walk n gs e h = h.among
group_among (by.Terms terms) n gs e h = h.among
group_among (by.Link source target terms) n gs e h = h.among

get_map : {X Y : Type 0} (f : X → Y) (xs : List X) (i : ℕ) (y : Y) → slice_get (map f xs) i ≡ Some y → (x : X) × (slice_get xs i ≡ Some x) × (f x ≡ y)
get_map f [] i y h = absurd (none-some y h)
get_map f (x ∷ xs) zero y h = (x, refl, same_Some (f x) y h)
get_map f (x ∷ xs) (suc i) y h = get_map f xs i y h

-- a row that gives a number to a variable is one of the rows of an element with that number
pub record NumberedBy (elements : List Element) (place number : ℕ) : Type 0 where
  pub element : Element
  pub among : Contains elements element
  pub row : Contains element.group.rows place
  pub is : element.number ≡ number

module _ (x : Sym) (grouping : Grouping) (n : ℕ) (keys : List (Option Key)) where
  abbrev elements : List Element
  elements = elements_by grouping n (groups_of keys)

  abbrev numbered : Numbered
  numbered = numbered_by x keys elements

  rows_of : (e : Element) → Contains elements e → e.group.rows ≡ rows_with e.group.key keys
  rows_of e m = (group_key keys e.group (group_among grouping n (groups_of keys) e (element_in grouping n (groups_of keys) e m))).1

  row_in : (place : ℕ) (key : Key) → slice_get keys place ≡ Some (Some key) → (e : Element) → Contains elements e → e.group.key ≡ key → Contains e.group.rows place
  row_in place key there e m same = subst (λ (rows : List ℕ). Contains rows place) (sym (rows_of e m ∙ ap (λ k. rows_with k keys) same)) (have_row key keys place there)

  at_which : (place : ℕ) (key : Key) (i number : ℕ) → slice_get keys place ≡ Some (Some key) → which_has elements key ≡ Some i → option_map (λ (e : Element). e.number) (slice_get elements i) ≡ Some number
      → NumberedBy elements place number
  at_which place key i number there which is =
      let found = which_is elements (elements_ascend grouping n keys) key i which in
      let among = at_number elements i found.0 found.1 in
      record {
        element = found.0;
        among = among;
        row = row_in place key there found.0 among found.2;
        is = same_Some found.0.number number (sym (ap (option_map (λ (e : Element). e.number)) found.1) ∙ is);
      }

  at_key : (place i number : ℕ) (o : Option Key) → slice_get keys place ≡ Some o → option_and_then (which_has elements) o ≡ Some i → option_map (λ (e : Element). e.number) (slice_get elements i) ≡ Some number
      → NumberedBy elements place number
  at_key place i number None there which k = absurd (none-some i which)
  at_key place i number (Some key) there which k = at_which place key i number there which k

  at_place : (place number : ℕ) (o : Option (Option ℕ)) → slice_get numbered.which place ≡ o
      → option_map (λ (e : Element). e.number) (option_and_then (slice_get elements) (option_and_then (λ which. which) o)) ≡ Some number → NumberedBy elements place number
  at_place place number None is k = absurd (none-some number k)
  at_place place number (Some None) is k = absurd (none-some number k)
  at_place place number (Some (Some i)) is k =
      let key = get_map (option_and_then (which_has elements)) keys place (Some i) is in at_key place i number key.0 key.1 key.2 k

  pub numbered_row : (place number : ℕ) → number_in place numbered ≡ Some number → NumberedBy elements place number
  numbered_row place number h = at_place place number (slice_get numbered.which place) refl h
