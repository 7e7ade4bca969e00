-- The elements of each variable of a CONSTRUCT, by the numbering of all.
use Rattle.std.proofs.Common.{◌≡◌, ◌⊎◌, inl, inr, ⊎_elim, ℕ, suc, ◌+◌, ◌<◌, ◌≤◌, ◌==◌, ◌||◌, Bool, true, false, cond, List, [], ◌∷◌, ◌++◌, length, find, fold, Option, None, Some, refl, sym, ap, ◌∙◌, subst, slice_get, arith}
use Rattle.std.specs.List.{AllByRecursion, Contains, list_any}
use Rattle.std.specs.Option.{option_or, option_to_list}
use Rattle.std.specs.Cmp.{nat_eq_equiv}
use Rattle.std.proofs.lemmas.Bool.{eq-eqb}
use Rattle.std.proofs.lemmas.List.Folds.{find-append}
use Rattle.gc_base.specs.Ascending.{with_item}
use Rattle.gc_base.specs.declared.place.Sym.{Sym}
use Rattle.gc_base.proofs.SetLaws.{AllByRecursion-with_item}
use Rattle.gc_rows.specs.declared.row.Binding.{Binding}
use Rattle.gc_rows.proofs.Members.{cons_cases, contains_here, contains_later, each_member, from_flat_map, from_map, of_member}
use Rattle.gc_group.specs.Groups.{held_keys, key_order, rows_with}
use Rattle.gc_group.specs.declared.grouping.Group.{Group}
use Rattle.gc_group.specs.declared.key.Key.{Key}
use Rattle.gc_build_numbers.specs.Keys.{distinct_keys, groups_of, key_by, keys_from, keys_of}
use Rattle.gc_build_numbers.specs.Numbers.{bound_number, elements_by, numbered_by, numbered_from, taken_by, with_variable}
use Rattle.gc_build_numbers.specs.Settings.{Setting}
use Rattle.gc_build_numbers.specs.declared.numbered.Element.{Element}
use Rattle.gc_build_numbers.specs.declared.numbered.Numbered.{Numbered}
use Rattle.gc_build_numbers.specs.declared.numbered.Numbering.{Numbering}
use Rattle.gc_build_recipe.specs.declared.variable.Grouping.{Grouping}
use Rattle.gc_build_recipe.specs.declared.variable.Grouping.TheVariants as by
use Rattle.gc_build_recipe.specs.declared.variable.Variable.{Variable}
use Rattle.gc_build.specs.Fitting.{AreDistinct}

-- the numbering when the turn comes to a variable
abbrev pub before_of : Setting → Numbering → List Variable → Sym → Numbering
before_of s so_far [] x = so_far
before_of s so_far (v ∷ vs) x = cond (v.var.0 == x.0) so_far (before_of s (with_variable s so_far v) vs x)

-- a variable as it is numbered then, and how many numbers it takes
abbrev pub numbered_at : Setting → List Numbered → (start : ℕ) → Variable → Numbered
numbered_at s before start v = numbered_by v.var (keys_of s before v) (elements_by v.grouping start (groups_of (keys_of s before v)))

abbrev pub taken_at : Setting → List Numbered → Variable → ℕ
taken_at s before v = taken_by v.grouping (groups_of (keys_of s before v))

abbrev pub find_in : Sym → List Numbered → Option Numbered
find_in x numbered = find (λ n. n.var.0 == x.0) numbered

find_first : (x : Sym) (xs ys : List Numbered) (n : Numbered) → find_in x xs ≡ Some n → find_in x (xs ++ ys) ≡ Some n
find_first x xs ys n h = find-append (λ m. m.var.0 == x.0) xs ys ∙ ap (λ o. option_or o (find_in x ys)) h

find_last : (x : Sym) (xs : List Numbered) (n : Numbered) → find_in x xs ≡ None → (n.var.0 == x.0) ≡ true → find_in x (xs ++ n ∷ []) ≡ Some n
find_last x xs n h t = find-append (λ m. m.var.0 == x.0) xs (n ∷ []) ∙ (ap (λ o. option_or o (find_in x (n ∷ []))) h ∙ ap (λ b. cond b (Some n) None) t)

find_none : (x : Sym) (xs : List Numbered) (n : Numbered) → find_in x xs ≡ None → (n.var.0 == x.0) ≡ false → find_in x (xs ++ n ∷ []) ≡ None
find_none x xs n h t = find-append (λ m. m.var.0 == x.0) xs (n ∷ []) ∙ (ap (λ o. option_or o (find_in x (n ∷ []))) h ∙ ap (λ b. cond b (Some n) None) t)

-- none of some variables is this one
pub apart : (x : ℕ) (vs : List Variable) (v : Variable) → list_any (λ w. w.var.0 == x) vs ≡ false → Contains vs v → (v.var.0 == x) ≡ false
apart x vs v h m = of_member (λ (w : Variable). (w.var.0 == x) ≡ false) vs v (all vs h) m
  where
    neither : (a b : Bool) → (a || b) ≡ false → (a ≡ false) × (b ≡ false)
    neither true b h = absurd (cc h)
    neither false b h = (refl, h)

    all : (vs : List Variable) → list_any (λ w. w.var.0 == x) vs ≡ false → AllByRecursion (λ (w : Variable). (w.var.0 == x) ≡ false) vs
    all [] h = tt
    all (w ∷ vs) h = let parts = neither (w.var.0 == x) (list_any (λ w. w.var.0 == x) vs) h in (parts.0, all vs parts.1)

same_itself : (n : ℕ) → (n == n) ≡ true
same_itself n = eq-eqb n n refl

module _ (s : Setting) where
  -- what was numbered stays, and numbers rise
  pub kept : (so_far : Numbering) (vs : List Variable) (x : Sym) (n : Numbered) → find_in x so_far.variables ≡ Some n → find_in x (fold (with_variable s) so_far vs).variables ≡ Some n
  kept so_far [] x n h = h
  kept so_far (v ∷ vs) x n h = kept (with_variable s so_far v) vs x n (find_first x so_far.variables (numbered_at s so_far.variables so_far.next v ∷ []) n h)

  pub rises : (so_far : Numbering) (vs : List Variable) → so_far.next ≤ (fold (with_variable s) so_far vs).next
  rises so_far [] = omega arith
  rises so_far (v ∷ vs) = let rest = rises (with_variable s so_far v) vs in omega (arith, rest)

  pub later_before : (so_far : Numbering) (vs : List Variable) (x : Sym) → so_far.next ≤ (before_of s so_far vs x).next
  later_before so_far [] x = omega arith
  later_before so_far (v ∷ vs) x =
      elim (v.var.0 == x.0) as (λ b. so_far.next ≤ (cond b so_far (before_of s (with_variable s so_far v) vs x)).next) [
        | true ↦ omega arith
        | false ↦ let rest = later_before (with_variable s so_far v) vs x in omega (arith, rest)
      ]

  -- how a variable is numbered among all, when its turn comes to this
  pub record IsNumbered (at whole : Numbering) (v : Variable) : Type 0 where
    pub found : find_in v.var whole.variables ≡ Some (numbered_at s at.variables at.next v)
    pub within : at.next + taken_at s at.variables v ≤ whole.next
    pub earlier : (x : Sym) (n : Numbered) → find_in x at.variables ≡ Some n → find_in x whole.variables ≡ Some n

  here : (so_far : Numbering) (v : Variable) (vs : List Variable) → find_in v.var so_far.variables ≡ None → IsNumbered so_far (fold (with_variable s) so_far (v ∷ vs)) v
  here so_far v vs new = record {
    found = kept (with_variable s so_far v) vs v.var (numbered_at s so_far.variables so_far.next v)
        (find_last v.var so_far.variables (numbered_at s so_far.variables so_far.next v) new (same_itself v.var.0));
    within = rises (with_variable s so_far v) vs;
    earlier = λ x n h. kept so_far (v ∷ vs) x n h;
  }

  pub numbered : (so_far : Numbering) (vs : List Variable) → AreDistinct vs → (v : Variable) → Contains vs v → find_in v.var so_far.variables ≡ None
      → IsNumbered (before_of s so_far vs v.var) (fold (with_variable s) so_far vs) v
  numbered so_far [] distinct v m new = absurd (omega (arith, m.1))
  numbered so_far (u ∷ vs) distinct v m new =
      ⊎_elim
      (λ same. subst (λ (w : Variable). IsNumbered (before_of s so_far (u ∷ vs) w.var) (fold (with_variable s) so_far (u ∷ vs)) w) same
      (subst (λ b. IsNumbered (cond b so_far (before_of s (with_variable s so_far u) vs u.var)) (fold (with_variable s) so_far (u ∷ vs)) u) (sym (same_itself u.var.0))
      (here so_far u vs (ap (λ (w : Variable). find_in w.var so_far.variables) same ∙ new))))
      (λ behind.
      let other : (u.var.0 == v.var.0) ≡ false = nat_eq_equiv.symm u.var.0 v.var.0 ∙ apart u.var.0 vs v distinct.0 behind in
      subst (λ b. IsNumbered (cond b so_far (before_of s (with_variable s so_far u) vs v.var)) (fold (with_variable s) so_far (u ∷ vs)) v) (sym other)
      (numbered (with_variable s so_far u) vs distinct.1 v behind (find_none v.var so_far.variables (numbered_at s so_far.variables so_far.next u) new other)))
      (cons_cases u vs v m)

  -- the range of numbers of a variable
  abbrev pub end_at : Numbering → Variable → ℕ
  end_at at v = at.next + taken_at s at.variables v

-- new elements have numbers in turn, and a group each
pub numbered_range : (n : ℕ) (gs : List Group) (e : Element) → Contains (numbered_from n gs) e → (n ≤ e.number) × (e.number < n + length gs) × Contains gs e.group
numbered_range n [] e m = absurd (omega (arith, m.1))
numbered_range n (g ∷ gs) e m =
    ⊎_elim
    (λ same. subst (λ (f : Element). (n ≤ f.number) × (f.number < n + suc (length gs)) × Contains (g ∷ gs) f.group) same (omega arith, omega arith, contains_here g gs))
    (λ behind. let rest = numbered_range (n + 1) gs e behind in (omega (arith, rest.0), omega (arith, rest.1), contains_later g gs e.group rest.2))
    (cons_cases (record { number = n; group = g }) (numbered_from (n + 1) gs) e m)

-- no two of them have one number
pub numbered_same : (n : ℕ) (gs : List Group) (e f : Element) → Contains (numbered_from n gs) e → Contains (numbered_from n gs) f → e.number ≡ f.number → e ≡ f
numbered_same n [] e f m k same = absurd (omega (arith, m.1))
numbered_same n (g ∷ gs) e f m k same =
    let first : Element = record { number = n; group = g } in
    ⊎_elim
    (λ a. ⊎_elim
    (λ b. sym a ∙ b)
    (λ b. let later = (numbered_range (n + 1) gs f b).0 in absurd (omega (arith, later, same, ap (λ (x : Element). x.number) a)))
    (cons_cases first (numbered_from (n + 1) gs) f k))
    (λ a. ⊎_elim
    (λ b. let later = (numbered_range (n + 1) gs e a).0 in absurd (omega (arith, later, same, ap (λ (x : Element). x.number) b)))
    (λ b. numbered_same (n + 1) gs e f a b same)
    (cons_cases first (numbered_from (n + 1) gs) f k))
    (cons_cases first (numbered_from (n + 1) gs) e m)

-- the numbers of two variables lie apart
module _ (s : Setting) where
  abbrev pub at_turn : Numbering → List Variable → Variable → Numbering
  at_turn so_far vs v = before_of s so_far vs v.var

  first_turn : (so_far : Numbering) (u : Variable) (vs : List Variable) (v : Variable) → u ≡ v → at_turn so_far (u ∷ vs) v ≡ so_far
  first_turn so_far u vs v same =
      ap (λ b. cond b so_far (before_of s (with_variable s so_far u) vs v.var)) (ap (λ (w : Variable). w.var.0 == v.var.0) same ∙ same_itself v.var.0)

  later_turn : (so_far : Numbering) (u : Variable) (vs : List Variable) (v : Variable) → list_any (λ w. w.var.0 == u.var.0) vs ≡ false → Contains vs v
      → at_turn so_far (u ∷ vs) v ≡ at_turn (with_variable s so_far u) vs v
  later_turn so_far u vs v distinct m =
      ap (λ b. cond b so_far (before_of s (with_variable s so_far u) vs v.var)) (nat_eq_equiv.symm u.var.0 v.var.0 ∙ apart u.var.0 vs v distinct m)

  abbrev pub turn_end : Numbering → Variable → ℕ
  turn_end at v = at.next + taken_at s at.variables v

  -- the first variable takes its numbers before those behind it
  first_before : (so_far : Numbering) (u : Variable) (vs : List Variable) (v w : Variable) → u ≡ v → list_any (λ x. x.var.0 == u.var.0) vs ≡ false → Contains vs w
      → turn_end (at_turn so_far (u ∷ vs) v) v ≤ (at_turn so_far (u ∷ vs) w).next
  first_before so_far u vs v w same distinct m =
      let rises = later_before s (with_variable s so_far u) vs w.var in
      subst (λ (n : Numbering). turn_end n v ≤ (at_turn so_far (u ∷ vs) w).next) (sym (first_turn so_far u vs v same))
      (subst (λ (n : Numbering). turn_end so_far v ≤ n.next) (sym (later_turn so_far u vs w distinct m))
      (subst (λ (x : Variable). turn_end so_far x ≤ (at_turn (with_variable s so_far u) vs w).next) same rises))

  pub ranges : (so_far : Numbering) (vs : List Variable) → AreDistinct vs → (v w : Variable) → Contains vs v → Contains vs w
      → (v ≡ w) ⊎ ((turn_end (at_turn so_far vs v) v ≤ (at_turn so_far vs w).next) ⊎ (turn_end (at_turn so_far vs w) w ≤ (at_turn so_far vs v).next))
  ranges so_far [] distinct v w m k = absurd (omega (arith, m.1))
  ranges so_far (u ∷ vs) distinct v w m k =
      ⊎_elim
      (λ a. ⊎_elim
      (λ b. inl (sym a ∙ b))
      (λ b. inr (inl (first_before so_far u vs v w a distinct.0 b)))
      (cons_cases u vs w k))
      (λ a. ⊎_elim
      (λ b. inr (inr (first_before so_far u vs w v b distinct.0 a)))
      (λ b.
      let one = sym (later_turn so_far u vs v distinct.0 a) in
      let two = sym (later_turn so_far u vs w distinct.0 b) in
      subst (λ (n : Numbering). (v ≡ w) ⊎ ((turn_end n v ≤ (at_turn so_far (u ∷ vs) w).next) ⊎ (turn_end (at_turn so_far (u ∷ vs) w) w ≤ n.next))) one
      (subst (λ (n : Numbering). (v ≡ w) ⊎ ((turn_end (at_turn (with_variable s so_far u) vs v) v ≤ n.next) ⊎ (turn_end n w ≤ (at_turn (with_variable s so_far u) vs v).next))) two
      (ranges (with_variable s so_far u) vs distinct.1 v w a b)))
      (cons_cases u vs w k))
      (cons_cases u vs v m)

-- what is said of the elements of a variable, bound or new
pub record IsBoundIn (groups : List Group) (e : Element) : Type 0 where
  pub among : Contains groups e.group
  pub number : e.number ≡ bound_number e.group.key

pub record IsNewIn (start : ℕ) (groups : List Group) (e : Element) : Type 0 where
  pub among : Contains groups e.group
  pub later : start ≤ e.number
  pub before : e.number < start + length groups

abbrev pub IsElement : Grouping → (start : ℕ) → List Group → Element → Type 0
IsElement by.Bound start groups e = IsBoundIn groups e
IsElement grouping start groups e = IsNewIn start groups e

new_in : (start : ℕ) (gs : List Group) (e : Element) → Contains (numbered_from start gs) e → IsNewIn start gs e
new_in start gs e m = let range = numbered_range start gs e m in record { among = range.2; later = range.0; before = range.1 }

pub element_in : (grouping : Grouping) (start : ℕ) (gs : List Group) (e : Element) → Contains (elements_by grouping start gs) e → IsElement grouping start gs e
element_in by.Bound start gs e m =
    let from = from_map (λ (g : Group). record { number = bound_number g.key; group = g }) gs e m in
    record { among = subst (λ (f : Element). Contains gs f.group) (sym from.2) from.1; number = subst (λ (f : Element). f.number ≡ bound_number f.group.key) (sym from.2) refl }
element_in by.EachRow start gs e m = new_in start gs e m
element_in by.Walk start gs e m = new_in start gs e m
element_in (by.Terms terms) start gs e m = new_in start gs e m
element_in (by.Link source target terms) start gs e m = new_in start gs e m

-- the key of a group is that of a row
members_kept : (xs ys all : List Key) → AllByRecursion (Contains all) xs → AllByRecursion (Contains all) ys → AllByRecursion (Contains all) (fold (with_item key_order) xs ys)
members_kept xs [] all h k = h
members_kept xs (y ∷ ys) all h k = members_kept (with_item key_order xs y) ys all (AllByRecursion-with_item key_order (Contains all) xs y h k.0) k.1

distinct_held : (keys : List (Option Key)) (key : Key) → Contains (distinct_keys keys) key → Contains (held_keys keys) key
distinct_held keys key m =
    of_member (Contains (held_keys keys)) (distinct_keys keys) key
    (members_kept [] (held_keys keys) (held_keys keys) tt (each_member _ (held_keys keys) (λ k n. n))) m

pub group_key : (keys : List (Option Key)) (g : Group) → Contains (groups_of keys) g → Contains (held_keys keys) g.key × (g.rows ≡ rows_with g.key keys)
group_key keys g m =
    let from = from_map (λ (key : Key). record { key = key; rows = rows_with key keys }) (distinct_keys keys) g m in
    (subst (λ (h : Group). Contains (held_keys keys) h.key) (sym from.2) (distinct_held keys from.0 from.1), subst (λ (h : Group). h.rows ≡ rows_with h.key keys) (sym from.2) refl)

pub held_key : (keys : List (Option Key)) (key : Key) → Contains (held_keys keys) key → Contains keys (Some key)
held_key keys key m =
    let from = from_flat_map option_to_list keys key m in
    at from.0 from.1 from.2
  where
    at : (o : Option Key) → Contains keys o → Contains (option_to_list o) key → Contains keys (Some key)
    at None there none = absurd (omega (arith, none.1))
    at (Some other) there one = ⊎_elim (λ same. subst (λ k. Contains keys (Some k)) same there) (λ none. absurd (omega (arith, none.1))) (cons_cases other [] key one)

-- the key of a row at a place
pub record IsKeyAt (s : Setting) (before : List Numbered) (v : Variable) (first : ℕ) (rows : List (List Binding)) (key : Key) : Type 0 where
  pub index : ℕ
  pub row : List Binding
  pub there : slice_get rows index ≡ Some row
  pub is : key_by s before v.var v.kind v.grouping (first + index) row ≡ Some key

pub key_at : (s : Setting) (before : List Numbered) (v : Variable) (first : ℕ) (rows : List (List Binding)) (k : Key) → Contains (keys_from s before v first rows) (Some k) → IsKeyAt s before v first rows k
key_at s before v first [] k m = absurd (omega (arith, m.1))
key_at s before v first (row ∷ rows) k m =
    ⊎_elim
    (λ same. record { index = 0; row = row; there = refl; is = ap (λ n. key_by s before v.var v.kind v.grouping n row) (none first) ∙ same })
    (λ behind.
    let rest = key_at s before v (first + 1) rows k behind in
    record { index = suc rest.index; row = rest.row; there = rest.there; is = ap (λ n. key_by s before v.var v.kind v.grouping n rest.row) (plus first rest.index) ∙ rest.is })
    (cons_cases (key_by s before v.var v.kind v.grouping first row) (keys_from s before v (first + 1) rows) (Some k) m)
  where
    none : (m : ℕ) → m + 0 ≡ m
    none m = omega arith

    plus : (m n : ℕ) → m + suc n ≡ m + 1 + n
    plus m n = omega arith
