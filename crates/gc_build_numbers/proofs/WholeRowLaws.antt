-- Where rows are grouped by whole rows, each is a group by itself, since the rows of a table ascend.
use Rattle.std.proofs.Common.{◌≡◌, ℕ, suc, ◌+◌, Bool, true, false, List, [], ◌∷◌, ◌++◌, length, map, Option, None, Some, refl, sym, ap, ◌∙◌, subst, add-one, cond}
use Rattle.std.specs.List.{AllByRecursion, filter, list_any}
use Rattle.std.specs.Option.{option_and_then, option_map}
use Rattle.std.specs.Ordering.{ordering_reverse}
use Rattle.std.specs.declared.cmp.Ordering.TheVariants.{Less, Greater}
use Rattle.std.specs.Cmp.{tied_itself}
use Rattle.gc_base.specs.Ascending.{Ascends}
use Rattle.gc_base.specs.declared.place.Sym.{Sym}
use Rattle.gc_rows.specs.Rows.{row_order}
use Rattle.gc_rows.specs.Tables.{AreRowsOver, HasExactly}
use Rattle.gc_rows.specs.declared.row.Binding.{Binding}
use Rattle.gc_group.specs.Groups.{held_keys, key_order, rows_from}
use Rattle.gc_group.specs.declared.grouping.Group.{Group}
use Rattle.gc_group.specs.declared.key.Key.{Key}
use Rattle.gc_group.proofs.KeyOrder.{key_order_total}
use Rattle.gc_build_recipe.specs.declared.variable.Grouping.{Grouping}
use Rattle.gc_build_recipe.specs.declared.variable.Grouping.TheVariants as by
use Rattle.gc_build_recipe.specs.declared.variable.Variable.{Variable}
use Rattle.gc_build_numbers.specs.Keys.{groups_of, key_by, keys_from, keys_of}
use Rattle.gc_build_numbers.specs.Numbers.{elements_by, has_key, is_below, numbered_by, numbered_from, taken_by, which_has, with_keys}
use Rattle.gc_build_numbers.specs.Settings.{Setting}
use Rattle.gc_build_numbers.specs.WholeRows.{element_alone, own_places, row_elements, row_key, with_rows}
use Rattle.gc_build_numbers.specs.declared.numbered.Element.{Element}
use Rattle.gc_build_numbers.specs.declared.numbered.Numbered.{Numbered}
use Rattle.gc_build_numbers.specs.declared.numbered.Numbering.{Numbering}
use Rattle.gc_build_numbers.proofs.GroupsOf.{are_groups_of}

-- the keys of rows ascend as the rows do
keys_above : (schema : List Sym) (row : List Binding) (rows : List (List Binding)) → AllByRecursion (λ other. row_order schema row other ≡ Less) rows
    → AllByRecursion (λ key. key_order (row_key schema row) key ≡ Less) (map (row_key schema) rows)
keys_above schema row [] h = tt
keys_above schema row (other ∷ rows) h = (h.0, keys_above schema row rows h.1)

keys_ascend : (schema : List Sym) (rows : List (List Binding)) → Ascends (row_order schema) rows → Ascends key_order (map (row_key schema) rows)
keys_ascend schema [] up = tt
keys_ascend schema (row ∷ rows) up = (keys_above schema row rows up.0, keys_ascend schema rows up.1)

-- the keys of the rows are these, each there
keys_are : (s : Setting) (before : List Numbered) (v : Variable) (place : ℕ) (rows : List (List Binding)) → v.grouping ≡ by.EachRow
    → keys_from s before v place rows ≡ map Some (map (row_key s.schema) rows)
keys_are s before v place [] each = refl
keys_are s before v place (row ∷ rows) each =
    λ i. ap (λ g. key_by s before v.var v.kind g place row) each i ∷ keys_are s before v (place + 1) rows each i

-- each key with its own row alone
abbrev singles : ℕ → List Key → List Group
singles place [] = []
singles place (key ∷ keys) = record { key = key; rows = place ∷ [] } ∷ singles (place + 1) keys

single_keys : (place : ℕ) (keys : List Key) → map (λ (g : Group). g.key) (singles place keys) ≡ keys
single_keys place [] = refl
single_keys place (key ∷ keys) = ap (λ rest. key ∷ rest) (single_keys (place + 1) keys)

held_all : (keys : List Key) → held_keys (map Some keys) ≡ keys
held_all [] = refl
held_all (key ∷ keys) = ap (λ rest. key ∷ rest) (held_all keys)

all_exactly : (keys : List Key) → HasExactly keys keys
all_exactly keys = record { sound = λ x m. m; complete = λ x m. m }

-- of ascending keys, each has its own row alone
no_later : (n : ℕ) (key : Key) (keys : List Key) → AllByRecursion (λ other. key_order key other ≡ Less) keys → rows_from n key (map Some keys) ≡ []
no_later n key [] h = refl
no_later n key (other ∷ keys) h = rw h.0 (no_later (n + 1) key keys h.1)

own_row : (n : ℕ) (key : Key) (keys : List Key) → AllByRecursion (λ other. key_order key other ≡ Less) keys → rows_from n key (map Some (key ∷ keys)) ≡ n ∷ []
own_row n key keys h = rw (tied_itself key_order_total key) (ap (λ rest. n ∷ rest) (no_later (n + 1) key keys h))

turned : (key other : Key) → key_order key other ≡ Less → key_order other key ≡ Greater
turned key other less = key_order_total.antisymm other key ∙ ap ordering_reverse less

groups_above : (key : Key) (place : ℕ) (keys : List Key) → AllByRecursion (λ other. key_order key other ≡ Less) keys
    → AllByRecursion (λ g. key_order key g.key ≡ Less) (singles place keys)
groups_above key place [] h = tt
groups_above key place (other ∷ keys) h = (h.0, groups_above key (place + 1) keys h.1)

one_before : (n : ℕ) (key : Key) (keys : List (Option Key)) (gs : List Group) → AllByRecursion (λ g. key_order key g.key ≡ Less) gs
    → AllByRecursion (λ g. g.rows ≡ rows_from (n + 1) g.key keys) gs → AllByRecursion (λ g. g.rows ≡ rows_from n g.key (Some key ∷ keys)) gs
one_before n key keys [] above h = tt
one_before n key keys (g ∷ gs) above h = (rw (turned key g.key above.0) h.0, one_before n key keys gs above.1 h.1)

own_rows : (n : ℕ) (keys : List Key) → Ascends key_order keys → AllByRecursion (λ g. g.rows ≡ rows_from n g.key (map Some keys)) (singles n keys)
own_rows n [] up = tt
own_rows n (key ∷ keys) up =
    (sym (own_row n key keys up.0), one_before n key (map Some keys) (singles (n + 1) keys) (groups_above key (n + 1) keys up.0) (own_rows (n + 1) keys up.1))

single_groups : (keys : List Key) → Ascends key_order keys → singles 0 keys ≡ groups_of (map Some keys)
single_groups keys up =
    are_groups_of (map Some keys) (singles 0 keys) (record {
      ascend = subst (Ascends key_order) (sym (single_keys 0 keys)) up;
      exact = subst (λ xs. HasExactly xs (map (λ (g : Group). g.key) (singles 0 keys))) (sym (held_all keys)) (subst (HasExactly keys) (sym (single_keys 0 keys)) (all_exactly keys));
      rows = own_rows 0 keys up;
    })

-- an element for each key
abbrev alone : (number place : ℕ) → List Key → List Element
alone number place [] = []
alone number place (key ∷ keys) = element_alone number place key ∷ alone (number + 1) (place + 1) keys

-- none of the elements of later keys is below a key
none_below : (key : Key) (number place : ℕ) (keys : List Key) → AllByRecursion (λ other. key_order key other ≡ Less) keys → filter (is_below key) (alone number place keys) ≡ []
none_below key number place [] h = refl
none_below key number place (other ∷ keys) h = rw (turned key other h.0) (none_below key (number + 1) (place + 1) keys h.1)

-- a key stands first, and later keys are one more behind it
here : (key : Key) (number place : ℕ) (keys : List Key) → AllByRecursion (λ other. key_order key other ≡ Less) keys → which_has (alone number place (key ∷ keys)) key ≡ Some 0
here key number place keys h = rw (tied_itself key_order_total key) (ap (λ es. Some (length es)) (none_below key (number + 1) (place + 1) keys h))

behind : (b : Bool) (es : List Element) → cond b (Some (suc (length es))) None ≡ option_map suc (cond b (Some (length es)) None)
behind true es = refl
behind false es = refl

one_behind : (key other : Key) (number place : ℕ) (es : List Element) → key_order key other ≡ Less
    → which_has (element_alone number place key ∷ es) other ≡ option_map suc (which_has es other)
one_behind key other number place es less = rw less (behind (list_any (has_key other) es) (filter (is_below other) es))

all_behind : (key : Key) (number place : ℕ) (es : List Element) (keys : List Key) → AllByRecursion (λ other. key_order key other ≡ Less) keys
    → map (option_and_then (which_has (element_alone number place key ∷ es))) (map Some keys) ≡ map (option_map suc) (map (option_and_then (which_has es)) (map Some keys))
all_behind key number place es [] h = refl
all_behind key number place es (other ∷ keys) h = λ i. one_behind key other number place es h.0 i ∷ all_behind key number place es keys h.1 i

-- each key stands at its own place
abbrev key_places : (place : ℕ) → List Key → List (Option ℕ)
key_places place [] = []
key_places place (key ∷ keys) = Some place ∷ key_places (place + 1) keys

shifted : (place : ℕ) (keys : List Key) → map (option_map suc) (key_places place keys) ≡ key_places (place + 1) keys
shifted place [] = refl
shifted place (key ∷ keys) = λ i. Some (sym (add-one place) i) ∷ shifted (place + 1) keys i

own_elements : (number place : ℕ) (keys : List Key) → Ascends key_order keys → map (option_and_then (which_has (alone number place keys))) (map Some keys) ≡ key_places 0 keys
own_elements number place [] up = refl
own_elements number place (key ∷ keys) up =
    λ i. here key number place keys up.0 i
    ∷ (all_behind key number place (alone (number + 1) (place + 1) keys) keys up.0
    ∙ ap (map (option_map suc)) (own_elements (number + 1) (place + 1) keys up.1) ∙ shifted 0 keys) i

-- elements and places of rows are those of their keys
same_elements : (number place : ℕ) (keys : List Key) → numbered_from number (singles place keys) ≡ alone number place keys
same_elements number place [] = refl
same_elements number place (key ∷ keys) = ap (λ rest. element_alone number place key ∷ rest) (same_elements (number + 1) (place + 1) keys)

of_rows : (schema : List Sym) (number place : ℕ) (rows : List (List Binding)) → alone number place (map (row_key schema) rows) ≡ row_elements schema number place rows
of_rows schema number place [] = refl
of_rows schema number place (row ∷ rows) = ap (λ rest. element_alone number place (row_key schema row) ∷ rest) (of_rows schema (number + 1) (place + 1) rows)

same_places : (schema : List Sym) (place : ℕ) (rows : List (List Binding)) → key_places place (map (row_key schema) rows) ≡ own_places place rows
same_places schema place [] = refl
same_places schema place (row ∷ rows) = ap (λ rest. Some place ∷ rest) (same_places schema (place + 1) rows)

as_many : (schema : List Sym) (place : ℕ) (rows : List (List Binding)) → length (singles place (map (row_key schema) rows)) ≡ length rows
as_many schema place [] = refl
as_many schema place (row ∷ rows) = ap suc (as_many schema (place + 1) rows)

-- one variable more, by whole rows
abbrev by_elements : (x : Sym) (so_far : Numbering) (keys : List (Option Key)) (taken : ℕ) (elements : List Element) → Numbering
by_elements x so_far keys taken elements = record {
  next = so_far.next + taken;
  variables = so_far.variables ++ numbered_by x keys elements ∷ [];
}

abbrev by_groups : (x : Sym) (grouping : Grouping) (so_far : Numbering) (keys : List (Option Key)) (groups : List Group) → Numbering
by_groups x grouping so_far keys groups = by_elements x so_far keys (taken_by grouping groups) (elements_by grouping so_far.next groups)

pub each_row : (s : Setting) (so_far : Numbering) (v : Variable) → v.grouping ≡ by.EachRow → AreRowsOver s.schema s.rows
    → with_rows v.var so_far s.schema s.rows ≡ with_keys v so_far (keys_of s so_far.variables v)
each_row s so_far v each over =
    let keys = map (row_key s.schema) s.rows in
    let up = keys_ascend s.schema s.rows over.ascend in
    let all : keys_of s so_far.variables v ≡ map Some keys = keys_are s so_far.variables v 0 s.rows each in
    let which : own_places 0 s.rows ≡ map (option_and_then (which_has (alone so_far.next 0 keys))) (map Some keys) =
    sym (own_elements so_far.next 0 keys up ∙ same_places s.schema 0 s.rows) in
    (λ i. record {
      next = so_far.next + length s.rows;
      variables = so_far.variables ++ record { var = v.var; elements = sym (of_rows s.schema so_far.next 0 s.rows) i; which = which i } ∷ [];
    })
    ∙ (λ i. by_elements v.var so_far (map Some keys) (sym (as_many s.schema 0 s.rows) i) (sym (same_elements so_far.next 0 keys) i))
    ∙ ap (by_groups v.var by.EachRow so_far (map Some keys)) (single_groups keys up)
    ∙ (λ i. by_groups v.var (sym each i) so_far (sym all i) (groups_of (sym all i)))
