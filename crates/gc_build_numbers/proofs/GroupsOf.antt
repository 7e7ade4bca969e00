-- The groups of rows are told by the keys of the rows, and their keys ascend.
use Rattle.std.proofs.Common.{◌≡◌, ℕ, ◌+◌, List, [], ◌∷◌, Option, map, refl, ap, ◌∙◌}
use Rattle.std.specs.List.{AllByRecursion}
use Rattle.std.specs.Ordering.{on}
use Rattle.std.specs.declared.cmp.Ordering.TheVariants.{Less}
use Rattle.gc_base.specs.Ascending.{Ascends}
use Rattle.gc_group.specs.Groups.{AreGroupsOf, held_keys, key_order, rows_with}
use Rattle.gc_group.specs.declared.grouping.Group.{Group}
use Rattle.gc_group.specs.declared.key.Key.{Key}
use Rattle.gc_group.proofs.KeyOrder.{key_order_total, key_order_exact}
use Rattle.gc_build_recipe.specs.declared.variable.Grouping.{Grouping}
use Rattle.gc_build_recipe.specs.declared.variable.Grouping.TheVariants as by
use Rattle.gc_build_numbers.specs.Keys.{distinct_keys, groups_of}
use Rattle.gc_build_numbers.specs.Numbers.{bound_number, elements_by, numbered_from}
use Rattle.gc_build_numbers.specs.declared.numbered.Element.{Element}
use Rattle.gc_rows.proofs.AscendingLists.{is_distinct}

-- each group is told by its key
from_keys : (keys : List (Option Key)) (gs : List Group) → AllByRecursion (λ g. g.rows ≡ rows_with g.key keys) gs
    → gs ≡ map (λ key. record { key = key; rows = rows_with key keys }) (map (λ g. g.key) gs)
from_keys keys [] h = refl
from_keys keys (g ∷ gs) h = λ j. record { key = g.key; rows = h.0 j } ∷ from_keys keys gs h.1 j

pub are_groups_of : (keys : List (Option Key)) (gs : List Group) → AreGroupsOf keys gs → gs ≡ groups_of keys
are_groups_of keys gs h =
    let same : map (λ g. g.key) gs ≡ distinct_keys keys = is_distinct key_order key_order_total key_order_exact (held_keys keys) (map (λ g. g.key) gs) h.ascend h.exact in
    from_keys keys gs h.rows ∙ ap (map (λ key. record { key = key; rows = rows_with key keys })) same

-- elements have the keys of their groups
bound_keys : (gs : List Group) → map (λ (e : Element). e.group.key) (map (λ g. record { number = bound_number g.key; group = g }) gs) ≡ map (λ g. g.key) gs
bound_keys [] = refl
bound_keys (g ∷ gs) = λ j. g.key ∷ bound_keys gs j

numbered_keys : (n : ℕ) (gs : List Group) → map (λ (e : Element). e.group.key) (numbered_from n gs) ≡ map (λ g. g.key) gs
numbered_keys n [] = refl
numbered_keys n (g ∷ gs) = λ j. g.key ∷ numbered_keys (n + 1) gs j

pub element_keys : (grouping : Grouping) (n : ℕ) (gs : List Group) → map (λ (e : Element). e.group.key) (elements_by grouping n gs) ≡ map (λ g. g.key) gs
element_keys by.Bound n gs = bound_keys gs
element_keys by.EachRow n gs = numbered_keys n gs
element_keys by.Walk n gs = numbered_keys n gs
element_keys (by.Terms terms) n gs = numbered_keys n gs
element_keys (by.Link source target terms) n gs = numbered_keys n gs

-- elements are those of the groups, in order
bound_groups : (gs : List Group) → map (λ (e : Element). e.group) (map (λ g. record { number = bound_number g.key; group = g }) gs) ≡ gs
bound_groups [] = refl
bound_groups (g ∷ gs) = λ j. g ∷ bound_groups gs j

numbered_groups : (n : ℕ) (gs : List Group) → map (λ (e : Element). e.group) (numbered_from n gs) ≡ gs
numbered_groups n [] = refl
numbered_groups n (g ∷ gs) = λ j. g ∷ numbered_groups (n + 1) gs j

pub element_groups : (grouping : Grouping) (n : ℕ) (gs : List Group) → map (λ (e : Element). e.group) (elements_by grouping n gs) ≡ gs
element_groups by.Bound n gs = bound_groups gs
element_groups by.EachRow n gs = numbered_groups n gs
element_groups by.Walk n gs = numbered_groups n gs
element_groups (by.Terms terms) n gs = numbered_groups n gs
element_groups (by.Link source target terms) n gs = numbered_groups n gs

-- elements ascend by key where their keys ascend
all_keys : (P : Key → Type 0) (es : List Element) → AllByRecursion P (map (λ (e : Element). e.group.key) es) → AllByRecursion (λ e. P e.group.key) es
all_keys P [] h = tt
all_keys P (e ∷ es) h = (h.0, all_keys P es h.1)

pub by_keys : (es : List Element) → Ascends key_order (map (λ (e : Element). e.group.key) es) → Ascends (on (λ e. e.group.key) key_order) es
by_keys [] up = tt
by_keys (e ∷ es) up = (all_keys (λ k. key_order e.group.key k ≡ Less) es up.0, by_keys es up.1)
