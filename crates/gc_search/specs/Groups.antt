-- Walks that wait in groups, by cost and number of edges.
use Rattle.std.specs.Prelude.{◌≡◌, ℕ, List, [], Vec}
use Rattle.std.specs.List.{AllByRecursion, flat_map}
use Rattle.std.specs.Ordering.{nat_cmp, ordering_then}
use Rattle.std.specs.declared.cmp.Ordering.{Ordering}
use Rattle.gc_search.specs.Links.{Link}

-- the cost and the number of edges of a walk, and the order of these
abbrev pub key_of : Link → ℕ × ℕ
key_of l = (l.cost, l.edges)

abbrev pub key_order : ℕ × ℕ → ℕ × ℕ → Ordering
key_order p q = ordering_then (nat_cmp p.0 q.0) (nat_cmp p.1 q.1)

-- groups of walks, each under its key; and all walks of these
abbrev pub Groups : Type 0 → Type 0
Groups A = List ((ℕ × ℕ) × Vec Link A)

abbrev pub all_of : {A : Type 0} → Groups A → List Link
all_of groups = flat_map (λ group. group.1.items) groups

-- a group has some walks, and each has its key
pub record IsGroup {A : Type 0} (group : (ℕ × ℕ) × Vec Link A) : Type 0 where
  pub some : group.1.items ≡ [] → ⊥
  pub alike : AllByRecursion (λ l. key_of l ≡ group.0) group.1.items

abbrev pub AreGroups : {A : Type 0} → Groups A → Type 0
AreGroups groups = AllByRecursion IsGroup groups
