-- Pairs that are marked, in the order of their marking.
use Rattle.std.specs.Prelude.{◌≡◌, ℕ, ◌+◌, ◌*◌, ◌<◌, Bool, false, not, ◌&&◌, ◌==◌, List, [], ◌∷◌, ◌++◌, length, map, count_by, slice_index, slice_index_or, if◌then◌else◌}
use Rattle.std.specs.List.{AllByRecursion, list_any, fold}
use Rattle.std.specs.Ordering.{nat_cmp}
use Rattle.gc_base.specs.Ascending.{Ascends}
use Rattle.gc_prod.specs.declared.moves.Pair.{Pair}
use Rattle.gc_prod.specs.Leading.{pair}
use Rattle.gc_reach.specs.Numbering.{IsNumbered}
use Rattle.gc_reach.specs.declared.marks.Spot.{Spot}

abbrev pub same_pair : Pair → Pair → Bool
same_pair p q = (p.node == q.node) && (p.state == q.state)

-- whether a pair is among some
abbrev pub has_pair : List Pair → Pair → Bool
has_pair pairs p = list_any (λ q. same_pair q p) pairs

-- a pair goes behind the others where it is not among them
abbrev pub visit : List Pair → Pair → List Pair
visit pairs p = if has_pair pairs p then pairs else pairs ++ p ∷ []

abbrev pub visit_all : List Pair → List Pair → List Pair
visit_all pairs more = fold visit pairs more

-- what is marked: pairs of nodes of a list and states below a number
pub record Marking : Type 0 where
  pub nodes : List ℕ
  pub width : ℕ
  pub pairs : List Pair

-- the pair of the node at a place
abbrev pub pair_at : List ℕ → Spot → Pair
pair_at nodes s = pair (slice_index nodes s.place) s.state

-- a place of a node, and a state below the number
abbrev pub IsSpot : List ℕ → ℕ → Spot → Type 0
IsSpot nodes width s = (s.place < length nodes) × (s.state < width)

-- there is a mark for each state and node, which says whether the pair is marked
pub record IsMarked (m : Marking) (marked : List Bool) : Type 0 where
  pub ascend : Ascends nat_cmp m.nodes
  pub size : length marked ≡ length m.nodes * m.width
  pub exact : (place state : ℕ) → place < length m.nodes → state < m.width
      → slice_index_or marked (state * length m.nodes + place) false ≡ has_pair m.pairs (pair (slice_index_or m.nodes place 0) state)
  pub numbered : AllByRecursion (IsNumbered m.nodes m.width) m.pairs
  pub room : length m.pairs + count_by not marked ≡ length marked

-- what is kept of them: the places of their nodes
pub record AreMarks (nodes : List ℕ) (width : ℕ) (marked : List Bool) (spots : List Spot) : Type 0 where
  pub marks : IsMarked (record { nodes = nodes; width = width; pairs = map (pair_at nodes) spots }) marked
  pub placed : AllByRecursion (IsSpot nodes width) spots
