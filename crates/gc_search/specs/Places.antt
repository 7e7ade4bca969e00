-- Walks that are settled, and for each pair of a node and a state the places of those that arrive at it.
use Rattle.std.specs.Prelude.{◌≡◌, ℕ, suc, ◌+◌, ◌*◌, ◌<◌, ◌==◌, nat_lt, true, List, [], ◌∷◌, length, get_or, Option, Some, None, if◌then◌else◌}
use Rattle.std.specs.List.{AllByRecursion}
use Rattle.std.specs.Option.{option_map}
use Rattle.std.specs.Ordering.{nat_cmp}
use Rattle.gc_base.specs.Ascending.{Ascends}
use Rattle.gc_spec.specs.PropertyGraph.{is_among, node_ids}
use Rattle.gc_automata.specs.Moves.{IsNetwork}
use Rattle.gc_prod.specs.declared.moves.Pair.{Pair}
use Rattle.gc_prod.specs.Products.{Setting, bundles}
use Rattle.gc_search.specs.Arrivals.{FoundWalk, same_pair}
use Rattle.gc_search.specs.Links.{Walks}

-- the place of a node among some, if it is one of them
abbrev pub place_in : List ℕ → ℕ → Option ℕ
place_in [] node = None
place_in (x ∷ nodes) node = if x == node then Some 0 else option_map suc (place_in nodes node)

-- pairs of these nodes and of states below a number are numbered node by node
abbrev pub number_of : List ℕ → ℕ → Pair → Option ℕ
number_of nodes width q = if nat_lt q.state width then option_map (λ place. place * width + q.state) (place_in nodes q.node) else None

-- a pair has a number
pub record IsNumbered (nodes : List ℕ) (width : ℕ) (q : Pair) : Type 0 where
  pub node : is_among nodes q.node ≡ true
  pub state : q.state < width

-- the places of those walks that arrive at a pair, where the first of all stands at i
abbrev pub places_from : ℕ → List FoundWalk → Pair → List ℕ
places_from i [] q = []
places_from i (a ∷ walks) q = if same_pair a.at q then i ∷ places_from (i + 1) walks q else places_from (i + 1) walks q

-- walks of a setting at pairs of these nodes and of states below a number
pub record Listing : Type 0 where
  pub setting : Setting
  pub nodes : List ℕ
  pub width : ℕ
  pub walks : List FoundWalk

abbrev pub tree_of : Listing → Walks
tree_of l = record { setting = l.setting; walks = l.walks }

-- for each number the places of the walks at its pair; a pair without a number has none
pub record IsListed (nodes : List ℕ) (width : ℕ) (walks : List FoundWalk) (places : List (List ℕ)) : Type 0 where
  pub ascend : Ascends nat_cmp nodes
  pub size : length places ≡ length nodes * width
  pub listed : (q : Pair) (n : ℕ) → number_of nodes width q ≡ Some n → get_or places n [] ≡ places_from 0 walks q
  pub others : (q : Pair) → number_of nodes width q ≡ None → places_from 0 walks q ≡ []

-- no walk is settled yet, and there are lists for all pairs of a product
pub record IsFresh (product : Setting) (l : Listing) : Type 0 where
  pub setting : l.setting ≡ product
  pub nodes : l.nodes ≡ node_ids l.setting.network.graph.nodes
  pub walks : l.walks ≡ []
  pub network : IsNetwork l.setting.network
  pub states : 0 < l.width
  pub above : (node state : ℕ) → AllByRecursion (λ b. b.state < l.width) (bundles l.setting node state)
