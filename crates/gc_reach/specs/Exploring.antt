-- Going over pairs, from one on, until there is none behind.
use Rattle.std.specs.Prelude.{◌≡◌, ℕ, zero, suc, ◌+◌, ◌*◌, true, false, List, [], ◌∷◌, map, length, slice_index, sum_by}
use Rattle.std.specs.List.{AllByRecursion, Contains}
use Rattle.gc_spec.specs.PropertyGraph.{is_among}
use Rattle.gc_prod.specs.declared.moves.Pair.{Pair}
use Rattle.gc_prod.specs.Landings.{Landing}
use Rattle.gc_prod.specs.Leading.{pair, target_of}
use Rattle.gc_prod.specs.Products.{Setting, Bundle, moves, moves_by}
use Rattle.gc_reach.specs.Marking.{has_pair}

-- the pairs to which the moves of a pair lead
abbrev pub targets : Setting → Pair → List Pair
targets setting p = map target_of (moves setting p.node p.state)

-- the pairs to which a bundle leads
abbrev pub targets_by : Bundle → List Pair
targets_by b = map target_of (moves_by b)

-- the pairs of the nodes at some places and a state
abbrev pub landed : List ℕ → Landing → List Pair
landed nodes l = map (λ p. pair (slice_index nodes p) l.state) l.places

-- so many times from a pair to one of those behind it
abbrev pub Led : (Pair → List Pair) → ℕ → Pair → Pair → Type 0
Led behind zero p q = p ≡ q
Led behind (suc n) p q = (r : Pair) × Contains (behind p) r × Led behind n r q

-- some number of times
abbrev pub IsLed : (Pair → List Pair) → Pair → Pair → Type 0
IsLed behind p q = (n : ℕ) × Led behind n p q

-- each pair behind a pair is among some
abbrev pub IsClosed : (Pair → List Pair) → List Pair → Pair → Type 0
IsClosed behind pairs p = AllByRecursion (λ q. has_pair pairs q ≡ true) (behind p)

-- how many moves some pairs have
abbrev pub work : Setting → List Pair → ℕ
work setting pairs = sum_by (λ p. length (moves setting p.node p.state)) pairs

-- no pair comes twice
abbrev pub AreApart : List Pair → Type 0
AreApart [] = Unit {0}
AreApart (p ∷ pairs) = (has_pair pairs p ≡ false) × AreApart pairs

-- pairs that are found from a pair on: one is led to each, and they are nodes' pairs, each once
pub record AreFound (behind : Pair → List Pair) (nodes : List ℕ) (from : Pair) (pairs : List Pair) : Type 0 where
  pub start : has_pair pairs from ≡ true
  pub sound : AllByRecursion (IsLed behind from) pairs
  pub there : AllByRecursion (λ q. is_among nodes q.node ≡ true) pairs
  pub apart : AreApart pairs

-- and all of them: none lacks a pair behind it
pub record AreAll (behind : Pair → List Pair) (nodes : List ℕ) (from : Pair) (pairs : List Pair) : Type 0 where
  pub found : AreFound behind nodes from pairs
  pub closed : AllByRecursion (IsClosed behind pairs) pairs

-- the most moves that pairs, each once, have together: along each transition no more than there are
-- nodes, edges and segments
abbrev pub most_moves : Setting → ℕ
most_moves setting =
    length setting.machine.transitions
    * (length setting.network.graph.nodes + length setting.network.graph.edges + length setting.network.segments)
