-- A number for each pair of a node of a list and a state below a number.
use Rattle.std.specs.Prelude.{◌≡◌, ℕ, ◌+◌, ◌*◌, ◌<◌, true, List}
use Rattle.gc_spec.specs.PropertyGraph.{is_among}
use Rattle.gc_prod.specs.Places.{place_in}
use Rattle.gc_prod.specs.declared.moves.Pair.{Pair}

-- pairs are numbered node by node
abbrev pub number_of : List ℕ → ℕ → Pair → ℕ
number_of nodes width p = place_in nodes p.node * width + p.state

-- a pair has a number of its own
pub record IsNumbered (nodes : List ℕ) (width : ℕ) (p : Pair) : Type 0 where
  pub node : is_among nodes p.node ≡ true
  pub state : p.state < width
