-- How many moves a search asks for.
use Rattle.std.specs.Prelude.{ℕ, ◌+◌, ◌*◌, List, length, sum_by}
use Rattle.gc_prod.specs.Products.{Setting, moves}
use Rattle.gc_search.specs.Arrivals.{FoundWalk}

-- the moves behind a walk, and behind some walks
abbrev pub degree : Setting → FoundWalk → ℕ
degree setting a = length (moves setting a.at.node a.at.state)

abbrev pub asked : Setting → List FoundWalk → ℕ
asked setting walks = sum_by (degree setting) walks

-- the most moves that all pairs have together: along each transition no more than there are nodes, edges and segments
abbrev pub most_moves : Setting → ℕ
most_moves setting =
    length setting.machine.transitions
    * (length setting.network.graph.nodes + length setting.network.graph.edges + length setting.network.segments)
