-- What is asked of a made graph.
use Rattle.std.specs.Prelude.{ℕ, List, codes}

-- the name of the made graph
abbrev pub made_name : List ℕ
made_name = codes "g"

-- the query: the least cost from the node First to each node that a walk leads to
unfoldable pub make_query : List ℕ
make_query = codes "CONSTRUCT (m {cost := c}) MATCH (n:First)-/p<:to*> COST c/->(m)"
