-- What stands when a query is answered, and what it makes.
use Rattle.std.specs.Prelude.{ℕ, List}
use Rattle.gc_spec.specs.PropertyGraph.{PropertyGraph}

-- the graphs by number, and the first identity that is free
pub record Standing : Type 0 where
  pub graphs : List PropertyGraph
  pub next : ℕ

-- a graph, and the first identity that is free then
pub record Made : Type 0 where
  pub graph : PropertyGraph
  pub next : ℕ
