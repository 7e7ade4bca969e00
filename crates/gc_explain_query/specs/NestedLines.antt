-- What it is to write the lines of EXISTS queries and to count them.
use Rattle.std.specs.Prelude.{◌≡◌, ℕ, ◌+◌, List, ◌++◌, length}
use Rattle.gc_spec.specs.PropertyGraph.{PropertyGraph}
use Rattle.gc_explain_query.specs.NestedQueries.{NestedQuery}
use Rattle.gc_explain_query.specs.QueryLines.{exists_lines}

-- the lines of queries stand behind a text, and their number behind that of the first
pub record AddsQueries (graphs : List PropertyGraph) (queries : List NestedQuery) (number next : ℕ) (text whole : List ℕ) : Type 0 where
  pub written : whole ≡ text ++ exists_lines graphs number queries
  pub counted : next ≡ number + length queries
