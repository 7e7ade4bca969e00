-- The CONSTRUCTs that a session without a fault evaluates.
use Rattle.std.specs.Prelude.{ℕ, List, map, None, Some, Option}
use Rattle.gc_lower.specs.Namings.{scope_in}
use Rattle.gc_query.specs.Evaluations.{Evaluation, EvaluatesAll}
use Rattle.gc_spec.specs.PropertyGraph.{PropertyGraph}
use Rattle.gcore.specs.Outcomes.{Prints, Request, beginning}

-- the session of a request, over graphs of these names, has no fault, and evaluates these CONSTRUCTs, in the order in which they end
pub record IsEvaluatedOver (names : List (Option (List ℕ))) (r : Request) (all : List Evaluation) : Type 0 where
  pub graphs : List PropertyGraph
  pub prints : Prints r graphs None
  pub evaluated : EvaluatesAll (scope_in r.query.file 0) names (beginning r.graphs) r.query.file.statements all

-- the names of the graphs over which a query file is asked for
abbrev pub given_names : Request → List (Option (List ℕ))
given_names r = map Some r.query.file.graphs
