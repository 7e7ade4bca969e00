-- What the statements of a query file come to, one after another.
use Rattle.std.specs.Prelude.{◌≡◌, List, [], ◌∷◌, Option, Some, None, Result, Ok, Err, ◌⊎◌}
use Rattle.gc_ast.specs.Trees.{Tree, AStatement, View, Ask}
use Rattle.gc_lower.specs.Scopes.{Scope}
use Rattle.gc_query.specs.Queries.{Denotes, from_next, with_made}
use Rattle.gc_query.specs.Standings.{Standing, Made}
use Rattle.gc_query.specs.declared.fault.Fault.{Fault}
use Rattle.gc_spec.specs.PropertyGraph.{PropertyGraph}

-- Take `CONSTRUCT (x) MATCH (n); GRAPH VIEW v AS (g); v; CONSTRUCT (n {k := 1/0}) MATCH (n)` over one graph g of one node: the first statement prints
-- a graph of a new node, the second names g once more, the third prints it, and the fourth has a fault.

-- what a statement comes to: it prints a graph, it names a graph for the statements behind it, or it has a fault
pub data Answer : Type 0 where
  Prints : Made → Answer
  Names : Made → Answer
  Fails : Fault → Answer

-- a query statement prints its graph
abbrev pub AnswersAsk : Result Made Fault → Answer → Type 0
AnswersAsk (Ok made) answer = answer ≡ Prints made
AnswersAsk (Err fault) answer = answer ≡ Fails fault

-- a graph view names its graph
abbrev pub AnswersView : Result Made Fault → Answer → Type 0
AnswersView (Ok made) answer = answer ≡ Names made
AnswersView (Err fault) answer = answer ≡ Fails fault

abbrev pub Answers : Scope → Standing → Tree AStatement → Answer → Type 0
Answers s at (Ask query) answer = (outcome : Result Made Fault) × Denotes s at query outcome × AnswersAsk outcome answer
Answers s at (View name query) answer = (outcome : Result Made Fault) × Denotes s at query outcome × AnswersView outcome answer

-- what stands behind a statement: a printed graph leaves the graphs as they are, a named one is one more; a fault leaves all
abbrev pub behind : Standing → Answer → Standing
behind at (Prints made) = from_next at made.next
behind at (Names made) = with_made at made
behind at (Fails fault) = at

-- what a statement prints
abbrev pub printed_by : Answer → List PropertyGraph
printed_by (Prints made) = made.graph ∷ []
printed_by (Names made) = []
printed_by (Fails fault) = []

-- the end of a session at a statement with a fault, or what the statements behind another come to
abbrev pub Goes : Answer → (List PropertyGraph → Option Fault → Type 0) → List PropertyGraph → Option Fault → Type 0
Goes (Prints made) later graphs end = (rest : List PropertyGraph) × (graphs ≡ made.graph ∷ rest) × later rest end
Goes (Names made) later graphs end = later graphs end
Goes (Fails fault) later graphs end = (graphs ≡ []) × (end ≡ Some fault)

-- statements, from what stands: the graphs that are printed, in turn, and the fault that ends them, if one does
unfoldable pub Session : Scope → Standing → List (Tree AStatement) → List PropertyGraph → Option Fault → Type 0
Session s at [] = λ graphs end. (graphs ≡ []) × (end ≡ None)
Session s at (statement ∷ later) = λ graphs end. (answer : Answer) × Answers s at statement answer × Goes answer (Session s (behind at answer) later) graphs end

-- the graphs that the first statements have printed: of some of them, whatever the others come to
abbrev pub GoesOn : Answer → (List PropertyGraph → Type 0) → List PropertyGraph → Type 0
GoesOn (Prints made) later graphs = (rest : List PropertyGraph) × (graphs ≡ made.graph ∷ rest) × later rest
GoesOn (Names made) later graphs = later graphs
GoesOn (Fails fault) later graphs = graphs ≡ []

unfoldable pub Begins : Scope → Standing → List (Tree AStatement) → List PropertyGraph → Type 0
Begins s at [] = λ graphs. graphs ≡ []
Begins s at (statement ∷ later) =
    λ graphs. (graphs ≡ []) ⊎ ((answer : Answer) × Answers s at statement answer × GoesOn answer (Begins s (behind at answer) later) graphs)
