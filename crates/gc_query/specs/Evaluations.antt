-- The CONSTRUCTs that a query evaluates, in the order in which they end.
use Rattle.std.specs.Prelude.{◌≡◌, ℕ, List, [], ◌∷◌, ◌++◌, Option, Ok}
use Rattle.gc_alg.specs.Tables.{IsTableOfBlock}
use Rattle.gc_ast.specs.Trees.{Tree, ABasic, AQuery, ATerm, AHead, ANextTerm, AStatement, RowOf, View, Ask, Query, NextTerm, BasicTerm, GraphTerm, QueryTerm}
use Rattle.gc_ast.specs.Trees.{PathHead, GraphHead, none, more}
use Rattle.gc_exec.specs.Runs.{setting}
use Rattle.gc_lower.specs.Blocks.{block_of}
use Rattle.gc_lower.specs.Scopes.{Scope}
use Rattle.gc_prod.specs.Segments.{Segments}
use Rattle.gc_rows.specs.Tables.{Relation}
use Rattle.gc_spec.specs.PropertyGraph.{PropertyGraph}
use Rattle.gc_query.specs.Queries.{Combines, DenotesTerm, Heads}
use Rattle.gc_query.specs.Segments.{HasSegments}
use Rattle.gc_query.specs.Sessions.{Answer, Answers, behind}
use Rattle.gc_query.specs.Standings.{Standing, Made}
use Rattle.gc_query.specs.Steps.{free_word}

-- Take `GRAPH h AS (CONSTRUCT (x) MATCH (n)) CONSTRUCT (n) MATCH (n) ON h UNION g`: first the CONSTRUCT of the head is evaluated, and then
-- the other one, over one graph more, which is called h.

-- a CONSTRUCT that is evaluated: the graphs that stand then, their names, the segments that its MATCH uses, and the table of this
pub record Evaluation : Type 0 where
  pub basic : Tree ABasic
  pub names : List (Option (List ℕ))
  pub graphs : List PropertyGraph
  pub segments : List Segments
  pub table : Relation

-- they are those of its MATCH
pub record IsMatched (s : Scope) (e : Evaluation) : Type 0 where
  pub used : HasSegments s e.graphs (block_of s [] e.basic) (Ok e.segments)
  pub matched : IsTableOfBlock (setting e.graphs e.segments (block_of s [] e.basic) []) e.table

-- the evaluation of a CONSTRUCT where graphs stand
abbrev pub evaluation : Tree ABasic → List (Option (List ℕ)) → List PropertyGraph → List Segments → Relation → Evaluation
evaluation basic names graphs segments table = record { basic = basic; names = names; graphs = graphs; segments = segments; table = table }

abbrev pub EvaluatesBasic : Scope → List (Option (List ℕ)) → List PropertyGraph → Tree ABasic → List Evaluation → Type 0
EvaluatesBasic s names graphs basic all =
    (segments : List Segments) × (table : Relation) × IsMatched s (evaluation basic names graphs segments table)
    × (all ≡ evaluation basic names graphs segments table ∷ [])

-- the names of the graphs that stand under heads; a graph has the name that its head gives
abbrev pub names_under : List (Option (List ℕ)) → Tree AHead → List (Option (List ℕ))
names_under names (PathHead name chains filter cost) = names
names_under names (GraphHead name query) = names ++ free_word names name.name ∷ []

abbrev pub names_under_all : List (Option (List ℕ)) → Tree (RowOf AHead) → List (Option (List ℕ))
names_under_all names none = names
names_under_all names (more head heads) = names_under_all (names_under names head) heads

-- evaluations behind others
abbrev pub InTurn : (first later : List Evaluation → Type 0) → List Evaluation → Type 0
InTurn First Later all = (first : List Evaluation) × (later : List Evaluation) × First first × Later later × (all ≡ first ++ later)

unfoldable mutual
  -- what a query evaluates: what its heads do, and then its terms from the first, over what stands under them
  pub Evaluates : Scope → List (Option (List ℕ)) → Standing → Tree AQuery → List Evaluation → Type 0
  Evaluates s names at (Query heads first rest) =
      λ all. (under : Standing) × (left : Made) × Heads s at heads (Ok under) × DenotesTerm s under first (Ok left)
      × InTurn (EvaluatesHeads s names at heads)
      (InTurn (EvaluatesTerm s (names_under_all names heads) under first) (EvaluatesLater s (names_under_all names heads) under.graphs left rest)) all

  -- heads, one after another; a view is evaluated where it is used
  pub EvaluatesHeads : Scope → List (Option (List ℕ)) → Standing → Tree (RowOf AHead) → List Evaluation → Type 0
  EvaluatesHeads s names at none = λ all. all ≡ []
  EvaluatesHeads s names at (more head heads) =
      λ all. (now : Standing) × Heads s at (more head none) (Ok now)
      × InTurn (EvaluatesHead s names at head) (EvaluatesHeads s (names_under names head) now heads) all

  pub EvaluatesHead : Scope → List (Option (List ℕ)) → Standing → Tree AHead → List Evaluation → Type 0
  EvaluatesHead s names at (PathHead name chains filter cost) = λ all. all ≡ []
  EvaluatesHead s names at (GraphHead name query) = λ all. Evaluates s names at query all

  pub EvaluatesTerm : Scope → List (Option (List ℕ)) → Standing → Tree ATerm → List Evaluation → Type 0
  EvaluatesTerm s names at (BasicTerm basic) = λ all. EvaluatesBasic s names at.graphs basic all
  EvaluatesTerm s names at (GraphTerm g) = λ all. all ≡ []
  EvaluatesTerm s names at (QueryTerm query) = λ all. Evaluates s names at query all

  -- later terms, each with what stands at its left
  pub EvaluatesLater : Scope → List (Option (List ℕ)) → (graphs : List PropertyGraph) → Made → Tree (RowOf ANextTerm) → List Evaluation → Type 0
  EvaluatesLater s names graphs left none = λ all. all ≡ []
  EvaluatesLater s names graphs left (more (NextTerm op term) later) =
      λ all. (right : Made) × (both : Made) × DenotesTerm s (record { graphs = graphs; next = left.next }) term (Ok right) × Combines op left.graph right both
      × InTurn (EvaluatesTerm s names (record { graphs = graphs; next = left.next }) term) (EvaluatesLater s names graphs both later) all

-- what a statement evaluates
abbrev pub EvaluatesStatement : Scope → List (Option (List ℕ)) → Standing → Tree AStatement → List Evaluation → Type 0
EvaluatesStatement s names at (View name query) all = Evaluates s names at query all
EvaluatesStatement s names at (Ask query) all = Evaluates s names at query all

-- the names behind a statement: a graph view names its graph
abbrev pub names_behind : List (Option (List ℕ)) → Tree AStatement → List (Option (List ℕ))
names_behind names (View name query) = names ++ free_word names name.name ∷ []
names_behind names (Ask query) = names

-- what statements evaluate, one after another
unfoldable pub EvaluatesAll : Scope → List (Option (List ℕ)) → Standing → List (Tree AStatement) → List Evaluation → Type 0
EvaluatesAll s names at [] = λ all. all ≡ []
EvaluatesAll s names at (statement ∷ later) =
    λ all. (answer : Answer) × Answers s at statement answer
    × InTurn (EvaluatesStatement s names at statement) (EvaluatesAll s (names_behind names statement) (behind at answer) later) all
