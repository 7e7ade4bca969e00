-- What a statement leaves in a log.
use Rattle.std.specs.Prelude.{◌≡◌, ℕ, List, slice_get, Option, Some, Result, Ok, Err}
use Rattle.gc_ast.specs.Trees.{Tree, AStatement}
use Rattle.gc_catalog.specs.NamedGraphs.{NamedGraphs}
use Rattle.gc_lower.specs.Scopes.{Scope}
use Rattle.gc_query.specs.Evaluations.{EvaluatesStatement}
use Rattle.gc_query.specs.Logs.{Log, Tells}
use Rattle.gc_query.specs.Steps.{standing}
use Rattle.gc_query.specs.declared.fault.QueryRefusal.{QueryRefusal}
use Rattle.gc_spec.specs.PropertyGraph.{PropertyGraph}

-- behind a statement over a catalog a log has gained what it wants of what that evaluates; after a refusal it is as it was
abbrev pub IsLogged : Scope → NamedGraphs → Tree AStatement → (before after : Log) → Result (Option PropertyGraph) QueryRefusal → Type 0
IsLogged s c statement before after (Ok answer) = Tells s (EvaluatesStatement s c.names (standing c) statement) before after
IsLogged s c statement before after (Err refusal) = after ≡ before

-- the same of the statement of a number
abbrev pub IsLoggedAt : Scope → NamedGraphs → List (Tree AStatement) → ℕ → (before after : Log) → Result (Option PropertyGraph) QueryRefusal → Type 0
IsLoggedAt s c statements i before after result =
    (statement : Tree AStatement) → slice_get statements i ≡ Some statement → IsLogged s c statement before after result
