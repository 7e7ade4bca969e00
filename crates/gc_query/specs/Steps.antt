-- What one statement does to the graphs that stand.
use Rattle.std.specs.Prelude.{◌≡◌, ℕ, ◌&&◌, not, if◌then◌else◌, is_some, List, slice_get, Option, Some, None, Result, Ok, Err}
use Rattle.gc_ast.specs.Trees.{Tree, AStatement, View, Ask}
use Rattle.gc_base.specs.Words.{is_word}
use Rattle.gc_catalog.specs.NamedGraphs.{NamedGraphs, number_of, with_graph, with_local}
use Rattle.gc_lower.specs.Scopes.{Scope}
use Rattle.gc_query.specs.Sessions.{Answers, Prints, Names, Fails}
use Rattle.gc_query.specs.Standings.{Standing, Made}
use Rattle.gc_query.specs.declared.fault.QueryRefusal.{QueryRefusal}
use Rattle.gc_query.specs.declared.fault.QueryRefusal.TheVariants as refusal
use Rattle.gc_spec.specs.PropertyGraph.{PropertyGraph}

-- what stands in a catalog
abbrev pub standing : NamedGraphs → Standing
standing c = record { graphs = c.graphs; next = c.next }

-- the catalog behind a query statement
abbrev pub with_next : NamedGraphs → (next : ℕ) → NamedGraphs
with_next c next = record c { next = next }

-- a name, where it is a word that no graph has
abbrev pub free_word : List (Option (List ℕ)) → (name : List ℕ) → Option (List ℕ)
free_word names name = if is_word name && not (is_some (number_of names name)) then Some name else None

-- with a graph under a name, if there is one for it
abbrev pub with_named : NamedGraphs → Option (List ℕ) → PropertyGraph → NamedGraphs
with_named c None g = with_local c g
with_named c (Some name) g = with_graph c name g

-- the catalog behind a graph view: its graph stands under its name; the sort rules see to it that this is free
abbrev pub with_view : NamedGraphs → Tree AStatement → Made → NamedGraphs
with_view c (View name query) made = with_named (with_next c made.next) (free_word c.names name.name) made.graph
with_view c (Ask query) made = c

-- a statement was answered: with the graph that it prints; with none, where it names one; or it was refused, and the catalog is as it was
abbrev pub IsStep : Scope → (before after : NamedGraphs) → Tree AStatement → Result (Option PropertyGraph) QueryRefusal → Type 0
IsStep s before after statement (Ok (Some g)) =
    (made : Made) × Answers s (standing before) statement (Prints made) × (g ≡ made.graph) × (after ≡ with_next before made.next)
IsStep s before after statement (Ok None) =
    (made : Made) × Answers s (standing before) statement (Names made) × (after ≡ with_view before statement made)
IsStep s before after statement (Err (refusal.Fault fault)) = Answers s (standing before) statement (Fails fault) × (after ≡ before)
IsStep s before after statement (Err refusal.Memory) = after ≡ before

-- the same of the statement of a number
abbrev pub IsStepAt : Scope → (before after : NamedGraphs) → List (Tree AStatement) → ℕ → Result (Option PropertyGraph) QueryRefusal → Type 0
IsStepAt s before after statements i result = (statement : Tree AStatement) → slice_get statements i ≡ Some statement → IsStep s before after statement result
