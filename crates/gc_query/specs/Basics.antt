-- What a CONSTRUCT comes to.
use Rattle.std.specs.Prelude.{◌≡◌, ℕ, List, [], Option, Some, None, Result, Ok, Err}
use Rattle.gc_alg.specs.Tables.{IsTableOfBlock}
use Rattle.gc_alg.specs.Trees as alg
use Rattle.gc_ast.specs.Trees.{Tree, ABasic, Basic}
use Rattle.gc_build.specs.Constructed.{IsBuilt, IsSpent, fault}
use Rattle.gc_build.specs.AllPaths.{Patterns}
use Rattle.gc_build_numbers.specs.Settings.{Setting}
use Rattle.gc_build_reading.specs.Recipes.{recipe_of}
use Rattle.gc_build_recipe.specs.Recipes.{Recipe}
use Rattle.gc_exec.specs.Runs.{setting}
use Rattle.gc_lower.specs.Blocks.{block_of}
use Rattle.gc_lower.specs.Scopes.{Scope}
use Rattle.gc_prod.specs.Segments.{Segments}
use Rattle.gc_query.specs.Costs.{costs_of, first_past}
use Rattle.gc_query.specs.Outcomes.{Then}
use Rattle.gc_query.specs.Segments.{HasSegments}
use Rattle.gc_query.specs.Standings.{Standing, Made}
use Rattle.gc_query.specs.declared.costs.PastAt.{PastAt}
use Rattle.gc_query.specs.declared.fault.Fault.{Fault}
use Rattle.gc_query.specs.declared.fault.Fault.TheVariants.{Undefined, CostPastRange, IdsSpent}
use Rattle.gc_rows.specs.Tables.{Relation}

-- the token of the word CONSTRUCT
abbrev pub token_of : Tree ABasic → ℕ
token_of (Basic token items main optionals) = token

-- what a recipe comes to on a table of a MATCH with these patterns: the graph of all that is claimed, or the first fault
abbrev pub ComesTo : Setting → Recipe → Patterns → (next token : ℕ) → Result Made Fault → Type 0
ComesTo s r ps next token (Ok made) = IsBuilt s r ps next (record { graph = made.graph; next = made.next })
ComesTo s r ps next token (Err (Undefined at row why)) = fault s r ≡ Some (record { at = at; row = row; why = why })
ComesTo s r ps next token (Err (IdsSpent at needed)) = (at ≡ token) × IsSpent s r next needed
ComesTo s r ps next token (Err fault) = ⊥

-- a cost that is past the range comes before what the recipe comes to
abbrev pub WithCosts : Option PastAt → (Result Made Fault → Type 0) → Result Made Fault → Type 0
WithCosts (Some past) Comes outcome = outcome ≡ Err (CostPastRange past.token past.row)
WithCosts None Comes outcome = Comes outcome

-- the table of a MATCH, with the graphs in which its variables are read; the patterns of the MATCH, with the segments that it uses;
-- and what the CONSTRUCT asks for
abbrev pub read_on : Scope → Standing → Tree ABasic → Relation → Setting
read_on s at basic table = record { schema = table.schema; rows = table.rows; reads = alg.reads_of (block_of s [] basic); graphs = at.graphs }

abbrev pub patterns_of : Scope → Tree ABasic → List Segments → Patterns
patterns_of s basic segments = record { block = block_of s [] basic; segments = segments }

abbrev pub asked_of : Scope → Tree ABasic → Relation → Recipe
asked_of s basic table = recipe_of s table.schema basic

-- what a CONSTRUCT comes to on the table of its MATCH
abbrev pub Comes : Scope → Standing → Tree ABasic → List Segments → Relation → Result Made Fault → Type 0
Comes s at basic segments table = ComesTo (read_on s at basic table) (asked_of s basic table) (patterns_of s basic segments) at.next (token_of basic)

abbrev pub OnTable : Scope → Standing → Tree ABasic → List Segments → Relation → Result Made Fault → Type 0
OnTable s at basic segments table = WithCosts (first_past (costs_of s basic) table.rows) (Comes s at basic segments table)

-- over the segments that its MATCH uses, a CONSTRUCT comes to what its recipe does on the table of the MATCH
pub record OverSegments (s : Scope) (at : Standing) (basic : Tree ABasic) (segments : List Segments) (outcome : Result Made Fault) : Type 0 where
  pub table : Relation
  pub matched : IsTableOfBlock (setting at.graphs segments (block_of s [] basic) []) table
  pub made : OnTable s at basic segments table outcome

-- a CONSTRUCT comes to what it does over the segments that its MATCH uses, or to the fault of a view
pub record DenotesBasic (s : Scope) (at : Standing) (basic : Tree ABasic) (outcome : Result Made Fault) : Type 0 where
  pub segments : Result (List Segments) Fault
  pub used : HasSegments s at.graphs (block_of s [] basic) segments
  pub comes : Then segments (OverSegments s at basic) outcome
