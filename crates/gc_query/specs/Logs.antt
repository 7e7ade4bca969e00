-- What is kept of the CONSTRUCTs that a session evaluates.
use Rattle.std.specs.Prelude.{◌≡◌, ℕ, ◌+◌, List, [], ◌∷◌, ◌++◌, length, Option, Some, None, if◌then◌else◌}
use Rattle.std.specs.List.{AllByRecursion, flat_map}
use Rattle.gc_alg.specs.Trees as alg
use Rattle.gc_ast.specs.Trees.{Tree, AHead, PathHead, GraphHead}
use Rattle.gc_base.specs.Words.{is_word}
use Rattle.gc_catalog.specs.NamedGraphs.{name_at}
use Rattle.gc_cert.specs.declared.document.SearchDoc.{SearchDoc}
use Rattle.gc_cert_searches.specs.Searches.{AreLow, AreSearchesOf, IsAccepted, matched}
use Rattle.gc_explain_query.specs.QueryLines.{AView, query_lines}
use Rattle.gc_lower.specs.Blocks.{block_of}
use Rattle.gc_lower.specs.Scopes.{Scope}
use Rattle.gc_prod.specs.Segments.{Segments}
use Rattle.gc_rows.specs.Tables.{Relation}
use Rattle.gc_query.specs.Evaluations.{Evaluation}
use Rattle.gc_query.specs.Segments.{block_on, declared, uses_of_block}
use Rattle.gc_query.specs.UsedViews.{UsedView}
use Rattle.gc_spec.specs.PropertyGraph.{PropertyGraph}
use Rattle.gc_query.specs.declared.log.Wants.{Wants}
use Rattle.gc_query.specs.declared.log.Wants.TheVariants.{Nothing, Plans, Searches}

-- what a log wants, how many CONSTRUCTs have been explained before it, the lines of each that it has, and the documents of searches
pub record Log : Type 0 where
  pub wants : Wants
  pub before : ℕ
  pub lines : List (List ℕ)
  pub searches : List SearchDoc

-- a log that has nothing yet
abbrev pub new_log : Wants → Log
new_log wants = record { wants = wants; before = 0; lines = []; searches = [] }

-- one behind all that another has, and the other with what this one was told
abbrev pub behind : Log → Log
behind log = record { wants = log.wants; before = length log.lines; lines = []; searches = [] }

abbrev pub taken_as : Wants → (log told : Log) → Log
taken_as Nothing log told = log
taken_as Plans log told = record log { lines = log.lines ++ told.lines }
taken_as Searches log told = record log { searches = log.searches ++ told.searches }

abbrev pub with_told : (log told : Log) → Log
with_told log told = taken_as log.wants log told

-- a name, where it is a word
abbrev pub word_if : List ℕ → Option (List ℕ)
word_if name = if is_word name then Some name else None

-- a view on a graph as it is explained, where both have names; the grammar and the sort rules let none be without one
abbrev pub named_view : (name graph : Option (List ℕ)) → alg.Tree alg.ABlock → List AView
named_view (Some name) (Some graph) block = record { name = name; graph = graph; block = block } ∷ []
named_view name graph block = []

-- the view of a head on the graph of a number; a head that names a graph declares none
abbrev pub explained_head : Scope → List (Option (List ℕ)) → (graph : ℕ) → Tree AHead → List AView
explained_head s names graph (PathHead name chains filter cost) =
    named_view (word_if name.name) (name_at names graph) (block_on s graph (declared name chains filter cost))
explained_head s names graph (GraphHead name query) = []

abbrev pub explained_view : Scope → List (Option (List ℕ)) → UsedView → List AView
explained_view s names u = explained_head s names u.graph u.head

-- the lines of a MATCH by its block, under a number: those of the views that it uses, and its own
abbrev pub explained_on : Scope → (number : ℕ) → List (Option (List ℕ)) → List PropertyGraph → alg.Tree alg.ABlock → List ℕ
explained_on s number names graphs block = query_lines graphs number (flat_map (explained_view s names) (uses_of_block s block)) block

-- those of a CONSTRUCT
abbrev pub explained : Scope → (number : ℕ) → Evaluation → List ℕ
explained s number e = explained_on s number e.names e.graphs (block_of s [] e.basic)

-- those of CONSTRUCTs behind so many others
abbrev pub explained_after : Scope → (before : ℕ) → List Evaluation → List (List ℕ)
explained_after s before [] = []
explained_after s before (e ∷ later) = explained s (before + 1) e ∷ explained_after s (before + 1) later

-- the documents of the searches for the walks that the table of a MATCH binds, by its block: exactly these, each accepted, with costs
-- below 2^127
pub record AreSearched (block : alg.Tree alg.ABlock) (graphs : List PropertyGraph) (segments : List Segments) (table : Relation) (docs : List SearchDoc) : Type 0 where
  pub exact : AreSearchesOf (matched graphs segments table) block docs
  pub accepted : AllByRecursion IsAccepted docs
  pub low : AllByRecursion AreLow docs

-- those of a CONSTRUCT, and of CONSTRUCTs one after another
abbrev pub SearchedIn : Scope → Evaluation → List SearchDoc → Type 0
SearchedIn s e docs = AreSearched (block_of s [] e.basic) e.graphs e.segments e.table docs

abbrev pub AreAllSearched : Scope → List Evaluation → List SearchDoc → Type 0
AreAllSearched s [] docs = docs ≡ []
AreAllSearched s (e ∷ later) docs = (here : List SearchDoc) × (rest : List SearchDoc) × (docs ≡ here ++ rest) × SearchedIn s e here × AreAllSearched s later rest

-- a log gains what it wants of the CONSTRUCTs that are evaluated
abbrev pub GainsAs : Wants → Scope → Log → List Evaluation → Log → Type 0
GainsAs Nothing s log all after = after ≡ log
GainsAs Plans s log all after = after ≡ record log { lines = log.lines ++ explained_after s (log.before + length log.lines) all }
GainsAs Searches s log all after = (docs : List SearchDoc) × AreAllSearched s all docs × (after ≡ record log { searches = log.searches ++ docs })

abbrev pub IsGained : Scope → Log → List Evaluation → Log → Type 0
IsGained s log all after = GainsAs log.wants s log all after

-- a log gains what it wants of some evaluations that are as told
abbrev pub Tells : Scope → (Are : List Evaluation → Type 0) → Log → Log → Type 0
Tells s Are log after = (all : List Evaluation) × Are all × IsGained s log all after

-- what is told of one, by the block of its MATCH
abbrev pub ToldAs : Wants → Scope → List (Option (List ℕ)) → List PropertyGraph → alg.Tree alg.ABlock → List Segments → Relation → Log → Log → Type 0
ToldAs Nothing s names graphs block segments table log after = after ≡ log
ToldAs Plans s names graphs block segments table log after =
    after ≡ record log { lines = log.lines ++ explained_on s (log.before + length log.lines + 1) names graphs block ∷ [] }
ToldAs Searches s names graphs block segments table log after =
    (docs : List SearchDoc) × AreSearched block graphs segments table docs × (after ≡ record log { searches = log.searches ++ docs })

abbrev pub IsToldOf : Scope → List (Option (List ℕ)) → List PropertyGraph → alg.Tree alg.ABlock → List Segments → Relation → Log → Log → Type 0
IsToldOf s names graphs block segments table log after = ToldAs log.wants s names graphs block segments table log after
