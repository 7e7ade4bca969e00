-- The outcome of a call: what it is asked and the texts that answer it, or the stop that is due.
use Rattle.std.specs.Prelude.{◌≡◌, ℕ, ◌+◌, List, [], ◌∷◌, ◌++◌, fold, length, map, max, nat_lt, if◌then◌else◌, Some, None, Option, Result, Ok, Err}
use Rattle.std.specs.List.{flat_map}
use Rattle.gc_base.specs.Files.{Files, file_of}
use Rattle.gc_base.specs.declared.place.MakeKind.{MakeKind}
use Rattle.gc_spec.specs.Coherence.{shapes_of}
use Rattle.gc_spec.specs.PropertyGraph.{PropertyGraph, ids_of}
use Rattle.gc_json.specs.CanonicalText.{canonical_text}
use Rattle.gc_json.specs.FileElements.{Seen}
use Rattle.gc_json.specs.GraphFiles.{file_graph}
use Rattle.gc_json.specs.declared.refusal.GraphRefusal.{GraphRefusal}
use Rattle.gc_lower.specs.Namings.{scope_in}
use Rattle.gc_make.specs.MadeGraphs.{made}
use Rattle.gc_query.specs.Sessions.{Session, Begins}
use Rattle.gc_query.specs.Standings.{Standing}
use Rattle.gc_query.specs.declared.fault.Fault.{Fault}
use Rattle.gcore.specs.MakeQueries.{made_name, make_query}
use Rattle.gcore.specs.QueryFiles.{PlacedFile, query_file_of}
use Rattle.gcore.specs.Summaries.{summary}
use Rattle.gcore.specs.declared.command.Command.{Command}
use Rattle.gcore.specs.declared.command.Command.TheVariants.{Run, Cert, Explain, Check, Make}
use Rattle.gcore.specs.declared.command.CommandRefusal.{CommandRefusal}
use Rattle.gcore.specs.declared.command.CommandRefusal.TheVariants as refusal
use Rattle.gcore.specs.declared.pair.Pair.{Pair}
use Rattle.gcore.specs.declared.stop.Stop.{Stop}
use Rattle.gcore.specs.declared.stop.Stop.TheVariants.{Usage, Unread, TooLarge, Refused, OutOfMemory}
use Rattle.gcore.specs.declared.style.Style.{Style}
use Rattle.gcore.specs.declared.style.Style.TheVariants.{Text, Summary}

-- how many bytes a graph file may have, and a query file
abbrev pub graph_limit : ℕ
graph_limit = 33554432

abbrev pub query_limit : ℕ
query_limit = 1048576

-- a document may have as many as a graph file
abbrev pub document_limit : ℕ
document_limit = graph_limit

-- one thing after another: the first stop is due
abbrev pub then_due : {A B : Type 0} → Result A Stop → (A → Result B Stop) → Result B Stop
then_due (Ok x) next = next x
then_due (Err stop) next = Err stop

-- a file within its limit; one that is missing can't be read
abbrev pub within_limit : List ℕ → ℕ → Option (List ℕ) → Result (List ℕ) Stop
within_limit name limit None = Err (Unread name)
within_limit name limit (Some bytes) = if nat_lt limit (length bytes) then Err (TooLarge name) else Ok bytes

abbrev pub file_due : Files → List ℕ → ℕ → Result (List ℕ) Stop
file_due files name limit = within_limit name limit (file_of files name)

-- the graph of a file, or the rule that the file breaks
abbrev pub accepted : List ℕ → Result PropertyGraph GraphRefusal → Result PropertyGraph Stop
accepted name (Ok g) = Ok g
accepted name (Err refusal) = Err (Refused refusal name)

-- the graph of a graph file, beside what identities stand for in the graphs of the files before it
abbrev pub graph_due : Files → Seen → List ℕ → Result PropertyGraph Stop
graph_due files seen name = then_due (file_due files name graph_limit) (λ bytes. accepted name (file_graph seen bytes))

-- the graphs of graph files, one after another
abbrev pub graphs_due : Files → Seen → List Pair → Result (List PropertyGraph) Stop
graphs_due files seen [] = Ok []
graphs_due files seen (pair ∷ pairs) =
    then_due (graph_due files seen pair.file) (λ g. then_due (graphs_due files (seen ++ shapes_of g ∷ []) pairs) (λ gs. Ok (g ∷ gs)))

-- a query file, over graphs of these names
abbrev pub query_file_due : List (List ℕ) → Files → List ℕ → Result PlacedFile Stop
query_file_due graphs files name = then_due (file_due files name query_limit) (query_file_of graphs)

-- the names of graph files, in the order of the words
abbrev pub graph_names : List Pair → List (List ℕ)
graph_names pairs = map (λ (p : Pair). p.name) pairs

-- what a session is asked: the graphs, the query file, and how its graphs are written
pub record Request : Type 0 where
  pub graphs : List PropertyGraph
  pub query : PlacedFile
  pub style : Style

-- a session over graphs, of which each that it prints is written as its text
abbrev pub session_over : List PropertyGraph → PlacedFile → Request
session_over graphs query = record { graphs = graphs; query = query; style = Text }

abbrev pub request : List PropertyGraph → PlacedFile → Result Request Stop
request graphs query = Ok (session_over graphs query)

-- the first identity above all of some graphs, or 0 where they have no element: the greatest of the numbers behind their identities
abbrev pub free_above : List PropertyGraph → ℕ
free_above graphs = fold max 0 (map (λ id. id + 1) (flat_map ids_of graphs))

-- a session begins over the loaded graphs, and identities are free above all of theirs
abbrev pub beginning : List PropertyGraph → Standing
beginning graphs = record { graphs = graphs; next = free_above graphs }

-- the session that is asked for prints these graphs, in turn, and ends with a fault or without one
abbrev pub Prints : Request → List PropertyGraph → Option Fault → Type 0
Prints r graphs end = Session (scope_in r.query.file 0) (beginning r.graphs) r.query.file.statements graphs end

-- its first statements print these graphs
abbrev pub PrintsFirst : Request → List PropertyGraph → Type 0
PrintsFirst r graphs = Begins (scope_in r.query.file 0) (beginning r.graphs) r.query.file.statements graphs

-- the text of a graph, and a line feed
unfoldable pub graph_text : PropertyGraph → List ℕ
graph_text g = canonical_text g ++ 10 ∷ []

-- a graph as it is written: its text, or the line that tells of it as an answer
abbrev pub printed : Style → PropertyGraph → List ℕ
printed Text g = graph_text g
printed (Summary nodes edges) g = summary nodes edges g

-- graphs as they are written, one after another
abbrev pub texts : Style → List PropertyGraph → List ℕ
texts style graphs = flat_map (printed style) graphs

-- first the graph files, then the query file
abbrev pub run_due : Files → List ℕ → List Pair → Result Request Stop
run_due files query pairs =
    then_due (graphs_due files [] pairs) (λ gs. then_due (query_file_due (graph_names pairs) files query) (request gs))

-- the session about a made graph: the graph alone, under its name, the query that is asked of it, and a line that tells of its answer
abbrev pub make_request : PropertyGraph → PlacedFile → Result Request Stop
make_request g query = Ok (record { graphs = g ∷ []; query = query; style = Summary (length g.nodes) (length g.edges) })

abbrev pub make_due : MakeKind → (size start : ℕ) → Result Request Stop
make_due kind size start = then_due (query_file_of (made_name ∷ []) make_query) (make_request (made kind size start))

-- what a call has to do: to run a session, to explain or to certify one, or to check the bytes of a document
pub data Task : Type 0 where
  Runs : Request → Task
  Explains : Request → Task
  Certifies : Request → Task
  Checks : List ℕ → Task

-- what is to be done with a session, as what is due
abbrev pub task_due : (Request → Task) → Result Request Stop → Result Task Stop
task_due task due = then_due due (λ r. Ok (task r))

-- the document that is checked
abbrev pub check_due : Files → List ℕ → Result Task Stop
check_due files document = then_due (file_due files document document_limit) (λ bytes. Ok (Checks bytes))

-- what a command has to do
abbrev pub command_due : Files → Command → Result Task Stop
command_due files (Run query pairs) = task_due Runs (run_due files query pairs)
command_due files (Cert query pairs) = task_due Certifies (run_due files query pairs)
command_due files (Explain query pairs) = task_due Explains (run_due files query pairs)
command_due files (Check document) = check_due files document
command_due files (Make kind size start) = task_due Runs (make_due kind size start)

-- words that are no command are a usage fault
abbrev pub form_due : Option Command → Result Command Stop
form_due None = Err Usage
form_due (Some command) = Ok command

-- the outcome of a call, what it has to do or the stop that is due, by the command that its words are, if any
abbrev pub outcome : Option Command → Files → Result Task Stop
outcome command files = then_due (form_due command) (command_due files)

-- a call is asked to run the session of a request, and to check these bytes
abbrev pub IsAsked : Result Task Stop → Request → Type 0
IsAsked due r = due ≡ Ok (Runs r)

-- a call is asked for something that is over the session of a request
abbrev pub IsOverSession : Task → Request → Type 0
IsOverSession (Runs r) s = r ≡ s
IsOverSession (Explains r) s = r ≡ s
IsOverSession (Certifies r) s = r ≡ s
IsOverSession (Checks bytes) s = ⊥

abbrev pub IsToCheck : Result Task Stop → List ℕ → Type 0
IsToCheck due bytes = due ≡ Ok (Checks bytes)

-- why there is no command, as a stop
abbrev pub stop_of_command : CommandRefusal → Stop
stop_of_command refusal.Usage = Usage
stop_of_command refusal.Memory = OutOfMemory
