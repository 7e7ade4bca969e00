-- How a run ends, once its graphs are read.
use Rattle.std.proofs.Common.{◌≡◌, ℕ, ◌≤◌, List, [], length, Option, None, Some, Result, Ok, Err, ap, ◌∙◌, subst, sym, refl, arith, inl, inr}
use Rattle.std.specs.Result.{IsErr, IsErrAnd}
use Rattle.std.specs.Option.{ForSome}
use Rattle.std.specs.Prelude.{IfSome, IsOk, IsSome, IsSomeAnd, ◌⊎◌}
use Rattle.gc_base.specs.Faults.{Rose}
use Rattle.gc_base.specs.Files.{Files}
use Rattle.std.specs.Io.KnownBytes.{append_known}
use Rattle.gc_spec.specs.PropertyGraph.{PropertyGraph}
use Rattle.gcore.specs.Outcomes.{Certifies, Explains, IsAsked, Request, Runs, Task, command_due, graph_names, graphs_due, outcome, query_file_due, request, run_due, task_due, texts, then_due}
use Rattle.gcore.specs.Endings.{Answers, Call, Change, GainsDuePrefix, GainsNothing, GainsPrefix, HoldsText, HoldsTexts, IsTurnOf, IsTurnOfGraph, IsTurnOfItsQuery, IsTurnOfItsSession, IsTurnOfQuery, MayBegin, RunsSession, StopsFor, WritesBeginning, graphs_of}
use Rattle.gcore.specs.GraphSteps.{StopsReadingGraphs}
use Rattle.gcore.specs.QueryFiles.{PlacedFile}
use Rattle.gcore.specs.Steps.{StopsReadingQuery}
use Rattle.gcore.specs.declared.command.Command.{Command}
use Rattle.gcore.specs.declared.command.Command.TheVariants.{Cert, Explain, Run}
use Rattle.gcore.specs.declared.pair.Pair.{Pair}
use Rattle.gcore.specs.declared.stop.Stop.{Stop}
use Rattle.gcore.specs.declared.stop.Stop.TheVariants.{Usage, Unread, TooLarge, Refused, Text, Sorts, Certificate, Rejected, Faulted, Unwritten, OutOfMemory}
use Rattle.gcore.specs.declared.style.Style.TheVariants as style

-- a sink that was not called
abbrev pub still : ℕ → Option (List ℕ) → Change
still faults taken = record { faults_before = faults; faults_after = faults; taken_before = taken; taken_after = taken }

-- the beginning that a session wrote is that of a text which is due
begun : (command : Option Command) (files : Files) (out : Change) (r : Request) → IsAsked (outcome command files) r → WritesBeginning r out
    → (task : Task) × (text : List ℕ) × (outcome command files ≡ Ok task) × MayBegin task text × GainsPrefix out text
begun command files out r asked w = (Runs r, texts r.style w.0, asked, (w.0, w.1, refl), w.2)

-- a session that was run, for a command that asks for it
pub ran : (command : Option Command) (told : Option Files) (before after : ℕ) (out : Change) (r : Request) → IsSome command → IsSomeAnd command (λ c. IsTurnOfItsSession told c)
    → IfSome told (λ files. IsAsked (outcome command files) r) → (result : Result (Unit {0}) Stop) → RunsSession r out result
    → Answers (record { command = command; files = told; faults_before = before; faults_after = after; out = out }) result
ran command None before after out r some turn asked (Ok done) w = (some, tt)
ran command (Some files) before after out r some turn asked (Ok done) w = (some, (Runs r, texts r.style w.0, asked, (w.0, w.1, refl), w.2))
ran command None before after out r some turn asked (Err (Faulted fault)) w = (turn, tt)
ran command (Some files) before after out r some turn asked (Err (Faulted fault)) w = (turn, (Runs r, asked, w))
ran command None before after out r some turn asked (Err Unwritten) w = (some, w.0, tt)
ran command (Some files) before after out r some turn asked (Err Unwritten) w = (some, w.0, inr (begun command files out r asked w.1))
ran command None before after out r some turn asked (Err OutOfMemory) w = tt
ran command (Some files) before after out r some turn asked (Err OutOfMemory) w = inr (begun command files out r asked w)
ran command told before after out r some turn asked (Err Usage) w = absurd w
ran command told before after out r some turn asked (Err (Unread name)) w = absurd w
ran command told before after out r some turn asked (Err (TooLarge name)) w = absurd w
ran command told before after out r some turn asked (Err (Refused refusal name)) w = absurd w
ran command told before after out r some turn asked (Err (Text refusal)) w = absurd w
ran command told before after out r some turn asked (Err (Sorts rule place)) w = absurd w
ran command told before after out r some turn asked (Err (Certificate refusal)) w = absurd w
ran command told before after out r some turn asked (Err (Rejected search rule)) w = absurd w

-- the query file that was read over these names, with what the folder told before
pub file_read : (told before : Option Files) (names graphs : List (List ℕ)) (query : List ℕ) (file : PlacedFile) → told ≡ before → names ≡ graphs → IfSome told (λ files. query_file_due names files query ≡ Ok file)
    → IfSome before (λ files. query_file_due graphs files query ≡ Ok file)
file_read told before names graphs query file kept same read =
    subst (λ ns. IfSome before (λ files. query_file_due ns files query ≡ Ok file)) same (subst (λ (t : Option Files). IfSome t (λ files. query_file_due names files query ≡ Ok file)) kept read)

-- a command reads graph files and a query file, and is asked for something that is over the session of these
pub record IsOverFiles (query : List ℕ) (pairs : List Pair) (command : Command) (task : Request → Task) : Type 0 where
  pub asks : (files : Files) → command_due files command ≡ task_due task (run_due files query pairs)
  pub turns : (told : Option Files) (file : List ℕ) → IsTurnOfGraph told pairs file ⊎ IsTurnOfQuery told query pairs file → IsTurnOf told command file
  pub graphs : (told : Option Files) (file : List ℕ) → IsTurnOfGraph told pairs file → IsTurnOfGraph told (graphs_of command) file
  pub its_query : (told : Option Files) → IsTurnOfQuery told query pairs query → IsTurnOfItsQuery told command

pub is_run : (query : List ℕ) (pairs : List Pair) → IsOverFiles query pairs (Run query pairs) Runs
is_run query pairs = record { asks = λ files. refl; turns = λ told file h. h; graphs = λ told file h. h; its_query = λ told h. h }

pub is_cert : (query : List ℕ) (pairs : List Pair) → IsOverFiles query pairs (Cert query pairs) Certifies
is_cert query pairs = record { asks = λ files. refl; turns = λ told file h. h; graphs = λ told file h. h; its_query = λ told h. h }

pub is_explain : (query : List ℕ) (pairs : List Pair) → IsOverFiles query pairs (Explain query pairs) Explains
is_explain query pairs = record { asks = λ files. refl; turns = λ told file h. h; graphs = λ told file h. h; its_query = λ told h. h }

module _ (query : List ℕ) (pairs : List Pair) (command : Command) (task : Request → Task) (is : IsOverFiles query pairs command task) where
  abbrev names : List (List ℕ)
  names = graph_names pairs

  -- what is due, once the graphs and the query file are read
  due_of : (files : Files) (gs : List PropertyGraph) (due : Result PlacedFile Stop) → graphs_due files [] pairs ≡ Ok gs → query_file_due names files query ≡ due
      → outcome (Some command) files ≡ task_due task (then_due due (request gs))
  due_of files gs due a b =
      is.asks files
      ∙ (ap (λ d. task_due task (then_due d (λ hs. then_due (query_file_due names files query) (request hs)))) a ∙ ap (λ d. task_due task (then_due d (request gs))) b)

  -- what is asked for over loaded graphs
  abbrev pub over : List PropertyGraph → PlacedFile → Request
  over gs file = record { graphs = gs; query = file; style = style.Text }

  asked_is : (files : Files) (gs : List PropertyGraph) (file : PlacedFile) → graphs_due files [] pairs ≡ Ok gs → query_file_due names files query ≡ Ok file
      → outcome (Some command) files ≡ Ok (task (over gs file))
  asked_is files gs file a b = due_of files gs (Ok file) a b

  -- a told room of `out` holds a text that may be begun of what is asked for
  pub room_holds : (told : Option Files) (gs : List PropertyGraph) (file : PlacedFile) (room : Option ℕ) → HoldsText room told (Some command)
      → IfSome told (λ files. graphs_due files [] pairs ≡ Ok gs) → IfSome told (λ files. query_file_due names files query ≡ Ok file)
      → ForSome room (λ most. (text : List ℕ) → (IfSome told (λ files. query_file_due names files query ≡ Ok file) → MayBegin (task (over gs file)) text) → length text ≤ most)
  room_holds told gs file room h a b = λ x here text may. within told x text (h x here) a b (may b)
    where
      within : (o : Option Files) (x : ℕ) (text : List ℕ)
          → IsSomeAnd o (λ files. (task : Task) (text : List ℕ) → outcome (Some command) files ≡ Ok task → MayBegin task text → length text ≤ x)
          → IfSome o (λ files. graphs_due files [] pairs ≡ Ok gs) → IfSome o (λ files. query_file_due names files query ≡ Ok file)
          → MayBegin (task (over gs file)) text → length text ≤ x
      within None x text holds c d may = absurd holds
      within (Some files) x text holds c d may = holds (task (over gs file)) text (asked_is files gs file c d) may

  -- the stop that is due, once the graphs are read
  due_stop : (files : Files) (gs : List PropertyGraph) (stop : Stop) → graphs_due files [] pairs ≡ Ok gs → query_file_due names files query ≡ Err stop → outcome (Some command) files ≡ Err stop
  due_stop files gs stop a b = due_of files gs (Err stop) a b

  due_or_fault : (files : Files) (gs : List PropertyGraph) (before middle after : ℕ) (stop : Stop) → graphs_due files [] pairs ≡ Ok gs → before ≤ middle → (query_file_due names files query ≡ Err stop) ⊎ Rose middle after
      → (outcome (Some command) files ≡ Err stop) ⊎ Rose before after
  due_or_fault files gs before middle after stop a le (inl due) = inl (due_stop files gs stop a due)
  due_or_fault files gs before middle after stop a le (inr rose) = inr (omega arith)

  -- where `out` gained nothing, it gained the beginning of what is due
  pub nothing_is_prefix : (told : Option Files) (before after : ℕ) (out : Change) → GainsNothing out
      → GainsDuePrefix (record { command = Some command; files = told; faults_before = before; faults_after = after; out = out })
  nothing_is_prefix None before after out h = tt
  nothing_is_prefix (Some files) before after out h = inl h

  -- where the query file stops the call, the call stops for that cause
  pub query_stops : (told : Option Files) (gs : List PropertyGraph) (before middle after faults : ℕ) (taken : Option (List ℕ)) (stop : Stop) → IfSome told (λ files. graphs_due files [] pairs ≡ Ok gs) → before ≤ middle
      → StopsReadingQuery (record { files = told; faults_before = middle; faults_after = after }) query (λ files. query_file_due names files query) stop
      → StopsFor (record { command = Some command; files = told; faults_before = before; faults_after = after; out = still faults taken }) stop
  query_stops told gs before middle after faults taken Usage graphs le h = absurd h
  query_stops None gs before middle after faults taken (Unread file) graphs le h = (is.turns None file (inr (h.0, tt)), omega arith, refl)
  query_stops (Some files) gs before middle after faults taken (Unread file) graphs le h =
      (is.turns (Some files) file (inr (h.0, subst IsOk (sym graphs) refl)), due_or_fault files gs before middle after (Unread file) graphs le h.1, refl)
  query_stops None gs before middle after faults taken (TooLarge file) graphs le h = (is.turns None file (inr (h.0, tt)), tt, refl)
  query_stops (Some files) gs before middle after faults taken (TooLarge file) graphs le h = (is.turns (Some files) file (inr (h.0, subst IsOk (sym graphs) refl)), due_stop files gs (TooLarge file) graphs h.1, refl)
  query_stops told gs before middle after faults taken (Refused refusal file) graphs le h = absurd h
  query_stops None gs before middle after faults taken (Text refusal) graphs le h = (is.its_query None (refl, tt), tt, refl)
  query_stops (Some files) gs before middle after faults taken (Text refusal) graphs le h = (is.its_query (Some files) (refl, subst IsOk (sym graphs) refl), due_stop files gs (Text refusal) graphs h, refl)
  query_stops None gs before middle after faults taken (Sorts rule place) graphs le h = (is.its_query None (refl, tt), tt, refl)
  query_stops (Some files) gs before middle after faults taken (Sorts rule place) graphs le h = (is.its_query (Some files) (refl, subst IsOk (sym graphs) refl), due_stop files gs (Sorts rule place) graphs h, refl)
  query_stops told gs before middle after faults taken (Certificate refusal) graphs le h = absurd h
  query_stops told gs before middle after faults taken (Rejected search rule) graphs le h = absurd h
  query_stops told gs before middle after faults taken (Faulted fault) graphs le h = absurd h
  query_stops told gs before middle after faults taken Unwritten graphs le h = absurd h
  query_stops told gs before middle after faults taken OutOfMemory graphs le h = nothing_is_prefix told before after (still faults taken) refl

  first_stop : (files : Files) (stop : Stop) → graphs_due files [] pairs ≡ Err stop → outcome (Some command) files ≡ Err stop
  first_stop files stop a = is.asks files ∙ ap (λ d. task_due task (then_due d (λ hs. then_due (query_file_due names files query) (request hs)))) a

  first_or_fault : (files : Files) (before after : ℕ) (stop : Stop) → (graphs_due files [] pairs ≡ Err stop) ⊎ Rose before after → (outcome (Some command) files ≡ Err stop) ⊎ Rose before after
  first_or_fault files before after stop (inl due) = inl (first_stop files stop due)
  first_or_fault files before after stop (inr rose) = inr rose

  -- where a graph file stops the call, the call stops for that cause
  pub graph_stops : (told : Option Files) (before after faults : ℕ) (taken : Option (List ℕ)) (stop : Stop) → StopsReadingGraphs (record { files = told; faults_before = before; faults_after = after }) pairs stop
      → StopsFor (record { command = Some command; files = told; faults_before = before; faults_after = after; out = still faults taken }) stop
  graph_stops told before after faults taken Usage h = absurd h
  graph_stops None before after faults taken (Unread file) h = (is.turns None file (inl h.0), h.1, refl)
  graph_stops (Some files) before after faults taken (Unread file) h = (is.turns (Some files) file (inl h.0), first_or_fault files before after (Unread file) h.1, refl)
  graph_stops None before after faults taken (TooLarge file) h = (is.turns None file (inl h.0), tt, refl)
  graph_stops (Some files) before after faults taken (TooLarge file) h = (is.turns (Some files) file (inl h.0), first_stop files (TooLarge file) h.1, refl)
  graph_stops None before after faults taken (Refused refusal file) h = (is.graphs None file h.0, tt, refl)
  graph_stops (Some files) before after faults taken (Refused refusal file) h = (is.graphs (Some files) file h.0, first_stop files (Refused refusal file) h.1, refl)
  graph_stops told before after faults taken (Text refusal) h = absurd h
  graph_stops told before after faults taken (Sorts rule place) h = absurd h
  graph_stops told before after faults taken (Certificate refusal) h = absurd h
  graph_stops told before after faults taken (Rejected search rule) h = absurd h
  graph_stops told before after faults taken (Faulted fault) h = absurd h
  graph_stops told before after faults taken Unwritten h = absurd h
  graph_stops told before after faults taken OutOfMemory h = nothing_is_prefix told before after (still faults taken) refl

  -- the turn of the query came, once the graphs are read
  pub turn : (told : Option Files) (gs : List PropertyGraph) → IfSome told (λ files. graphs_due files [] pairs ≡ Ok gs) → IfSome told (λ files. IsOk (graphs_due files [] pairs))
  turn None gs a = tt
  turn (Some files) gs a = subst IsOk (sym a) refl

  -- it is asked for, once the query file is read too
  pub asked : (told : Option Files) (gs : List PropertyGraph) (file : PlacedFile) → IfSome told (λ files. graphs_due files [] pairs ≡ Ok gs) → IfSome told (λ files. query_file_due names files query ≡ Ok file)
      → IfSome told (λ files. outcome (Some command) files ≡ Ok (task (over gs file)))
  asked None gs file a b = tt
  asked (Some files) gs file a b = asked_is files gs file a b

module _ (query : List ℕ) (pairs : List Pair) where
  -- a told room holds the texts of the session that is run
  pub run_room : (told : Option Files) (gs : List PropertyGraph) (file : PlacedFile) (room : Option ℕ) → HoldsText room told (Some (Run query pairs))
      → IfSome told (λ files. graphs_due files [] pairs ≡ Ok gs) → IfSome told (λ files. query_file_due (graph_names pairs) files query ≡ Ok file)
      → HoldsTexts room (over query pairs (Run query pairs) Runs (is_run query pairs) gs file)
  run_room told gs file room h a b = λ x here graphs first.
      room_holds query pairs (Run query pairs) Runs (is_run query pairs) told gs file room h a b x here (texts style.Text graphs) (λ read. (graphs, first, refl))

  -- what a call does that has read its graphs and its query file, and ran the session
  pub written : (told : Option Files) (gs : List PropertyGraph) (file : PlacedFile) (before after : ℕ) (out : Change) → IfSome told (λ files. graphs_due files [] pairs ≡ Ok gs)
      → IfSome told (λ files. query_file_due (graph_names pairs) files query ≡ Ok file) → (result : Result (Unit {0}) Stop) → RunsSession (over query pairs (Run query pairs) Runs (is_run query pairs) gs file) out result
      → Answers (record { command = Some (Run query pairs); files = told; faults_before = before; faults_after = after; out = out }) result
  written told gs file before after out a b result w =
      let run = Run query pairs in
      let is = is_run query pairs in
      ran (Some run) told before after out (over query pairs run Runs is gs file) refl (refl, turn query pairs run Runs is told gs a) (asked query pairs run Runs is told gs file a b) result w

-- what a call that stops for a cause answers
pub answers_stop : (call : Call) (result : Result (Unit {0}) Stop) (stop : Stop) → IsErr result → IsErrAnd result (λ refusal. refusal ≡ stop) → StopsFor call stop → Answers call result
answers_stop call (Ok done) stop err same stops = absurd same
answers_stop call (Err refusal) stop err same stops = subst (StopsFor call) (sym same) stops
