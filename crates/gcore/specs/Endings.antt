-- How a call ends, and what it did to the outside.
use Rattle.std.specs.Prelude.{◌≡◌, ℕ, ◌≤◌, List, [], ◌∷◌, ◌++◌, length, map, Some, None, Option, Result, Ok, Err, IsOk, IsSome, IfSome, MatchOption, IsSomeAnd, Contains, ⊤, ◌⊎◌}
use Rattle.std.specs.Option.{ForSome}
use Rattle.std.specs.Io.KnownBytes.{append_known}
use Rattle.gc_base.specs.Faults.{Rose}
use Rattle.gc_base.specs.Files.{Files}
use Rattle.gc_base.specs.declared.place.MakeKind.{MakeKind}
use Rattle.gc_base.specs.declared.place.Place.{Place}
use Rattle.gc_query.specs.declared.fault.Fault.{Fault}
use Rattle.gc_query.specs.declared.fault.Fault.TheVariants as fault
use Rattle.gc_spec.specs.PropertyGraph.{PropertyGraph}
use Rattle.gc_cert_text.specs.declared.refusal.CertRefusal.{CertRefusal}
use Rattle.gc_check.specs.declared.rule.KRule.{KRule}
use Rattle.gc_check_text.specs.Outcomes.{IsOutcome}
use Rattle.gc_check_text.specs.declared.refusal.CheckRefusal.{CheckRefusal}
use Rattle.gc_check_text.specs.declared.refusal.CheckRefusal.TheVariants as check
use Rattle.gcore.specs.CertificateLines.{IsHeldCertificate, IsHeldSearch, accepted_line}
use Rattle.gcore.specs.Certifications.{IsCertified}
use Rattle.gcore.specs.FaultLines.{IsHeldFault, walk_text}
use Rattle.gcore.specs.GraphLines.{IsHeld}
use Rattle.gcore.specs.Lines.{line_of, status_of}
use Rattle.gcore.specs.Explanations.{IsExplained}
use Rattle.gcore.specs.Outcomes.{Certifies, Checks, Explains, IsOverSession, IsToCheck, Prints, PrintsFirst, Request, Runs, Task, graphs_due, make_due, outcome, texts}
use Rattle.gcore.specs.QueryFiles.{place_at}
use Rattle.gcore.specs.TextLines.{IsHeldPlace, IsHeldText}
use Rattle.gcore.specs.declared.command.Command.{Command}
use Rattle.gcore.specs.declared.command.Command.TheVariants.{Run, Cert, Explain, Check, Make}
use Rattle.gcore.specs.declared.pair.Pair.{Pair}
use Rattle.gcore.specs.declared.placed_fault.PlacedFault.TheVariants.{Undefined, BadCost, CostPastRange, IdsSpent}
use Rattle.gcore.specs.declared.status.Status.{Status}
use Rattle.gcore.specs.declared.status.Status.TheVariants.{Done}
use Rattle.gcore.specs.declared.stop.Stop.{Stop}
use Rattle.gcore.specs.declared.stop.Stop.TheVariants.{Usage, Unread, TooLarge, Refused, Text, Sorts, Certificate, Rejected, Faulted, Unwritten, OutOfMemory}

-- a sink before and after a call: its count of faults, and what it took, where it tells that
pub record Change : Type 0 where
  pub faults_before : ℕ
  pub faults_after : ℕ
  pub taken_before : Option (List ℕ)
  pub taken_after : Option (List ℕ)

-- a call: the command of its words, if they are one; the files, where the folder tells them; the folder's count of faults before and after; and its output
pub record Call : Type 0 where
  pub command : Option Command
  pub files : Option Files
  pub faults_before : ℕ
  pub faults_after : ℕ
  pub out : Change

-- a sink gained exactly a text
abbrev pub Gains : Change → List ℕ → Type 0
Gains sink text = sink.taken_after ≡ append_known sink.taken_before text

-- a sink gained nothing
abbrev pub GainsNothing : Change → Type 0
GainsNothing sink = sink.taken_after ≡ sink.taken_before

-- a sink gained the beginning of a text
abbrev pub GainsPrefix : Change → List ℕ → Type 0
GainsPrefix sink text = (front : List ℕ) × (rest : List ℕ) × (front ++ rest ≡ text) × Gains sink front

-- a sink's count of faults rose
abbrev pub Failed : Change → Type 0
Failed sink = Rose sink.faults_before sink.faults_after

-- a sink was told a line, or its beginning where the sink failed
abbrev pub Tells : Change → List ℕ → Type 0
Tells sink line = Gains sink line ⊎ (Failed sink × GainsPrefix sink line)

-- a text was written: whole; or its beginning, where the sink failed; or nothing of it, for want of memory
abbrev pub WritesText : Change → List ℕ → Result (Unit {0}) Stop → Type 0
WritesText out text (Ok done) = Gains out text
WritesText out text (Err Unwritten) = Failed out × GainsPrefix out text
WritesText out text (Err OutOfMemory) = GainsNothing out
WritesText out text (Err stop) = ⊥

-- a fault at a token, as a stop
abbrev pub stop_of_fault : List Place → Fault → Stop
stop_of_fault places (fault.Undefined at row why) = Faulted (Undefined why (place_at places at) row)
stop_of_fault places (fault.BadCost at walk) = Faulted (BadCost (place_at places at) (walk_text walk))
stop_of_fault places (fault.CostPastRange at row) = Faulted (CostPastRange (place_at places at) row)
stop_of_fault places (fault.IdsSpent at needed) = Faulted (IdsSpent (place_at places at) needed)

-- a session ends at a fault, and the texts of what it printed before were written
abbrev pub EndsAtFault : Request → Change → Stop → Type 0
EndsAtFault r out stop =
    (graphs : List PropertyGraph) × (fault : Fault) × Prints r graphs (Some fault) × (stop ≡ stop_of_fault r.query.places fault) × Gains out (texts r.style graphs)

-- a session ends at a fault, and nothing was written
abbrev pub EndsSilently : Request → Change → Stop → Type 0
EndsSilently r out stop =
    (graphs : List PropertyGraph) × (fault : Fault) × Prints r graphs (Some fault) × (stop ≡ stop_of_fault r.query.places fault) × GainsNothing out

-- the beginning of the texts of what the first statements print was written
abbrev pub WritesBeginning : Request → Change → Type 0
WritesBeginning r out = (graphs : List PropertyGraph) × PrintsFirst r graphs × GainsPrefix out (texts r.style graphs)

-- the session of a request was run: the texts of what it prints were written; or it ended at a fault; or the output failed, or memory
-- was wanting, behind the beginning of these texts
abbrev pub RunsSession : Request → Change → Result (Unit {0}) Stop → Type 0
RunsSession r out (Ok done) = (graphs : List PropertyGraph) × Prints r graphs None × Gains out (texts r.style graphs)
RunsSession r out (Err (Faulted fault)) = EndsAtFault r out (Faulted fault)
RunsSession r out (Err Unwritten) = Failed out × WritesBeginning r out
RunsSession r out (Err OutOfMemory) = WritesBeginning r out
RunsSession r out (Err stop) = ⊥

-- the session about a made graph was run
abbrev pub RunsMade : MakeKind → (size start : ℕ) → Change → Result (Unit {0}) Stop → Type 0
RunsMade kind size start out result = (r : Request) × (make_due kind size start ≡ Ok r) × RunsSession r out result

-- the folder's count of faults rose in the call
abbrev pub ReadFault : Call → Type 0
ReadFault call = Rose call.faults_before call.faults_after

-- where the files are told, this stop is due
abbrev pub IsDue : Call → Stop → Type 0
IsDue call stop = IfSome call.files (λ files. outcome call.command files ≡ Err stop)

-- a text of which the beginning may have been written: the texts of what the first statements print; the lines that explain a session; its
-- certificate; or the line of a document that is accepted
abbrev pub MayBegin : Task → List ℕ → Type 0
MayBegin (Runs r) text = (graphs : List PropertyGraph) × PrintsFirst r graphs × (text ≡ texts r.style graphs)
MayBegin (Explains r) text = IsExplained r text
MayBegin (Certifies r) text = IsCertified r text
MayBegin (Checks bytes) text = (searches : ℕ) × IsOutcome bytes (Ok searches) × (text ≡ accepted_line searches)

-- where the files are told, `out` gained nothing, or the beginning of such a text
abbrev pub GainsDuePrefix : Call → Type 0
GainsDuePrefix call =
    IfSome call.files (λ files. GainsNothing call.out
    ⊎ ((task : Task) × (text : List ℕ) × (outcome call.command files ≡ Ok task) × MayBegin task text × GainsPrefix call.out text))

-- what a call does ends at the fault of a stop: its texts before were written, but nothing of what explains or certifies a session
abbrev pub FaultsAt : Task → Change → Stop → Type 0
FaultsAt (Runs r) out stop = EndsAtFault r out stop
FaultsAt (Explains r) out stop = EndsSilently r out stop
FaultsAt (Certifies r) out stop = EndsSilently r out stop
FaultsAt (Checks bytes) out stop = ⊥

abbrev pub FaultIsDue : Call → Stop → Type 0
FaultIsDue call stop = IfSome call.files (λ files. (task : Task) × (outcome call.command files ≡ Ok task) × FaultsAt task call.out stop)

-- where the files are told, the document that is to be checked is answered so
abbrev pub IsCheckedAs : Call → Result ℕ CheckRefusal → Type 0
IsCheckedAs call answer = IfSome call.files (λ files. (bytes : List ℕ) × IsToCheck (outcome call.command files) bytes × IsOutcome bytes answer)

-- a graph file's turn comes once those before it are accepted
abbrev pub IsTurnOfGraph : Option Files → List Pair → List ℕ → Type 0
IsTurnOfGraph told pairs file =
    (before : List Pair) × (pair : Pair) × (after : List Pair) × (pairs ≡ before ++ pair ∷ after) × (file ≡ pair.file) × IfSome told (λ files. IsOk (graphs_due files [] before))

-- the query file's turn comes once all graph files are accepted
abbrev pub IsTurnOfQuery : Option Files → List ℕ → List Pair → List ℕ → Type 0
IsTurnOfQuery told query pairs file = (file ≡ query) × IfSome told (λ files. IsOk (graphs_due files [] pairs))

-- the graph files of a command that reads them
abbrev pub graphs_of : Command → List Pair
graphs_of (Run query pairs) = pairs
graphs_of (Cert query pairs) = pairs
graphs_of (Explain query pairs) = pairs
graphs_of (Check document) = []
graphs_of (Make kind size start) = []

abbrev pub IsTurnOf : Option Files → Command → List ℕ → Type 0
IsTurnOf told (Run query pairs) file = IsTurnOfGraph told pairs file ⊎ IsTurnOfQuery told query pairs file
IsTurnOf told (Cert query pairs) file = IsTurnOfGraph told pairs file ⊎ IsTurnOfQuery told query pairs file
IsTurnOf told (Explain query pairs) file = IsTurnOfGraph told pairs file ⊎ IsTurnOfQuery told query pairs file
IsTurnOf told (Check document) file = file ≡ document
IsTurnOf told (Make kind size start) file = ⊥

-- the turn of the query file of a command that reads one comes
abbrev pub IsTurnOfItsQuery : Option Files → Command → Type 0
IsTurnOfItsQuery told (Run query pairs) = IsTurnOfQuery told query pairs query
IsTurnOfItsQuery told (Cert query pairs) = IsTurnOfQuery told query pairs query
IsTurnOfItsQuery told (Explain query pairs) = IsTurnOfQuery told query pairs query
IsTurnOfItsQuery told (Check document) = ⊥
IsTurnOfItsQuery told (Make kind size start) = ⊥

-- the turn of the session of a command that has one comes: with its query file; that of `make` has no file to wait for
abbrev pub IsTurnOfItsSession : Option Files → Command → Type 0
IsTurnOfItsSession told (Run query pairs) = IsTurnOfQuery told query pairs query
IsTurnOfItsSession told (Cert query pairs) = IsTurnOfQuery told query pairs query
IsTurnOfItsSession told (Explain query pairs) = IsTurnOfQuery told query pairs query
IsTurnOfItsSession told (Check document) = ⊥
IsTurnOfItsSession told (Make kind size start) = ⊤

-- the file is one of the command's, and its turn comes
abbrev pub IsReached : Call → List ℕ → Type 0
IsReached call file = IsSomeAnd call.command (λ command. IsTurnOf call.files command file)

-- the file is one of the command's graph files, and its turn comes
abbrev pub IsReachedGraph : Call → List ℕ → Type 0
IsReachedGraph call file = IsSomeAnd call.command (λ command. IsTurnOfGraph call.files (graphs_of command) file)

-- the command reads a query file, and its turn comes
abbrev pub IsReachedQuery : Call → Type 0
IsReachedQuery call = IsSomeAnd call.command (λ command. IsTurnOfItsQuery call.files command)

-- the command runs a session, and its turn comes
abbrev pub IsReachedSession : Call → Type 0
IsReachedSession call = IsSomeAnd call.command (λ command. IsTurnOfItsSession call.files command)

-- a command reads a document
abbrev pub HasDocument : Command → Type 0
HasDocument (Run query pairs) = ⊥
HasDocument (Cert query pairs) = ⊥
HasDocument (Explain query pairs) = ⊥
HasDocument (Check document) = ⊤
HasDocument (Make kind size start) = ⊥

-- a file can't be read: where the files are told that is due, or the folder's count rose; else the count rose
abbrev pub IsUnread : Call → List ℕ → Type 0
IsUnread call file = MatchOption call.files (ReadFault call) (λ files. (outcome call.command files ≡ Err (Unread file)) ⊎ ReadFault call)

-- the cause of each stop; it left `out` as it was, or with the beginning of what is due
abbrev pub StopsFor : Call → Stop → Type 0
StopsFor call Usage = (call.command ≡ None) × GainsNothing call.out
StopsFor call (Unread file) = IsReached call file × IsUnread call file × GainsNothing call.out
StopsFor call (TooLarge file) = IsReached call file × IsDue call (TooLarge file) × GainsNothing call.out
StopsFor call (Refused refusal file) = IsReachedGraph call file × IsDue call (Refused refusal file) × GainsNothing call.out
StopsFor call (Text refusal) = IsReachedQuery call × IsDue call (Text refusal) × GainsNothing call.out
StopsFor call (Sorts rule place) = IsReachedQuery call × IsDue call (Sorts rule place) × GainsNothing call.out
StopsFor call (Certificate refusal) = IsSomeAnd call.command HasDocument × IsCheckedAs call (Err (check.Cert refusal)) × GainsNothing call.out
StopsFor call (Rejected search rule) = IsSomeAnd call.command HasDocument × IsCheckedAs call (Err (check.Rejected search rule)) × GainsNothing call.out
StopsFor call (Faulted fault) = IsReachedSession call × FaultIsDue call (Faulted fault)
StopsFor call Unwritten = IsSome call.command × Failed call.out × GainsDuePrefix call
StopsFor call OutOfMemory = GainsDuePrefix call

-- what a call has to do comes to this text: the texts of the graphs that the session prints; the lines that explain it; its certificate; or
-- the line of a document that is accepted
abbrev pub ComesTo : Task → List ℕ → Type 0
ComesTo (Runs r) text = (graphs : List PropertyGraph) × Prints r graphs None × (text ≡ texts r.style graphs)
ComesTo (Explains r) text = IsExplained r text
ComesTo (Certifies r) text = IsCertified r text
ComesTo (Checks bytes) text = (searches : ℕ) × IsOutcome bytes (Ok searches) × (text ≡ accepted_line searches)

-- the call did what is due: where the files are told, `out` gained exactly the text that this comes to
abbrev pub Finishes : Call → Type 0
Finishes call =
    IsSome call.command
    × IfSome call.files (λ files. (task : Task) × (text : List ℕ) × (outcome call.command files ≡ Ok task) × ComesTo task text × Gains call.out text)

-- a call finishes, or stops for a cause
abbrev pub Answers : Call → Result (Unit {0}) Stop → Type 0
Answers call (Ok done) = Finishes call
Answers call (Err stop) = StopsFor call stop

-- a call ends: it finishes with the status Done and tells `err` nothing, or it stops for a cause, with the cause's status and line
abbrev pub Ends : Call → Change → Status → Type 0
Ends call err status =
    ((status ≡ Done) × Finishes call × GainsNothing err)
    ⊎ ((stop : Stop) × (status ≡ status_of stop) × StopsFor call stop × Tells err (line_of stop))

-- the graph files that a command reads
abbrev pub graph_files : Option Command → List (List ℕ)
graph_files None = []
graph_files (Some command) = map (λ (p : Pair). p.file) (graphs_of command)

-- the files that a command reads: the query file and the graph files, or the document
abbrev pub named_files : Option Command → List (List ℕ)
named_files None = []
named_files (Some (Run query pairs)) = query ∷ map (λ (p : Pair). p.file) pairs
named_files (Some (Cert query pairs)) = query ∷ map (λ (p : Pair). p.file) pairs
named_files (Some (Explain query pairs)) = query ∷ map (λ (p : Pair). p.file) pairs
named_files (Some (Check document)) = document ∷ []
named_files (Some (Make kind size start)) = []

-- a command reads a query file
abbrev pub HasQuery : Command → Type 0
HasQuery (Run query pairs) = ⊤
HasQuery (Cert query pairs) = ⊤
HasQuery (Explain query pairs) = ⊤
HasQuery (Check document) = ⊥
HasQuery (Make kind size start) = ⊥

-- a command has a session, which it runs, explains or certifies
abbrev pub HasSession : Command → Type 0
HasSession (Run query pairs) = ⊤
HasSession (Cert query pairs) = ⊤
HasSession (Explain query pairs) = ⊤
HasSession (Check document) = ⊥
HasSession (Make kind size start) = ⊤

-- where the files are told, the session that is asked for ends at the fault of a stop
abbrev pub EndsAt : Option Files → Option Command → Stop → Type 0
EndsAt told command stop =
    IfSome told (λ files. (task : Task) × (r : Request) × (graphs : List PropertyGraph) × (fault : Fault) × (outcome command files ≡ Ok task)
    × IsOverSession task r × Prints r graphs (Some fault) × (stop ≡ stop_of_fault r.query.places fault))

-- a stop about a file is about one that the command reads, and one at a fault is about a fault of the session
abbrev pub MayStop : Option Files → Option Command → Stop → Type 0
MayStop told command (Unread file) = Contains (named_files command) file
MayStop told command (TooLarge file) = Contains (named_files command) file
MayStop told command (Refused refusal file) = Contains (graph_files command) file × IsHeld refusal
MayStop told command (Text refusal) = IsSomeAnd command HasQuery × IsHeldText refusal
MayStop told command (Sorts rule place) = IsSomeAnd command HasQuery × IsHeldPlace place
MayStop told command (Certificate refusal) = IsSomeAnd command HasDocument × IsHeldCertificate refusal
MayStop told command (Rejected search rule) = IsSomeAnd command HasDocument × IsHeldSearch search
MayStop told command (Faulted fault) = IsSomeAnd command HasSession × IsHeldFault fault × EndsAt told command (Faulted fault)
MayStop told command stop = ⊤

-- a told room holds the texts of whatever first statements print
abbrev pub HoldsTexts : Option ℕ → Request → Type 0
HoldsTexts room r = ForSome room (λ most. (graphs : List PropertyGraph) → PrintsFirst r graphs → length (texts r.style graphs) ≤ most)

-- the same of the session about a made graph
abbrev pub HoldsMade : Option ℕ → MakeKind → (size start : ℕ) → Type 0
HoldsMade room kind size start = (r : Request) → make_due kind size start ≡ Ok r → HoldsTexts room r

-- the same of what a call has to do, for which the files have to be told
abbrev pub HoldsText : Option ℕ → Option Files → Option Command → Type 0
HoldsText room told command =
    ForSome room (λ most. IsSomeAnd told (λ files. (task : Task) (text : List ℕ)
    → outcome command files ≡ Ok task → MayBegin task text → length text ≤ most))

-- a told room of `err` holds each line that may be due. The line of a bad cost is as long as its walk, so where a command runs a query
-- and its files are not told, no told room does
abbrev pub HoldsLines : Option ℕ → Option Files → Option Command → Type 0
HoldsLines room told command = ForSome room (λ r. (stop : Stop) → MayStop told command stop → length (line_of stop) ≤ r)
