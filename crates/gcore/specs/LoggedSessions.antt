-- What keeping a log of a session does, statement by statement and as a whole.
use Rattle.std.specs.Prelude.{◌≡◌, ℕ, List, slice_get, Option, Some, Result, Ok, Err, ⊤}
use Rattle.gc_ast.specs.Trees.{Tree, AStatement}
use Rattle.gc_base.specs.declared.place.Place.{Place}
use Rattle.gc_catalog.specs.NamedGraphs.{NamedGraphs}
use Rattle.gc_lower.specs.Namings.{scope_in}
use Rattle.gc_lower.specs.Scopes.{Scope}
use Rattle.gc_query.specs.Evaluations.{Evaluation, EvaluatesStatement, names_behind}
use Rattle.gc_query.specs.Logs.{IsGained, Log, Tells, new_log}
use Rattle.gc_query.specs.Sessions.{Answer, Answers, Fails, behind}
use Rattle.gc_query.specs.Steps.{standing}
use Rattle.gc_query.specs.declared.fault.Fault.{Fault}
use Rattle.gc_query.specs.declared.log.Wants.{Wants}
use Rattle.gc_spec.specs.PropertyGraph.{PropertyGraph}
use Rattle.gcore.specs.Endings.{stop_of_fault}
use Rattle.gcore.specs.EvaluatedSessions.{IsEvaluatedOver}
use Rattle.gcore.specs.Outcomes.{Prints, Request}
use Rattle.gcore.specs.SessionSteps.{GoesWell}
use Rattle.gcore.specs.declared.stop.Stop.{Stop}
use Rattle.gcore.specs.declared.stop.Stop.TheVariants.{Faulted, OutOfMemory}

-- a statement had no fault, and what it evaluates was told to a log
pub record IsTold (s : Scope) (before after : NamedGraphs) (log later : Log) (statement : Tree AStatement) : Type 0 where
  pub answer : Answer
  pub due : Answers s (standing before) statement answer
  pub well : GoesWell answer
  pub stands : standing after ≡ behind (standing before) answer
  pub names : after.names ≡ names_behind before.names statement
  pub told : Tells s (EvaluatesStatement s before.names (standing before) statement) log later

-- a statement had the fault of a stop
pub record IsFaulted (s : Scope) (places : List Place) (before : NamedGraphs) (statement : Tree AStatement) (stop : Stop) : Type 0 where
  pub fault : Fault
  pub due : Answers s (standing before) statement (Fails fault)
  pub told : stop ≡ stop_of_fault places fault

-- a statement was evaluated
abbrev pub LogsStatement : Scope → List Place → (before after : NamedGraphs) → (log later : Log) → Tree AStatement → Result (Unit {0}) Stop → Type 0
LogsStatement s places before after log later statement (Ok done) = IsTold s before after log later statement
LogsStatement s places before after log later statement (Err OutOfMemory) = ⊤
LogsStatement s places before after log later statement (Err (Faulted fault)) = IsFaulted s places before statement (Faulted fault)
LogsStatement s places before after log later statement (Err stop) = ⊥

-- the same of the statement of a number
abbrev pub LogsStatementAt : Scope → List Place → (before after : NamedGraphs) → (log later : Log) → List (Tree AStatement) → ℕ → Result (Unit {0}) Stop → Type 0
LogsStatementAt s places before after log later statements i result =
    (statement : Tree AStatement) → slice_get statements i ≡ Some statement → LogsStatement s places before after log later statement result

-- the session of a request, over graphs of these names, has no fault, and a log has what it wants of the CONSTRUCTs that it evaluates
pub record HasLog (names : List (Option (List ℕ))) (r : Request) (wants : Wants) (log : Log) : Type 0 where
  pub all : List Evaluation
  pub evaluated : IsEvaluatedOver names r all
  pub gained : IsGained (scope_in r.query.file 0) (new_log wants) all log

-- the session ends at the fault of a stop
abbrev pub FaultsSession : Request → Stop → Type 0
FaultsSession r stop = (graphs : List PropertyGraph) × (fault : Fault) × Prints r graphs (Some fault) × (stop ≡ stop_of_fault r.query.places fault)

-- a log of the session was kept
abbrev pub LogsSession : List (Option (List ℕ)) → Request → Wants → Result Log Stop → Type 0
LogsSession names r wants (Ok log) = HasLog names r wants log
LogsSession names r wants (Err OutOfMemory) = ⊤
LogsSession names r wants (Err (Faulted fault)) = FaultsSession r (Faulted fault)
LogsSession names r wants (Err stop) = ⊥
