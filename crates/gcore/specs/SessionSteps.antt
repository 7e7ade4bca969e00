-- What running one statement of a session does.
use Rattle.std.specs.Prelude.{◌≡◌, ℕ, ◌≤◌, List, length, slice_get, Option, Some, None, Result, Ok, Err, ⊤}
use Rattle.std.specs.Option.{ForSome}
use Rattle.gc_ast.specs.Trees.{Tree, AStatement}
use Rattle.gc_base.specs.Sinks.{room_after}
use Rattle.gc_base.specs.declared.place.Place.{Place}
use Rattle.gc_lower.specs.Scopes.{Scope}
use Rattle.gc_query.specs.Sessions.{Answer, Answers, Prints, Names, Fails, behind, printed_by}
use Rattle.gc_query.specs.Standings.{Standing, Made}
use Rattle.gc_query.specs.declared.fault.Fault.{Fault}
use Rattle.gcore.specs.Endings.{Change, Failed, Gains, GainsNothing, GainsPrefix, stop_of_fault}
use Rattle.gcore.specs.Outcomes.{texts}
use Rattle.gcore.specs.declared.stop.Stop.{Stop}
use Rattle.gcore.specs.declared.stop.Stop.TheVariants.{Faulted, Unwritten, OutOfMemory}
use Rattle.gcore.specs.declared.style.Style.{Style}

-- where a statement stands, how its graph is written, and what it does to the output: what stands before and behind it, and the told room then
pub record Turn : Type 0 where
  pub style : Style
  pub before : Standing
  pub after : Standing
  pub out : Change
  pub room_before : Option ℕ
  pub room_later : Option ℕ

-- a statement that has no fault
abbrev pub GoesWell : Answer → Type 0
GoesWell (Prints made) = ⊤
GoesWell (Names made) = ⊤
GoesWell (Fails fault) = ⊥

-- a statement had no fault, and what it prints was written
pub record IsPrinted (s : Scope) (t : Turn) (statement : Tree AStatement) : Type 0 where
  pub answer : Answer
  pub due : Answers s t.before statement answer
  pub well : GoesWell answer
  pub stands : t.after ≡ behind t.before answer
  pub written : Gains t.out (texts t.style (printed_by answer))
  pub room : t.room_later ≡ room_after t.room_before (length (texts t.style (printed_by answer)))
  pub calm : t.out.faults_before ≤ t.out.faults_after

-- a statement printed a graph, of whose text the beginning was written before the output failed
pub record IsCut (s : Scope) (t : Turn) (statement : Tree AStatement) : Type 0 where
  pub made : Made
  pub due : Answers s t.before statement (Prints made)
  pub failed : Failed t.out
  pub begun : GainsPrefix t.out (texts t.style (printed_by (Prints made)))

-- a statement had the fault of a stop
pub record IsAtFault (s : Scope) (places : List Place) (t : Turn) (statement : Tree AStatement) (stop : Stop) : Type 0 where
  pub fault : Fault
  pub due : Answers s t.before statement (Fails fault)
  pub told : stop ≡ stop_of_fault places fault
  pub nothing : GainsNothing t.out

-- a statement was run
abbrev pub RunsStatement : Scope → List Place → Turn → Tree AStatement → Result (Unit {0}) Stop → Type 0
RunsStatement s places t statement (Ok done) = IsPrinted s t statement
RunsStatement s places t statement (Err Unwritten) = IsCut s t statement
RunsStatement s places t statement (Err OutOfMemory) = GainsNothing t.out
RunsStatement s places t statement (Err (Faulted fault)) = IsAtFault s places t statement (Faulted fault)
RunsStatement s places t statement (Err stop) = ⊥

-- the same of the statement of a number
abbrev pub RunsStatementAt : Scope → List Place → Turn → List (Tree AStatement) → ℕ → Result (Unit {0}) Stop → Type 0
RunsStatementAt s places t statements i result = (statement : Tree AStatement) → slice_get statements i ≡ Some statement → RunsStatement s places t statement result

-- a told room holds the text of what the statement of a number prints
abbrev pub HoldsPrinted : Option ℕ → Style → Scope → Standing → List (Tree AStatement) → ℕ → Type 0
HoldsPrinted room style s at statements i =
    ForSome room (λ most. (statement : Tree AStatement) (made : Made) → slice_get statements i ≡ Some statement → Answers s at statement (Prints made)
    → length (texts style (printed_by (Prints made))) ≤ most)
