-- What each step of a call answers.
use Rattle.std.specs.Prelude.{◌≡◌, ℕ, List, Option, Result, Ok, Err, IfSome, MatchOption, ⊤, ◌⊎◌}
use Rattle.gc_base.specs.Faults.{Rose}
use Rattle.gc_base.specs.Files.{Files}
use Rattle.gc_sorts.specs.declared.checked.Checked.{Checked}
use Rattle.gcore.specs.QueryFiles.{PlacedFile, placed}
use Rattle.gcore.specs.declared.stop.Stop.{Stop}
use Rattle.gcore.specs.declared.stop.Stop.TheVariants.{Usage, Unread, TooLarge, Refused, Text, Sorts, Certificate, Rejected, Faulted, Unwritten, OutOfMemory}

-- a folder in a step: its files, where it tells them, and its count of faults before and after
pub record Reading : Type 0 where
  pub files : Option Files
  pub faults_before : ℕ
  pub faults_after : ℕ

-- a stop of a step that reads a file: it is due, or the folder's count rose, or it is want of memory
abbrev pub StopsReading : {A : Type 0} → Reading → List ℕ → (Files → Result A Stop) → Stop → Type 0
StopsReading reading name due Usage = ⊥
StopsReading reading name due (Unread file) =
    (file ≡ name) × MatchOption reading.files (Rose reading.faults_before reading.faults_after) (λ files. (due files ≡ Err (Unread file)) ⊎ Rose reading.faults_before reading.faults_after)
StopsReading reading name due (TooLarge file) = (file ≡ name) × IfSome reading.files (λ files. due files ≡ Err (TooLarge file))
StopsReading reading name due (Refused refusal file) = ⊥
StopsReading reading name due (Text refusal) = ⊥
StopsReading reading name due (Sorts rule place) = ⊥
StopsReading reading name due (Certificate refusal) = ⊥
StopsReading reading name due (Rejected search rule) = ⊥
StopsReading reading name due (Faulted fault) = ⊥
StopsReading reading name due Unwritten = ⊥
StopsReading reading name due OutOfMemory = ⊤

-- a graph that is due is given, or the rule that is broken is told
abbrev pub Accepts : {A : Type 0} → Result A Stop → Result A Stop → Type 0
Accepts due (Err OutOfMemory) = ⊤
Accepts due answer = due ≡ answer

-- a step that reads a file gives what is due, where the files are told, or stops
abbrev pub Reads : {A : Type 0} → Reading → List ℕ → (Files → Result A Stop) → Result A Stop → Type 0
Reads reading name due (Ok x) = IfSome reading.files (λ files. due files ≡ Ok x)
Reads reading name due (Err stop) = StopsReading reading name due stop

-- the same of a graph file, which may break a rule
abbrev pub StopsReadingGraph : {A : Type 0} → Reading → List ℕ → (Files → Result A Stop) → Stop → Type 0
StopsReadingGraph reading name due (Refused refusal file) = (file ≡ name) × IfSome reading.files (λ files. due files ≡ Err (Refused refusal file))
StopsReadingGraph reading name due stop = StopsReading reading name due stop

abbrev pub ReadsGraph : {A : Type 0} → Reading → List ℕ → (Files → Result A Stop) → Result A Stop → Type 0
ReadsGraph reading name due (Ok x) = IfSome reading.files (λ files. due files ≡ Ok x)
ReadsGraph reading name due (Err stop) = StopsReadingGraph reading name due stop

-- the same of a query file, which may be refused
abbrev pub StopsReadingQuery : {A : Type 0} → Reading → List ℕ → (Files → Result A Stop) → Stop → Type 0
StopsReadingQuery reading name due (Text refusal) = IfSome reading.files (λ files. due files ≡ Err (Text refusal))
StopsReadingQuery reading name due (Sorts rule place) = IfSome reading.files (λ files. due files ≡ Err (Sorts rule place))
StopsReadingQuery reading name due stop = StopsReading reading name due stop

-- the query file that is due is given, or a stop
abbrev pub ReadsQuery : Reading → List ℕ → (Files → Result PlacedFile Stop) → Result Checked Stop → Type 0
ReadsQuery reading name due (Ok checked) = IfSome reading.files (λ files. due files ≡ Ok (placed checked))
ReadsQuery reading name due (Err stop) = StopsReadingQuery reading name due stop
