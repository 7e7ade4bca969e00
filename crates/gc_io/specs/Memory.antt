-- What folders and sinks in memory hold, and what they answer.
use Rattle.std.specs.Prelude.{◌≡◌, ℕ, ◌-◌, min, Bool, List, length, nat_eq, if◌then◌else◌, None, Some, Ok, Err}
use Rattle.std.specs.declared.option.Option.{Option}
use Rattle.std.specs.declared.result.Result.{Result}
use Rattle.std.specs.List.{list_any}
use Rattle.gc_base.specs.Faults.{one_more}
use Rattle.gc_base.specs.Files.{Files, file_of}
use Rattle.gc_io.specs.declared.folder.FolderFault.{FolderFault}
use Rattle.gc_io.specs.declared.folder.FolderFault.TheVariants.{Missing, Failed}

-- whether a call, numbered from 0, is one of those that are to fail
abbrev pub is_failing : List ℕ → ℕ → Bool
is_failing failing call = list_any (λ k. nat_eq k call) failing

-- a folder in memory: its files, the calls that are to fail, how many calls there were, and how many failed
pub record FolderState : Type 0 where
  pub files : Files
  pub failing : List ℕ
  pub calls : ℕ
  pub faults : ℕ

-- one call more, which counts as a fault exactly where its number is listed
abbrev pub after_read : FolderState → FolderState
after_read state = record state {
  calls = one_more state.calls;
  faults = if is_failing state.failing state.calls then one_more state.faults else state.faults;
}

-- a read gives as many bytes as the file has from the place on and the buffer has room for
abbrev pub read_count : Option (List ℕ) → ℕ → ℕ → Result ℕ FolderFault
read_count None at room = Err Missing
read_count (Some bytes) at room = Ok (min room (length bytes - at))

-- what a read of a folder in memory answers: its failing calls fail
abbrev pub read_answer : FolderState → List ℕ → ℕ → ℕ → Result ℕ FolderFault
read_answer state name at room =
    if is_failing state.failing state.calls then Err Failed else read_count (file_of state.files name) at room

-- a sink in memory: its bytes, the spare room of their vector, the calls that are to fail, the most bytes that a call takes, how many calls there were, and how many failed
pub record SinkState : Type 0 where
  pub bytes : List ℕ
  pub spare : ℕ
  pub failing : List ℕ
  pub most : ℕ
  pub calls : ℕ
  pub faults : ℕ

-- a sink keeps its failing calls and the most bytes that a call takes
abbrev pub IsScripted : SinkState → SinkState → Type 0
IsScripted old new = (new.failing ≡ old.failing) × (new.most ≡ old.most)

-- a sink whose room is fixed when it is made: its bytes, and the room that is left
pub record RoomState : Type 0 where
  pub bytes : List ℕ
  pub spare : ℕ
