-- What a read of a whole file answers.
use Rattle.std.specs.Prelude.{◌≡◌, ℕ, ◌<◌, ◌≤◌, List, length, Bool, true, false, Ok, Err}
use Rattle.std.specs.declared.option.Option.{Option}
use Rattle.std.specs.declared.result.Result.{Result}
use Rattle.gc_base.specs.Faults.{Rose}
use Rattle.gc_base.specs.Files.{Files, IsFileOf, IsLonger, IsReadSoFar}
use Rattle.gc_io.specs.Causes.{IsMissing}
use Rattle.gc_io.specs.declared.folder.FolderFault.{FolderFault}
use Rattle.gc_io.specs.declared.folder.FolderFault.TheVariants as fault
use Rattle.gc_io.specs.declared.refusal.ReadRefusal.{ReadRefusal}
use Rattle.gc_io.specs.declared.refusal.ReadRefusal.TheVariants.{Missing, Failed, TooLarge, Memory}

-- a folder's fault, as a refusal
abbrev pub refusal_of : FolderFault → ReadRefusal
refusal_of fault.Missing = Missing
refusal_of fault.Failed = Failed

-- the cause of a refusal: a name is missing or a read failed as the folder says; a told file is too large where it has more bytes than the limit, and no fault came before
abbrev pub IsRefused : Option Files → List ℕ → ℕ → ℕ → ℕ → ReadRefusal → Type 0
IsRefused told name limit before now Missing = IsMissing told name before now
IsRefused told name limit before now Failed = Rose before now
IsRefused told name limit before now TooLarge = IsLonger told name limit × (now ≡ before)
IsRefused told name limit before now Memory = now ≡ before

-- a read of a whole file gives the whole told file, which has at most `limit` bytes, and no fault came; or it is refused with a cause
abbrev pub ReadsWhole : Option Files → List ℕ → ℕ → ℕ → ℕ → Result (List ℕ) ReadRefusal → Type 0
ReadsWhole told name limit before now (Ok bytes) = IsFileOf told name bytes × (length bytes ≤ limit) × (now ≡ before)
ReadsWhole told name limit before now (Err refusal) = IsRefused told name limit before now refusal

-- the cause of a refusal of one piece, for which no file is too large
abbrev pub IsPieceRefused : Option Files → List ℕ → ℕ → ℕ → ReadRefusal → Type 0
IsPieceRefused told name before now Missing = IsMissing told name before now
IsPieceRefused told name before now Failed = Rose before now
IsPieceRefused told name before now TooLarge = ⊥
IsPieceRefused told name before now Memory = now ≡ before

-- a piece more of a file was added, or the file is whole, and no fault came; or it is refused with a cause
abbrev pub ReadsPiece : Option Files → List ℕ → ℕ → ℕ → List ℕ → List ℕ → Result Bool ReadRefusal → Type 0
ReadsPiece told name before now so_far after (Ok true) = IsReadSoFar told name after × (length so_far < length after) × (now ≡ before)
ReadsPiece told name before now so_far after (Ok false) = IsFileOf told name after × (after ≡ so_far) × (now ≡ before)
ReadsPiece told name before now so_far after (Err refusal) = IsPieceRefused told name before now refusal
