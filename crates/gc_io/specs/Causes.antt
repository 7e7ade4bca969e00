-- When a folder may answer a fault.
use Rattle.std.specs.Prelude.{◌≡◌, ℕ, List, None, Some}
use Rattle.std.specs.declared.option.Option.{Option}
use Rattle.gc_base.specs.Faults.{Rose}
use Rattle.gc_base.specs.Files.{Files, file_of}
use Rattle.gc_io.specs.declared.folder.FolderFault.{FolderFault}
use Rattle.gc_io.specs.declared.folder.FolderFault.TheVariants.{Missing, Failed}

-- a name is missing where the told files lack it, and over files that are not told only where the count of faults rose
abbrev pub IsMissing : Option Files → List ℕ → ℕ → ℕ → Type 0
IsMissing None name before now = Rose before now
IsMissing (Some files) name before now = file_of files name ≡ None

-- the cause of a folder's fault: a name that is missing, or a count of faults that rose
abbrev pub HasCause : Option Files → List ℕ → ℕ → ℕ → FolderFault → Type 0
HasCause told name before now Missing = IsMissing told name before now
HasCause told name before now Failed = Rose before now
