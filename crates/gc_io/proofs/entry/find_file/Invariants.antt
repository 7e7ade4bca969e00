use Rattle.std.proofs.Common.{◌≡◌, drop}
use Rattle.gc_base.specs.Files.{file_of}
use Rattle.gc_io.proofs.entry.find_file.Given as goal

-- the first entry of the name stands among the entries that are left
abbrev pub invariant-loop-entry : goal.invariant-loop-entry
invariant-loop-entry l = file_of l.files l.name ≡ file_of (drop l.entry-index l.files) l.name
