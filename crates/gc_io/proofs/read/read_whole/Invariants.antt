use Rattle.std.proofs.Common.{◌≡◌, ◌+◌, ◌-◌, length}
use Rattle.gc_base.specs.Files.{IsReadSoFar}
use Rattle.gc_io.proofs.read.read_whole.Given as goal

-- what was read so far begins the file, and no fault came
abbrev pub invariant-loop-folder : goal.invariant-loop-folder
invariant-loop-folder g l = record {
  so_far : IsReadSoFar (g.F.Folder.files l.fn.folder) l.name l.bytes.items;
  kept : g.F.Folder.files l.folder ≡ g.F.Folder.files l.fn.folder;
  stood : g.F.Folder.faults l.folder ≡ g.F.Folder.faults l.fn.folder;
}

-- each turn adds a byte, and the loop stops past its limit
abbrev pub decreases-loop-folder : goal.decreases-loop-folder
decreases-loop-folder g l = l.limit + 1 - length l.bytes.items
