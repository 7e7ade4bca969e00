use Rattle.std.proofs.Common.{◌≡◌, ◌++◌, map, take}
use Rattle.gc_build_numbers.specs.Keys.{term_part}
use Rattle.gc_build_numbers.specs.Settings.{on_row}
use Rattle.gc_build_numbers.proofs.keys.Placed.read.Given as goal

-- with the parts for the terms so far
abbrev pub invariant-loop-reader : goal.invariant-loop-reader
invariant-loop-reader g l = l.parts ≡ l.initial.parts ++ map (term_part (on_row l.self.setting.now l.self.row.now)) (take l.reader-index l.readers)
